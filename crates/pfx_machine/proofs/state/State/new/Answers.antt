use Rattle.std.proofs.Common.{◌≡◌, sym, ◌∙◌, ap, subst, arith, length}
use Rattle.std.proofs.lemmas.List.{length-replicate}
use Rattle.std.specs.Prelude.{None}
use Rattle.pfx_weights.specs.Sets.{IsOfItsTasks}
use Rattle.pfx_columns.specs.Ledgers.{Ledger}
use Rattle.pfx_machine.proofs.state.State.new.Goals as goal

pub invariant_of-result : goal.invariant_of-result
invariant_of-result g c =
    let is = c.in_ok-ledger.ensures in
    let slot : c.in_ok-ledger.ledger.slot ≡ 0 = ap (λ (l : Ledger). l.slot) is in
    let set = ap (λ (l : Ledger). l.set) is in
    record {
      number = omega arith;
      slot = omega (arith, slot);
      set = subst IsOfItsTasks (sym set) c.is_of_its_tasks.ensures;
      ledger = c.total-total.ensures.ledger;
      jobs = ap length c.in_ok-jobs.ensures ∙ (length-replicate _ None ∙ (c.real.ensures ∙ sym (ap (λ (l : Ledger). l.set.real) is)));
    }

use Rattle.std.proofs.Common.{ℕ, length, refl, sym, ◌∙◌, ap, subst, option_map, replicate}
use Rattle.std.specs.Prelude.{None}
use Rattle.std.proofs.lemmas.List.{length-replicate}
use Rattle.pfx_weights.specs.Sets.{FilledSet, IsOfItsTasks}
use Rattle.pfx_program.specs.Beginning.{IsFirstState}
use Rattle.pfx_program.proofs.Beginnings.{begins_of}
use Rattle.pfx_program.proofs.beginning.first_state.Goals as goal

pub from_parts-requires-clause-set : goal.from_parts-requires-clause-set
from_parts-requires-clause-set c =
    let of = begins_of c.args.set.now (option_map (λ s. s.now) c.args.at) c.in_ok-ledger.ledger c.in_ok-ledger.ensures.ok in
    subst IsOfItsTasks (sym of) c.is_of_its_tasks.ensures

pub from_parts-requires-clause-jobs : goal.from_parts-requires-clause-jobs
from_parts-requires-clause-jobs c =
    let of = begins_of c.args.set.now (option_map (λ s. s.now) c.args.at) c.in_ok-ledger.ledger c.in_ok-ledger.ensures.ok in
    ap length c.in-Ok.ensures ∙ (length-replicate c.real.result None ∙ (c.real.ensures ∙ sym (ap (λ (set : FilledSet). set.real) of)))

pub returns-clause-ok : goal.returns-clause-ok
returns-clause-ok c =
    let at = option_map (λ s. s.now) c.args.at in
    let of = begins_of c.args.set.now at c.in_ok-ledger.ledger c.in_ok-ledger.ensures.ok in
    subst (IsFirstState c.args.set.now c.args.segment at) (sym c.from_parts.ensures) (record {
      number = refl;
      from = refl;
      ledger = c.in_ok-ledger.ensures.ok;
      of = of;
      jobs = c.in-Ok.ensures ∙ ap (λ (n : ℕ). replicate n None) c.real.ensures;
      long = refl;
    })

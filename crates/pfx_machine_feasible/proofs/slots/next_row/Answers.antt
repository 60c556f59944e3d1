use Rattle.std.proofs.Common.{◌≡◌, ◌<◌, ◌+◌, ◌^◌, false, true, sym, ◌∙◌, subst, inl, inr, arith}
use Rattle.pfx_columns.specs.Ledgers.{Ledger, IsLedger}
use Rattle.pfx_choice.specs.declared.faults.ChoiceFault.{ChoiceFault}
use Rattle.pfx_choice.specs.declared.faults.ChoiceFault.TheVariants.{SlotLimit, NoMemory}
use Rattle.pfx_choice.specs.Choices.{Fails}
use Rattle.pfx_machine_feasible.specs.Endless.{IsEndless}
use Rattle.pfx_machine_feasible.proofs.Endless.{endless_fails, row_keeps}
use Rattle.pfx_machine_feasible.proofs.slots.next_row.Goals as goal

is_memory : (g : Ledger) (f : ChoiceFault) → IsLedger g → IsEndless g → g.slot + 1 < 2 ^ 40 → Fails g f → f ≡ NoMemory
is_memory g f ledger endless before fails = elim (endless_fails g ledger endless f fails) [
  | inl last ↦ (let now : Fails g SlotLimit = subst (Fails g) last fails in absurd (omega arith))
  | inr memory ↦ memory
]

pub prove-unreachable-requires : goal.prove-unreachable-requires
prove-unreachable-requires c =
    let memory = is_memory c.args.ledger.now c.in-Err.fault c.total-total.ensures.ledger c.requires.endless c.requires.before c.in-Err.ensures.row in
    let told : false ≡ true = sym c.if-prove.true ∙ c.is_memory-refused.ensures.1 memory in
    cc

pub returns-in-Ok-clause-row : goal.returns-in-Ok-clause-row
returns-in-Ok-clause-row c =
    let pf = c.in-Ok.ensures.row.pf in
    record {
      pf = pf;
      next = c.give.ensures;
      endless = subst IsEndless (sym c.give.ensures) (row_keeps c.args.ledger.now c.total-total.ensures.ledger c.requires.endless c.in-Ok.row pf);
    }

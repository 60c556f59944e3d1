-- A plan in parts: the ledger that the first one leaves begins the others.
use Rattle.std.proofs.Common.{◌≡◌, ℕ, zero, suc, ◌+◌, List, Some, None, Result, Ok, Err, refl, sym, ap, ◌∙◌, subst, arith}
use Rattle.pfx_weights.specs.Rows.{is_in}
use Rattle.pfx_columns.specs.Ledgers.{Ledger, IsLedger, after}
use Rattle.pfx_choice.specs.PfRows.{chosen}
use Rattle.pfx_choice.specs.declared.faults.ChoiceFault.{ChoiceFault}
use Rattle.pfx_machine.proofs.Keeping.{chosen_is, ledger_after_row}
use Rattle.pfx_program_set.specs.SetFile.{FileTask}
use Rattle.pfx_program.specs.declared.form.OutputForm.{OutputForm}
use Rattle.pfx_program.specs.Leaving.{left, ledger_text}
use Rattle.pfx_program.specs.Ledger.{Begins}
use Rattle.pfx_program.specs.Lines.{Lines, before, slot_line, plan_lines}
use Rattle.pfx_program.specs.PlanLaws.{GoesOnFrom}
use Rattle.pfx_program.proofs.PlanLemmas.{row_lines, zero_lines, before-before, row_left, stop_left, zero_left}
use Rattle.pfx_program.proofs.ReadBack.{begins_back}

-- what is left is a ledger of the set, and the lines go on with its lines
record Parts (form : OutputForm) (tasks : List FileTask) (g : Ledger) (n : ℕ) (next : Ledger) : Type 0 where
  ledger : IsLedger next
  set : next.set ≡ g.set
  lines : (more : ℕ) → plan_lines form tasks g (n + more) ≡ before (plan_lines form tasks g n).text (plan_lines form tasks next more)

no_ledger : (next : Ledger) → None ≡ Some next → ⊥
no_ledger next e = cc

same_ledger : (g next : Ledger) → Some g ≡ Some next → g ≡ next
same_ledger g next e = cc

parts : (form : OutputForm) (tasks : List FileTask) (g : Ledger) (n : ℕ) (next : Ledger) → IsLedger g → left g n ≡ Some next → Parts form tasks g n next
parts form tasks g zero next ledger is =
    let same : g ≡ next = same_ledger g next (sym (zero_left g) ∙ is) in
    subst (Parts form tasks g 0) same (record {
      ledger = ledger;
      set = refl;
      lines = λ more. let place : 0 + more ≡ more = omega arith in rw (place, zero_lines form tasks g) refl;
    })
parts form tasks g (suc n) next ledger is =
    by (chosen g) refl (λ row e. parts form tasks (after g (is_in row)) n next (ledger_after_row g row ledger (chosen_is g row e)) (sym (row_left g row n e) ∙ is))
  where
    by : (o : Result (List ℕ) ChoiceFault) → chosen g ≡ o → ((row : List ℕ) → chosen g ≡ Ok row → Parts form tasks (after g (is_in row)) n next) → Parts form tasks g (suc n) next
    by (Ok row) e rest =
        let then = after g (is_in row) in
        let line = slot_line form tasks g.slot row in
        let r = rest row e in
        record {
          ledger = r.ledger;
          set = r.set;
          lines = λ more.
              let place : suc n + more ≡ suc (n + more) = omega arith in
              rw place (row_lines form tasks g row (n + more) e ∙ ap (before line) (r.lines more) ∙ before-before line (plan_lines form tasks then n).text (plan_lines form tasks next more)
              ∙ ap (λ (l : Lines). before l.text (plan_lines form tasks next more)) (sym (row_lines form tasks g row n e)));
        }
    by (Err why) e rest = absurd (no_ledger next (sym (stop_left g why n e) ∙ is))

pub goes_on_from : (form : OutputForm) (tasks : List FileTask) (g : Ledger) (n : ℕ) (next : Ledger) → IsLedger g → left g n ≡ Some next → GoesOnFrom form tasks g n next
goes_on_from form tasks g n next ledger is =
    let p = parts form tasks g n next ledger is in
    record { begins = subst (λ set. Begins set (Some (ledger_text next)) next) p.set (begins_back next p.ledger); lines = p.lines }

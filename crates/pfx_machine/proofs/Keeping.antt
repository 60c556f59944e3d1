-- Accepted commands keep a state a state.
use Rattle.std.specs.Prelude.{◌≡◌, ℕ, ◌+◌, ◌<◌, ◌^◌, if◌then◌else◌, List, [], ◌∷◌, ◌++◌, length, nat_lt, Option, Some, None, Result, Ok, Err, refl}
use Rattle.std.proofs.Common.{arith, suc, sym, ◌∙◌, ap, subst, append_assoc, append-nil, inl, inr}
use Rattle.std.proofs.lemmas.Bool.{cond-true, cond-false, cases_lt, lt-ltb, le-ltb}
use Rattle.std.proofs.lemmas.Option.{none-some}
use Rattle.std.specs.List.Sorted.{IsStrictlyIncreasing}
use Rattle.pfx_weights.specs.Rows.{is_in}
use Rattle.pfx_weights.specs.Sets.{IsOfItsTasks}
use Rattle.pfx_columns.specs.Ledgers.{Ledger, IsLedger, IsFair, RefusesRow, after}
use Rattle.pfx_columns.specs.declared.faults.LedgerFault.{LedgerFault}
use Rattle.pfx_columns.specs.declared.faults.LedgerFault.TheVariants.{OutOfRange, WrongSum, NoMemory}
use Rattle.pfx_columns.proofs.Shown.{ledger_after}
use Rattle.pfx_choice.specs.Choices.{IsChosen}
use Rattle.pfx_choice.specs.PfRows.{chosen}
use Rattle.pfx_choice.specs.declared.faults.ChoiceFault.{ChoiceFault}
use Rattle.pfx_choice.proofs.Choosing.{row_fair}
use Rattle.pfx_choice.proofs.PfFunction.{pf_function}
use Rattle.pfx_choice.proofs.Planning.{pf_full}
use Rattle.pfx_jobs.specs.Kind.{Kind, Laws}
use Rattle.pfx_machine.specs.Plain.{Plain, whole, IsState}
use Rattle.pfx_machine.specs.Choosing.{row_in}
use Rattle.pfx_machine.proofs.Rowing.{row_chosen, row_below}
use Rattle.pfx_machine.proofs.Reweighs.{accepted_set}
use Rattle.pfx_machine.specs.Happenings.{Happening, row_or_none}
use Rattle.pfx_machine.specs.Outcome.{outcome}
use Rattle.pfx_machine.specs.Refusals.{refusal, command_fault, slot_fault}
use Rattle.pfx_machine.specs.Sessions.{AllAccepted, IsAcceptable}
use Rattle.pfx_machine.specs.Steps.{jobs_step, ledger_step, state_step, happening_in}
use Rattle.pfx_machine.specs.declared.command.Command.{Command}
use Rattle.pfx_machine.specs.declared.command.Command.TheVariants.{Submit, Slot, Withdraw, Reweigh}
use Rattle.pfx_machine.specs.declared.faults.MachineFault.{MachineFault}
use Rattle.pfx_machine.specs.declared.faults.MachineFault.TheVariants.{NumberLimit, NoRow}
use Rattle.pfx_machine.proofs.Compose.{outcome-none}
use Rattle.pfx_machine.proofs.Snoc.{outcome-snoc}

-- a row that the function chooses is chosen
pub chosen_is : (g : Ledger) (row : List ℕ) → chosen g ≡ Ok row → IsChosen g row
chosen_is g row h = ((pf_function g).chosen_rows row).1 h

-- the ledger after a chosen row
pub ledger_after_row : (g : Ledger) (row : List ℕ) → IsLedger g → IsChosen g row → IsLedger (after g (is_in row))
ledger_after_row g row h c = ledger_after g row h (pf_full g row h c.pf) c.slot (row_fair g row h c.pf)

pub length-step : {J : Type 0} (K : Kind J) (i : ℕ) (h : Happening J) (jobs : List (Option J)) → length (jobs_step K i h jobs) ≡ length jobs
length-step K i h [] = refl
length-step K i h (o ∷ jobs) = ap suc (length-step K (i + 1) h jobs)

pub below_limit : (n : ℕ) (o : Option MachineFault) → (if nat_lt (n + 1) (2 ^ 48) then o else Some NumberLimit) ≡ None → (n + 1 < 2 ^ 48) × (o ≡ None)
below_limit n o h = elim (cases_lt (n + 1) (2 ^ 48)) [
  | inl less ↦ (less, sym (cond-true _ o (Some NumberLimit) (lt-ltb (n + 1) (2 ^ 48) less)) ∙ h)
  | inr more ↦ absurd (none-some NumberLimit (sym (sym (cond-false _ o (Some NumberLimit) (le-ltb (n + 1) (2 ^ 48) more)) ∙ h)))
]

pub slot_row : (r : Result (List ℕ) ChoiceFault) → slot_fault r ≡ None → r ≡ Ok (row_or_none r)
slot_row (Ok row) h = refl
slot_row (Err fault) h = absurd (none-some (NoRow fault) (sym h))

step_ledger : {J : Type 0} (K : Kind J) (s : Plain J) (c : Command J) → IsState s → command_fault K s c ≡ None → IsLedger (ledger_step s.ledger (happening_in s c))
step_ledger K s (Submit task job) h accepted = h.ledger
step_ledger K s (Withdraw task) h accepted = h.ledger
step_ledger K s Slot h accepted =
    let row = row_or_none (row_in s) in
    ledger_after_row s.ledger row h.ledger (chosen_is s.ledger row (row_chosen s row (slot_row (row_in s) accepted)))
step_ledger K s (Reweigh workers weights) h accepted = (accepted_set s workers weights accepted).ledger

same_real : {J : Type 0} (K : Kind J) (s : Plain J) (c : Command J) → command_fault K s c ≡ None → (ledger_step s.ledger (happening_in s c)).set.real ≡ s.ledger.set.real
same_real K s (Submit task job) accepted = refl
same_real K s (Withdraw task) accepted = refl
same_real K s Slot accepted = refl
same_real K s (Reweigh workers weights) accepted = (accepted_set s workers weights accepted).real

-- the set stays the one of its tasks
step_set : {J : Type 0} (K : Kind J) (s : Plain J) (c : Command J) → IsState s → command_fault K s c ≡ None → IsOfItsTasks (ledger_step s.ledger (happening_in s c)).set
step_set K s (Submit task job) h accepted = h.set
step_set K s (Withdraw task) h accepted = h.set
step_set K s Slot h accepted = h.set
step_set K s (Reweigh workers weights) h accepted = (accepted_set s workers weights accepted).of

-- the slot stays below its limit
step_slot : {J : Type 0} (K : Kind J) (s : Plain J) (c : Command J) → IsState s → command_fault K s c ≡ None → whole (state_step K s (happening_in s c)) < 2 ^ 40
step_slot K s (Submit task job) h accepted = h.slot
step_slot K s (Withdraw task) h accepted = h.slot
step_slot K s Slot h accepted = (let b = row_below s (row_or_none (row_in s)) (slot_row (row_in s) accepted) in omega (arith, b))
step_slot K s (Reweigh workers weights) h accepted = (let a = h.slot in omega (arith, a))

pub state_goes_on : {J : Type 0} (K : Kind J) (s : Plain J) (c : Command J) → IsState s → refusal K s c ≡ None → IsState (state_step K s (happening_in s c))
state_goes_on K s c h accepted =
    let parts = below_limit s.number (command_fault K s c) accepted in
    record {
      number = parts.0;
      slot = step_slot K s c h parts.1;
      set = step_set K s c h parts.1;
      ledger = step_ledger K s c h parts.1;
      jobs = length-step K 0 (happening_in s c) s.jobs ∙ (h.jobs ∙ sym (same_real K s c parts.1));
    }

states_behind : {J : Type 0} (K : Kind J) (L : Laws K) (B : Plain J) (before H G : List (Command J)) → IsState (outcome K B before) → AllAccepted K B before (H ++ G) → IsState (outcome K B (before ++ H))
states_behind K L B before [] G h all = subst (λ xs. IsState (outcome K B xs)) (sym (append-nil before)) h
states_behind K L B before (c ∷ H) G h all =
    let next : IsState (outcome K B (before ++ c ∷ [])) = subst IsState (sym (outcome-snoc K L B before c)) (state_goes_on K (outcome K B before) c h all.0) in
    subst (λ xs. IsState (outcome K B xs)) (append_assoc before (c ∷ []) H) (states_behind K L B (before ++ c ∷ []) H G next all.1)

pub prefix_is_state : {J : Type 0} (K : Kind J) (L : Laws K) (B : Plain J) → IsState B → (H G : List (Command J)) → IsAcceptable K B (H ++ G) → IsState (outcome K B H)
prefix_is_state K L B h H G all = states_behind K L B [] H G (subst IsState (sym (outcome-none K B)) h) all

-- the state after a chosen row
pub row_goes_on : {J : Type 0} (K : Kind J) (s : Plain J) (row : List ℕ) (jobs : List (Option J)) (ledger : Ledger) → IsState s → s.number + 1 < 2 ^ 48 →
    row_in s ≡ Ok row → length jobs ≡ length s.jobs → ledger ≡ after s.ledger (is_in row) → IsState (record { number = s.number + 1; from = s.from; ledger = ledger; jobs = jobs; segment = s.segment })
row_goes_on K s row jobs ledger h below is long given_is = record {
  number = below;
  set = subst IsOfItsTasks (sym (ap (λ (g : Ledger). g.set) given_is)) h.set;
  slot = (let b = row_below s row is in let t : ledger.slot ≡ s.ledger.slot + 1 = ap (λ (g : Ledger). g.slot) given_is in omega (arith, b, t));
  ledger = subst IsLedger (sym given_is) (ledger_after_row s.ledger row h.ledger (chosen_is s.ledger row (row_chosen s row is)));
  jobs = long ∙ (h.jobs ∙ sym (ap (λ (g : Ledger). g.set.real) given_is));
}

-- a chosen row rises
pub chosen_rises : (g : Ledger) (row : List ℕ) → IsLedger g → chosen g ≡ Ok row → IsStrictlyIncreasing row
chosen_rises g row h is = (pf_full g row h (chosen_is g row is).pf).rising.1

-- the state after a row that leaves its ledger fair
pub row_passed : {J : Type 0} (s : Plain J) (row : List ℕ) (ledger : Ledger) → IsState s → IsLedger ledger → ledger ≡ after s.ledger (is_in row) → whole s + 1 < 2 ^ 40 →
    IsState (record { number = s.number; from = s.from; ledger = ledger; jobs = s.jobs; segment = s.segment })
row_passed s row ledger h is given_is below = record {
  number = h.number;
  slot = (let t : ledger.slot ≡ s.ledger.slot + 1 = ap (λ (g : Ledger). g.slot) given_is in omega (arith, below, t));
  set = subst IsOfItsTasks (sym (ap (λ (g : Ledger). g.set) given_is)) h.set;
  ledger = is;
  jobs = h.jobs ∙ sym (ap (λ (g : Ledger). g.set.real) given_is);
}

-- a row that is refused leaves a ledger that isn't fair
pub refused_unfair : (next : Ledger) (f : LedgerFault) → RefusesRow next f → IsFair next → ⊥
refused_unfair next (OutOfRange x) h fair = h.out (fair x h.within)
refused_unfair next WrongSum h fair = h
refused_unfair next NoMemory h fair = h

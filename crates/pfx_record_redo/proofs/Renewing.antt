-- Records of new weights.
use Rattle.std.specs.Prelude.{◌≡◌, ℕ, suc, ◌+◌, ◌^◌, ◌==◌, ◌&&◌, nat_lt, Bool, true, false, List, [], ◌∷◌, length, All, Some, None, IsTrue, refl}
use Rattle.std.specs.List.{list_all}
use Rattle.std.proofs.Common.{sym, ◌∙◌, ap, arith, subst, eq-eqb, inl, inr}
use Rattle.std.proofs.lemmas.Bool.{cases_lt, cond-true, lt-ltb, le-leb}
use Rattle.pfx_weights.proofs.Written.{Small, small_weights}
use Rattle.pfx_jobs.specs.Kind.{Kind}
use Rattle.pfx_machine.specs.Plain.{IsState}
use Rattle.pfx_machine.specs.Plain as machine
use Rattle.pfx_machine.specs.Fitting.{fits}
use Rattle.pfx_machine.specs.Refusals.{refusal}
use Rattle.pfx_machine.specs.Reweighing.{new_set, renewed, reweigh_fault}
use Rattle.pfx_machine.specs.declared.command.Command.TheVariants.{Reweigh}
use Rattle.pfx_machine.specs.declared.faults.MachineFault.{MachineFault}
use Rattle.pfx_machine.proofs.Fits.{fits_of, state_fits}
use Rattle.pfx_machine.proofs.Keeping.{below_limit, state_goes_on}
use Rattle.pfx_machine.proofs.Places.{state_step-new}
use Rattle.pfx_machine.proofs.Reweighs.{IsReweighed, accepted_set}
use Rattle.pfx_record.specs.Records.{reweighed, is_small, record_fits, takes_weights}
use Rattle.pfx_record.proofs.Rising.{of_both}
use Rattle.pfx_record_redo.specs.Applying.{after_record, form_at, is_apt, is_right}
use Rattle.pfx_record_redo.proofs.Rightness.{number_wrong}

all_small : (weights : List (ℕ × ℕ)) → All Small weights → list_all is_small weights ≡ true
all_small [] small = refl
all_small (w ∷ weights) small =
    let first = small 0 w (omega arith) in
    of_both (is_small w) (list_all is_small weights) (of_both _ _ (lt-ltb w.0 (2 ^ 32) first.0) (lt-ltb w.1 (2 ^ 32) first.1)) (all_small weights (λ k d b. small (suc k) d (omega arith)))

-- weights whose set may come into force have a spelling
form_fits : {J : Type 0} (s : machine.Plain J) (m : ℕ) (weights : List (ℕ × ℕ)) → IsState s → IsReweighed s m weights → IsTrue (record_fits {J = J} (form_at s) (reweighed m weights))
form_fits s m weights h new =
    let real = h.ledger.set.real in
    let takes : IsTrue (takes_weights (form_at s)) = of_both true _ refl (of_both _ _ (lt-ltb 0 s.ledger.set.real (omega (arith, real.0))) (le-leb s.ledger.set.real 1024 real.1)) in
    let few = new.accepts.workers.1 in
    of_both (takes_weights (form_at s)) _ takes
    (of_both (length weights == s.ledger.set.real) _ (eq-eqb _ _ new.count)
    (of_both (nat_lt m 256) _ (lt-ltb m 256 (omega (arith, few))) (all_small weights (small_weights m weights (new_set s.ledger.set m weights) new.accepts))))

-- a Reweigh that is accepted has a right record
pub reweigh_right : {J : Type 0} (K : Kind J) (s : machine.Plain J) (m : ℕ) (weights : List (ℕ × ℕ)) → IsState s → refusal K s (Reweigh m weights) ≡ None → IsTrue (is_right K s (reweighed m weights))
reweigh_right {J} K s m weights h accepted =
    let parts = below_limit s.number (reweigh_fault s m weights) accepted in
    let next : IsState (renewed s (new_set s.ledger.set m weights)) = subst IsState (sym (state_step-new K s (new_set s.ledger.set m weights))) (state_goes_on K s (Reweigh m weights) h accepted) in
    let apt : is_apt K s (reweighed m weights) ≡ true = ap (λ o. elim o [ Some fault ↦ false | None ↦ true ]) parts.1 in
    of_both (record_fits {J = J} (form_at s) (reweighed m weights)) _ (form_fits s m weights h (accepted_set s m weights parts.1))
    (of_both (is_apt K s (reweighed m weights)) _ apt (fits_of _ (state_fits _ next)))

never_apt : (a c : Bool) → (a && (false && c)) ≡ false
never_apt true c = refl
never_apt false c = refl

unapt : {J : Type 0} (K : Kind J) (s : machine.Plain J) (m : ℕ) (weights : List (ℕ × ℕ)) (fault : MachineFault) → reweigh_fault s m weights ≡ Some fault → false ≡ is_right K s (reweighed m weights)
unapt {J} K s m weights fault is =
    let apt : is_apt K s (reweighed m weights) ≡ false = ap (λ o. elim o [ Some f ↦ false | None ↦ true ]) is in
    sym (ap (λ b. record_fits {J = J} (form_at s) (reweighed m weights) && (b && fits (after_record s (reweighed m weights)))) apt ∙ never_apt (record_fits {J = J} (form_at s) (reweighed m weights)) (fits (after_record s (reweighed m weights))))

-- and one that is refused, no right one
pub reweigh_wrong : {J : Type 0} (K : Kind J) (s : machine.Plain J) (m : ℕ) (weights : List (ℕ × ℕ)) (fault : MachineFault) → refusal K s (Reweigh m weights) ≡ Some fault → false ≡ is_right K s (reweighed m weights)
reweigh_wrong K s m weights fault refused = elim (cases_lt (s.number + 1) (2 ^ 48)) [
  | inl less ↦ unapt K s m weights fault (sym (cond-true _ _ _ (lt-ltb _ _ less)) ∙ refused)
  | inr more ↦ number_wrong K s (reweighed m weights) more
]

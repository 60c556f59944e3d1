-- New weights, in force or refused.
use Rattle.std.specs.Prelude.{◌≡◌, ◌≢◌, ◌↔◌, ◌≤◌, ◌<◌, ◌+◌, ◌++◌, ℕ, zero, suc, List, [], ◌∷◌, length, map, take, Bool, true, false, IsTrue, Option, Some, None, refl}
use Rattle.std.proofs.Common.{sym, ◌∙◌, ap, subst, arith, eq-eqb, inl, inr}
use Rattle.std.proofs.lemmas.Bool.{cases_lt, eqb-true, false≢true}
use Rattle.std.proofs.lemmas.List.{length-map, take_all}
use Rattle.std.proofs.lemmas.Option.{none-some}
use Rattle.pfx_weights.specs.Sets.{FilledSet, Accepts, Refuses}
use Rattle.pfx_weights.specs.declared.faults.SetFault.{SetFault}
use Rattle.pfx_weights.specs.declared.faults.SetFault.TheVariants.{NoMemory}
use Rattle.pfx_columns.specs.Ledgers.{Ledger, start, task, total}
use Rattle.pfx_columns.specs.Levels.{IsLevel, is_even, unlevel}
use Rattle.pfx_columns.proofs.Levelling.{ints_of, level_of, level_none, of_ints}
use Rattle.pfx_jobs.specs.Kind.{Kind, Laws}
use Rattle.pfx_machine.specs.Plain.{Plain, IsState}
use Rattle.pfx_machine.specs.Outcome.{outcome}
use Rattle.pfx_machine.specs.Refusals.{refusal}
use Rattle.pfx_machine.specs.Reweighing.{least_for, new_fault, new_set, renewed}
use Rattle.pfx_machine.specs.declared.command.Command.TheVariants.{Reweigh}
use Rattle.pfx_machine.specs.declared.faults.MachineFault.{MachineFault}
use Rattle.pfx_machine.proofs.Keeping.{state_goes_on}
use Rattle.pfx_machine.proofs.Places.{state_step-new}
use Rattle.pfx_machine.proofs.Reweighs.{goes_on, new_set_is, no_set, not_level, real_of, too_small, workers_of, wrong_count}
use Rattle.pfx_record_redo.proofs.Outcomes.{record_outcome}
use Rattle.pfx_replay.specs.Numbers.{numbers_ledger}

module _ {J : Type 0} (K : Kind J) (s : Plain J) (m : ℕ) (ws : List (ℕ × ℕ)) (set : FilledSet) (a : Accepts m ws set) where
  pub renewed_outcome : Laws K → renewed s set ≡ outcome K s (Reweigh m ws ∷ [])
  renewed_outcome L = ap (renewed s) (sym (new_set_is s.ledger.set set m ws a)) ∙ record_outcome K L s (Reweigh m ws)

  pub renewed_state : IsState s → refusal K s (Reweigh m ws) ≡ None → IsState (renewed s set)
  renewed_state h accepted =
      let next : IsState (renewed s (new_set s.ledger.set m ws)) = subst IsState (sym (state_step-new K s (new_set s.ledger.set m ws))) (state_goes_on K s (Reweigh m ws) h accepted) in
      subst (λ t. IsState (renewed s t)) (new_set_is s.ledger.set set m ws a) next

-- the ledger that a set begins with, from its numbers

abbrev zeros : List (ℕ × ℕ) → List ℕ
zeros ws = map (λ w. 0) ws

pub zeros_more : (ws : List (ℕ × ℕ)) (x : ℕ) → x < length ws → take (x + 1) (zeros ws) ≡ take x (zeros ws) ++ 0 ∷ []
zeros_more [] x within = absurd (omega arith)
zeros_more (w ∷ ws) zero within = refl
zeros_more (w ∷ ws) (suc x) within =
    let next : suc x + 1 ≡ suc (x + 1) = omega arith in
    ap (λ n. take n (zeros (w ∷ ws))) next ∙ ap (λ (l : List ℕ). 0 ∷ l) (zeros_more ws x (omega arith))

pub ledger_begun : (set : FilledSet) (n m r h : ℕ) (ws : List (ℕ × ℕ)) (got : List ℕ) → m ≡ set.workers → r ≡ set.real → h ≡ set.hyper → ws ≡ take n set.weights → got ≡ take n (zeros set.weights) → length set.weights ≤ n
    → numbers_ledger m r h ws 0 got ≡ start set
ledger_begun set n m r h ws got same_m same_r same_h same_ws same_got all =
    let weights : ws ≡ set.weights = same_ws ∙ take_all n set.weights all in
    let none : got ≡ zeros set.weights = same_got ∙ take_all n (zeros set.weights) (omega (arith, all, length-map {B = ℕ} set.weights (λ w. 0))) in
    λ i. numbers_ledger (same_m i) (same_r i) (same_h i) (weights i) 0 (none i)

-- every lag is zero where each test of one says so, and else not
pub all_even : (g : Ledger) → ((x : ℕ) → x < total g → is_even g.slot (task g x) ≡ true) → IsLevel g
all_even g all x within = ints_of (task g x).e (task g x).p (task g x).alloc g.slot (eqb-true _ _ (all x within))

pub odd_one : (g : Ledger) (x : ℕ) → x < total g → is_even g.slot (task g x) ≡ false → IsTrue false ↔ IsLevel g
odd_one g x within odd = ((λ never. cc), λ level. absurd (false≢true (sym odd ∙ eq-eqb _ _ (of_ints (task g x).e (task g x).p (task g x).alloc g.slot (level x within)))))

-- tests of new weights at a ledger
module _ (g : Ledger) (segment m : ℕ) (ws : List (ℕ × ℕ)) where
  refused : (f : MachineFault) → new_fault g segment m ws ≡ Some f → new_fault g segment m ws ≢ None
  refused f is none = none-some f (sym none ∙ is)

  pub count_refused : length ws ≢ g.set.real → new_fault g segment m ws ≢ None
  count_refused other = refused _ (wrong_count g segment m ws other)

  pub level_refused : length ws ≡ g.set.real → (IsLevel g → ⊥) → new_fault g segment m ws ≢ None
  level_refused count other = by (unlevel g) refl
    where
      by : (o : Option ℕ) → unlevel g ≡ o → new_fault g segment m ws ≢ None
      by None is = absurd (other (level_of g is))
      by (Some x) is = refused _ (not_level g segment m ws x count is)

  pub set_refused : (f : SetFault) → length ws ≡ g.set.real → IsLevel g → f ≢ NoMemory → Refuses m ws f → new_fault g segment m ws ≢ None
  set_refused f count level other why = refused _ (no_set g segment m ws f count (level_none g level) other why)

  least_is : (set : FilledSet) → Accepts m ws set → length ws ≡ g.set.real → least_for set.workers set.real ≡ least_for m g.set.real
  least_is set a count = ap (λ k. least_for k set.real) (workers_of m ws set a) ∙ ap (least_for m) (real_of m ws set a ∙ count)

  pub room_decides : (set : FilledSet) (may : Bool) → Accepts m ws set → length ws ≡ g.set.real → IsLevel g → (IsTrue may ↔ (least_for set.workers set.real ≤ segment)) → IsTrue may ↔ (new_fault g segment m ws ≡ None)
  room_decides set may a count level room = (
    λ yes. goes_on g segment m ws set count (level_none g level) a (subst (λ k. k ≤ segment) (least_is set a count) (room.0 yes)),
    λ none. elim (cases_lt segment (least_for m g.set.real)) [
      | inl less ↦ absurd (refused _ (too_small g segment m ws set count (level_none g level) a less) none)
      | inr more ↦ room.1 (subst (λ k. k ≤ segment) (sym (least_is set a count)) more)
    ],
  )

-- PF's choice at a ledger from which fair schedules of every length go on.
use Rattle.std.proofs.Common.{◌≡◌, ℕ, suc, pos, ◌+◌, ◌*◌, ◌<◌, ◌≤◌, ◌^◌, Bool, List, [], ◌∷◌, length, take, get_or, map, arith, sym, ◌∙◌, refl, subst, ◌⊎◌, inl, inr, Ok}
use Rattle.std.proofs.lemmas.List.{length-map, get_or-map}
use Rattle.std.proofs.lemmas.Int.{ints}
use Rattle.pfx_weights.specs.Rows.{members, is_in, Schedule}
use Rattle.pfx_weights.specs.Sets.{FilledSet, IsFilled, IsWeight}
use Rattle.pfx_columns.specs.Lags.{lag_of}
use Rattle.pfx_columns.specs.Ledgers.{Ledger, IsLedger, total, task, start, after}
use Rattle.pfx_choice.specs.declared.faults.ChoiceFault.{ChoiceFault}
use Rattle.pfx_choice.specs.declared.faults.ChoiceFault.TheVariants.{SlotLimit, TooManyUrgent, TooFewEligible, NoMemory}
use Rattle.pfx_choice.specs.Choices.{IsPf, IsPfRow, Fails}
use Rattle.pfx_choice.specs.PfRows.{chosen}
use Rattle.pfx_choice.specs.Plans.{past}
use Rattle.pfx_choice.specs.Schedules.{IsPfSchedule, PfSucceeds}
use Rattle.pfx_choice.proofs.Exists.{places}
use Rattle.pfx_choice.proofs.Keeping.{kept, shape_after}
use Rattle.pfx_choice.proofs.Optimality.{pf_where_fair, optimal_in}
use Rattle.pfx_choice.proofs.PfFunction.{pf_function}
use Rattle.pfx_choice.proofs.Planning.{past_none}
use Rattle.pfx_choice.proofs.Schedules.{shape_of, to_sets, from_sets, past_cons, past_sets, pf_in, rows_from}
use Rattle.pfx_choice.proofs.SetSchedules.{IsFairSets, IsPfPlan, after_all, Shape}
use Rattle.pfx_machine_feasible.specs.Endless.{IsEndless, IsLevel}
use Rattle.pfx_machine_feasible.proofs.Runs.{EndlessSets, HadShares, shares_endless}

module _ (g : Ledger) (shape : Shape g) where
  -- the same for schedules as rows and as sets
  pub to_rows : g.set.workers ≤ 64 → EndlessSets g → IsEndless g
  to_rows few endless slots =
      let k = endless slots in
      (map (members (total g)) k.0, length-map k.0 (members (total g)) ∙ k.1, from_sets g k.0 shape few k.2)

  pub of_rows : IsEndless g → EndlessSets g
  of_rows endless slots =
      let k = endless slots in
      (map is_in k.0, length-map k.0 is_in ∙ k.1, to_sets g k.0 shape k.2)

  kept_by : (s : ℕ → Bool) (slots : ℕ) (ss : List (ℕ → Bool)) → IsPf g s → length ss ≡ suc slots → IsFairSets g ss → (rs : List (ℕ → Bool)) × (length rs ≡ slots) × IsFairSets (after g s) rs
  kept_by s slots [] pf len fair = absurd (omega arith)
  kept_by s slots (q ∷ qs) pf len fair = (let k = kept g shape s pf q qs fair in let same = k.same in (k.rows, omega (arith, same), k.fair))

  choice_by : (ss : List (ℕ → Bool)) → length ss ≡ 1 → IsFairSets g ss → (s : ℕ → Bool) × IsPf g s
  choice_by [] len fair = absurd (omega arith)
  choice_by (r ∷ rs) len fair = pf_where_fair g shape r rs fair

  -- PF's choice keeps it
  pub stays : EndlessSets g → (s : ℕ → Bool) → IsPf g s → EndlessSets (after g s)
  stays endless s pf slots = (let k = endless (suc slots) in kept_by s slots k.0 pf k.1 k.2)

  -- there is a PF choice
  pub goes_on : EndlessSets g → (s : ℕ → Bool) × IsPf g s
  goes_on endless = (let k = endless 1 in choice_by k.0 k.1 k.2)

  -- and in each slot after it
  pub succeeds : EndlessSets g → (slots : ℕ) → PfSucceeds g slots
  succeeds endless slots = (let k = endless slots in rows_from slots g shape (optimal_in slots g k.0 shape k.1 k.2))

pub stays_all : (ss : List (ℕ → Bool)) (g : Ledger) → Shape g → IsPfPlan g ss → EndlessSets g → EndlessSets (after_all g ss)
stays_all [] g shape plan endless = endless
stays_all (s ∷ ss) g shape plan endless = stays_all ss (after g s) (shape_after g s shape) plan.1 (stays g shape endless s plan.0)

pub shape_after_all : (ss : List (ℕ → Bool)) (g : Ledger) → Shape g → Shape (after_all g ss)
shape_after_all [] g shape = shape
shape_after_all (s ∷ ss) g shape = shape_after_all ss (after g s) (shape_after g s shape)

same_set : (ss : List (ℕ → Bool)) (g : Ledger) → (after_all g ss).set ≡ g.set
same_set [] g = refl
same_set (s ∷ ss) g = same_set ss (after g s)

-- the sets of PF's rows, one after the other
pub pf_sets : (g : Ledger) (rows : Schedule) → IsPfSchedule g rows → IsPfPlan g (map is_in rows)
pf_sets g [] h = tt
pf_sets g (row ∷ rows) h =
    let P : Ledger → Type 0 = λ k. IsPfRow k row in (
      pf_in g row (subst P (past_none g) (h 0 (omega arith))),
      pf_sets (after g (is_in row)) rows (λ i l. (let Q : Ledger → Type 0 = λ k. IsPfRow k (get_or rows i []) in subst Q (past_cons g row (take i rows)) (h (suc i) (omega arith)))),
    )

-- the start of a set
pub start_shape : (s : FilledSet) → IsFilled s → Shape (start s)
start_shape s h = record {
  weights = λ x l. (let w : IsWeight (get_or s.weights x (0, 0)) = h.weights x (0, 0) l in let a = w.0 in (omega (arith, a), w.1));
  length = length-map s.weights (λ w. 0);
}

pub start_shares : (s : FilledSet) → HadShares (start s)
start_shares s x l =
    let zero_of : ℕ × ℕ → ℕ = λ w. 0 in
    let none : get_or (map zero_of s.weights) x 0 ≡ 0 = get_or-map zero_of s.weights x (0, 0) 0 l in
    let w = get_or s.weights x (0, 0) in
    let P : ℕ → Type 0 = λ a. w.1 * a ≡ w.0 * 0 in
    let z : w.1 * 0 ≡ w.0 * 0 = omega arith in
    subst P (sym none) z

pub start_sets : (s : FilledSet) → IsFilled s → EndlessSets (start s)
start_sets s h = shares_endless (start s) h (start_shares s)

pub start_endless : (s : FilledSet) → IsFilled s → IsEndless (start s)
start_endless s h = to_rows (start s) (start_shape s h) h.workers.1 (start_sets s h)

pub start_succeeds : (s : FilledSet) → IsFilled s → (slots : ℕ) → PfSucceeds (start s) slots
start_succeeds s h slots = succeeds (start s) (start_shape s h) (start_sets s h) slots

pub reached_endless : (s : FilledSet) → IsFilled s → (rows : Schedule) → IsPfSchedule (start s) rows → IsEndless (past (start s) rows)
reached_endless s h rows pf =
    let g = start s in
    let ss = map is_in rows in
    let k = after_all g ss in
    let few : k.set.workers ≤ 64 = subst (λ (r : FilledSet). r.workers ≤ 64) (sym (same_set ss g)) h.workers.1 in
    subst IsEndless (past_sets g rows) (to_rows k (shape_after_all ss g (start_shape s h)) few (stays_all ss g (start_shape s h) (pf_sets g rows pf) (start_sets s h)))

-- from each ledger at which all lags are zero
level_shares : (g : Ledger) → IsLevel g → HadShares g
level_shares g level x l = (let h : lag_of (task g x).e (task g x).p (task g x).alloc g.slot ≡ pos 0 = level x l in omega (arith, ints, h))

pub level_endless : (g : Ledger) → IsLedger g → IsLevel g → IsEndless g
level_endless g h level = to_rows g (shape_of g h) h.set.workers.1 (shares_endless g h.set (level_shares g level))

pub row_keeps : (g : Ledger) → IsLedger g → IsEndless g → (row : List ℕ) → IsPfRow g row → IsEndless (after g (is_in row))
row_keeps g h endless row pf =
    let shape = shape_of g h in
    to_rows (after g (is_in row)) (shape_after g (is_in row) shape) h.set.workers.1 (stays g shape (of_rows g shape endless) (is_in row) (pf_in g row pf))

pub endless_row : (g : Ledger) → IsLedger g → IsEndless g → (row : List ℕ) × IsPfRow g row
endless_row g h endless =
    let shape = shape_of g h in
    let s = goes_on g shape (of_rows g shape endless) in
    (members (total g) s.0, record { set = s.0; pf = s.1; is = refl })

-- if there is a PF row, only the last slot or memory refuses one
only_limits : (g : Ledger) (row : List ℕ) (f : ChoiceFault) → IsPfRow g row → Fails g f → (f ≡ SlotLimit) ⊎ (f ≡ NoMemory)
only_limits g row SlotLimit pf h = inl refl
only_limits g row (TooManyUrgent u m) pf (before, a, b, c) = (let q = places g row pf in let low = q.0 in absurd (omega (arith, low, a, b, c)))
only_limits g row (TooFewEligible u m) pf (before, a, b, c) = (let q = places g row pf in let high = q.1 in absurd (omega (arith, high, a, b, c)))
only_limits g row NoMemory pf h = inr refl

pub endless_fails : (g : Ledger) → IsLedger g → IsEndless g → (f : ChoiceFault) → Fails g f → (f ≡ SlotLimit) ⊎ (f ≡ NoMemory)
endless_fails g h endless f fails = (let r = endless_row g h endless in only_limits g r.0 f r.1 fails)

pub endless_chosen : (g : Ledger) → IsLedger g → IsEndless g → g.slot + 1 < 2 ^ 40 → (row : List ℕ) × (chosen g ≡ Ok row)
endless_chosen g h endless before =
    let r = endless_row g h endless in
    (r.0, ((pf_function g).chosen_rows r.0).0 (record { pf = r.1; slot = before }))

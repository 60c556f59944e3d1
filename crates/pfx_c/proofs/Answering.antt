-- No two refusals of a call hold together, and none where it did what it is for.
use Rattle.std.proofs.Common.{◌≡◌, ◌≢◌, ℕ, ◌%◌, ◌<◌, ◌≤◌, Bool, true, false, List, take, Result, Ok, Err, arith, ap, sym, ◌∙◌, refl, subst, inl, inr}
use Rattle.std.proofs.lemmas.Bool.{cases_lt}
use Rattle.std.proofs.Math.Nat.{mod-eq_of_lt}
use Rattle.pfx_weights.specs.Multiples.{IsMultiple}
use Rattle.pfx_weights.specs.Sets.{IsHyperperiod, FilledSet, filled, Accepts}
use Rattle.pfx_weights.specs.declared.faults.SetFault.{SetFault}
use Rattle.pfx_weights.specs.declared.faults.SetFault.TheVariants as setfault
use Rattle.pfx_weights.proofs.Refusals.{one_by, none_by}
use Rattle.pfx_columns.specs.Ledgers.{Ledger, IsLedger, FirstOutOfRange, ledger_at}
use Rattle.pfx_columns.specs.Ledgers as ledger
use Rattle.pfx_columns.specs.declared.faults.LedgerFault.{LedgerFault}
use Rattle.pfx_columns.specs.declared.faults.LedgerFault.TheVariants as ledgerfault
use Rattle.pfx_choice.specs.Choices.{IsChosen, Fails}
use Rattle.pfx_choice.specs.PfRows.{chosen}
use Rattle.pfx_choice.specs.declared.faults.ChoiceFault.{ChoiceFault}
use Rattle.pfx_choice.specs.declared.faults.ChoiceFault.TheVariants as choicefault
use Rattle.pfx_choice.proofs.PfFunction.{pf_function}
use Rattle.pfx_fault.specs.declared.refusals.Fault.{Fault}
use Rattle.pfx_fault.specs.declared.refusals.Fault.TheVariants as fault
use Rattle.pfx_c.specs.declared.weights.PfxWeight.{PfxWeight}
use Rattle.pfx_c.specs.Faults.{HasOneFault, HasNoFault}
use Rattle.pfx_choice_refusals.specs.Faults.{fault_of_set, fault_of_ledger, fault_of_choice}
use Rattle.pfx_c.specs.Weights.{pairs_of, SetFails}
use Rattle.pfx_c.specs.Checks.{LedgerFails, CheckFails, IsLedgerOf}
use Rattle.pfx_c.specs.Nexts.{RowFails, NextFails, IsNext}
use Rattle.pfx_c.specs.Plans.{Kept, IsTaken, PlanFails}

-- ---- one set, one ledger

at_least : (p k : ℕ) → 0 < k → IsMultiple p k → p ≤ k
at_least p k some h = elim (cases_lt k p) [
  | inl less ↦ absurd (let same : k % p ≡ k = mod-eq_of_lt less in omega (arith, same, h, some))
  | inr more ↦ more
]

one_hyper : (ts : List (ℕ × ℕ)) (l k : ℕ) → IsHyperperiod ts l → IsHyperperiod ts k → l ≡ k
one_hyper ts l k h g =
    let up = at_least l k g.positive (h.least k g.common) in
    let down = at_least k l h.positive (g.least l h.common) in
    omega (arith, up, down)

one_set : (m : ℕ) (ts : List (ℕ × ℕ)) (s r : FilledSet) → Accepts m ts s → Accepts m ts r → s ≡ r
one_set m ts s r a b = a.is ∙ ap (filled m ts) (one_hyper ts s.hyper r.hyper a.hyper b.hyper) ∙ sym b.is

one_ledger : (m slot : ℕ) (weights : List PfxWeight) (allocs : List ℕ) (g h : Ledger)
    → IsLedgerOf m weights slot allocs g → IsLedgerOf m weights slot allocs h → g ≡ h
one_ledger m slot weights allocs g h a b =
    a.is ∙ ap (λ s. ledger_at s slot allocs) (one_set m (pairs_of weights) g.set h.set a.accepted b.accepted) ∙ sym b.is

-- ---- a set's refusals

known_set : (f : Fault) (s : SetFault) → f ≡ fault_of_set s → f ≢ fault.NoMemory → s ≢ setfault.NoMemory
known_set f s is known e = known (is ∙ ap fault_of_set e)

pub one_set_fault : (m : ℕ) (weights : List PfxWeight) → HasOneFault (SetFails m weights)
one_set_fault m weights f k f_known k_known (s, is, h) (r, same, g) =
    is ∙ ap fault_of_set (one_by m (pairs_of weights) s r (known_set f s is f_known) (known_set k r same k_known) h g) ∙ sym same

pub no_set_fault : (m : ℕ) (weights : List PfxWeight) (s : FilledSet) → Accepts m (pairs_of weights) s → HasNoFault (SetFails m weights)
no_set_fault m weights s a f (r, is, h) = is ∙ ap fault_of_set (none_by m (pairs_of weights) s r a h)

-- ---- a ledger's refusals

out_before : (g : Ledger) (x y : ℕ) → FirstOutOfRange g x → FirstOutOfRange g y → x < y → ⊥
out_before g x y h k less = h.out (k.before x less)

same_out : (g : Ledger) (x y : ℕ) → FirstOutOfRange g x → FirstOutOfRange g y → x ≡ y
same_out g x y h k = elim (cases_lt x y) [
  | inl less ↦ absurd (out_before g x y h k less)
  | inr more ↦ (elim (cases_lt y x) [ inl less ↦ absurd (out_before g y x k h less) | inr le ↦ omega (arith, more, le) ])
]

one_refusal : (g : Ledger) (f k : LedgerFault) → f ≢ ledgerfault.NoMemory → k ≢ ledgerfault.NoMemory
    → ledger.Refuses g f → ledger.Refuses g k → f ≡ k
one_refusal g ledgerfault.NoMemory k f_known k_known h j = absurd (f_known refl)
one_refusal g f ledgerfault.NoMemory f_known k_known h j = absurd (k_known refl)
one_refusal g (ledgerfault.OutOfRange x) (ledgerfault.OutOfRange y) f_known k_known h j = ap ledgerfault.OutOfRange (same_out g x y h j)
one_refusal g (ledgerfault.OutOfRange x) ledgerfault.WrongSum f_known k_known h j = absurd (h.out (j.0 x h.within))
one_refusal g ledgerfault.WrongSum (ledgerfault.OutOfRange y) f_known k_known h j = absurd (j.out (h.0 y j.within))
one_refusal g ledgerfault.WrongSum ledgerfault.WrongSum f_known k_known h j = refl

no_refusal : (g : Ledger) (f : LedgerFault) → IsLedger g → ledger.Refuses g f → f ≡ ledgerfault.NoMemory
no_refusal g (ledgerfault.OutOfRange x) h j = absurd (j.out (h.fair x j.within))
no_refusal g ledgerfault.WrongSum h j = absurd (j.1 h.sum)
no_refusal g ledgerfault.NoMemory h j = refl

known_ledger : (f : Fault) (l : LedgerFault) → f ≡ fault_of_ledger l → f ≢ fault.NoMemory → l ≢ ledgerfault.NoMemory
known_ledger f l is known e = known (is ∙ ap fault_of_ledger e)

one_form : (s : FilledSet) (slot : ℕ) (allocs : List ℕ) → HasOneFault (LedgerFails s slot allocs)
one_form s slot allocs f k f_known k_known (inl (is, none)) (inl (same, also)) = is ∙ sym same
one_form s slot allocs f k f_known k_known (inl (is, none)) (inr (form, rest)) = absurd (none form)
one_form s slot allocs f k f_known k_known (inr (form, rest)) (inl (same, none)) = absurd (none form)
one_form s slot allocs f k f_known k_known (inr (form, (l, is, h))) (inr (other, (j, same, g))) =
    is ∙ ap fault_of_ledger (one_refusal (ledger_at s slot allocs) l j (known_ledger f l is f_known) (known_ledger k j same k_known) h g) ∙ sym same

no_form : (s : FilledSet) (slot : ℕ) (allocs : List ℕ) → IsLedger (ledger_at s slot allocs) → HasNoFault (LedgerFails s slot allocs)
no_form s slot allocs h f (inl (is, none)) = absurd (none (record { number = h.length; numbered = h.slot }))
no_form s slot allocs h f (inr (form, (l, is, j))) = is ∙ ap fault_of_ledger (no_refusal (ledger_at s slot allocs) l h j)

-- ---- the refusals of pfx_check

pub one_check : (m slot : ℕ) (weights : List PfxWeight) (allocs : List ℕ) → HasOneFault (CheckFails m weights slot allocs)
one_check m slot weights allocs f k f_known k_known (inl h) (inl g) = one_set_fault m weights f k f_known k_known h g
one_check m slot weights allocs f k f_known k_known (inl h) (inr (s, a, g)) = absurd (f_known (no_set_fault m weights s a f h))
one_check m slot weights allocs f k f_known k_known (inr (s, a, h)) (inl g) = absurd (k_known (no_set_fault m weights s a k g))
one_check m slot weights allocs f k f_known k_known (inr (s, a, h)) (inr (r, b, g)) =
    let P : FilledSet → Type 0 = λ q. LedgerFails q slot allocs k in
    one_form s slot allocs f k f_known k_known h (subst P (one_set m (pairs_of weights) r s b a) g)

pub no_check : (m slot : ℕ) (weights : List PfxWeight) (allocs : List ℕ) (g : Ledger)
    → IsLedgerOf m weights slot allocs g → HasNoFault (CheckFails m weights slot allocs)
no_check m slot weights allocs g h f (inl j) = no_set_fault m weights g.set h.accepted f j
no_check m slot weights allocs g h f (inr (s, a, j)) =
    let P : FilledSet → Type 0 = λ q. LedgerFails q slot allocs f in
    no_form g.set slot allocs (subst IsLedger h.is h.ledger) f (subst P (one_set m (pairs_of weights) s g.set a h.accepted) j)

-- ---- the refusals of pfx_next

abbrev fault_in : ChoiceFault → Result (List ℕ) ChoiceFault → ChoiceFault
fault_in d (Ok row) = d
fault_in d (Err f) = f

abbrev is_row : Result (List ℕ) ChoiceFault → Bool
is_row (Ok row) = true
is_row (Err f) = false

one_failure : (g : Ledger) (c d : ChoiceFault) → c ≢ choicefault.NoMemory → d ≢ choicefault.NoMemory → Fails g c → Fails g d → c ≡ d
one_failure g c d c_known d_known h j =
    let first : chosen g ≡ Err c = ((pf_function g).faults c c_known).0 h in
    let second : chosen g ≡ Err d = ((pf_function g).faults d d_known).0 j in
    ap (fault_in c) (sym first ∙ second)

no_failure : (g : Ledger) (row : List ℕ) (c : ChoiceFault) → c ≢ choicefault.NoMemory → IsChosen g row → Fails g c → ⊥
no_failure g row c known is h =
    let first : chosen g ≡ Ok row = ((pf_function g).chosen_rows row).0 is in
    let second : chosen g ≡ Err c = ((pf_function g).faults c known).0 h in
    let differ : true ≡ false = ap is_row (sym first ∙ second) in
    cc

known_choice : (f : Fault) (c : ChoiceFault) → f ≡ fault_of_choice c → f ≢ fault.NoMemory → c ≢ choicefault.NoMemory
known_choice f c is known e = known (is ∙ ap fault_of_choice e)

one_row : (m : ℕ) (g : Ledger) (places : List ℕ) → HasOneFault (RowFails m g places)
one_row m g places f k f_known k_known (inl (is, few)) (inl (same, also)) = is ∙ sym same
one_row m g places f k f_known k_known (inl (is, few)) (inr (enough, rest)) = absurd (omega (arith, few, enough))
one_row m g places f k f_known k_known (inr (enough, rest)) (inl (same, few)) = absurd (omega (arith, few, enough))
one_row m g places f k f_known k_known (inr (enough, (c, is, h))) (inr (also, (d, same, j))) =
    is ∙ ap fault_of_choice (one_failure g c d (known_choice f c is f_known) (known_choice k d same k_known) h j) ∙ sym same

pub one_next : (m slot : ℕ) (weights : List PfxWeight) (allocs places : List ℕ) → HasOneFault (NextFails m weights slot allocs places)
one_next m slot weights allocs places f k f_known k_known (inl h) (inl j) = one_check m slot weights allocs f k f_known k_known h j
one_next m slot weights allocs places f k f_known k_known (inl h) (inr (g, is, j)) = absurd (f_known (no_check m slot weights allocs g is f h))
one_next m slot weights allocs places f k f_known k_known (inr (g, is, h)) (inl j) = absurd (k_known (no_check m slot weights allocs g is k j))
one_next m slot weights allocs places f k f_known k_known (inr (g, is, h)) (inr (o, same, j)) =
    let P : Ledger → Type 0 = λ q. RowFails m q places k in
    one_row m g places f k f_known k_known h (subst P (one_ledger m slot weights allocs o g same is) j)

only_memory : (g : Ledger) (row : List ℕ) (c : ChoiceFault) → IsChosen g row → Fails g c → c ≡ choicefault.NoMemory
only_memory g row choicefault.NoMemory is h = refl
only_memory g row choicefault.SlotLimit is h = absurd (no_failure g row choicefault.SlotLimit (λ e. cc) is h)
only_memory g row (choicefault.TooManyUrgent u m) is h = absurd (no_failure g row (choicefault.TooManyUrgent u m) (λ e. cc) is h)
only_memory g row (choicefault.TooFewEligible c m) is h = absurd (no_failure g row (choicefault.TooFewEligible c m) (λ e. cc) is h)

pub no_next : (m slot : ℕ) (weights : List PfxWeight) (allocs old new : List ℕ)
    → IsNext m weights slot allocs old new → HasNoFault (NextFails m weights slot allocs old)
no_next m slot weights allocs old new h f (inl j) = no_check m slot weights allocs h.ledger h.given f j
no_next m slot weights allocs old new h f (inr (g, same, inl (is, few))) = absurd (let room = h.room in omega (arith, few, room))
no_next m slot weights allocs old new h f (inr (g, same, inr (enough, (c, is, j)))) =
    let P : Ledger → Type 0 = λ q. Fails q c in
    let there : Fails h.ledger c = subst P (one_ledger m slot weights allocs g h.ledger same h.given) j in
    is ∙ ap fault_of_choice (only_memory h.ledger (take m new) c h.chosen there)

-- ---- the refusals of pfx_plan

pub one_plan : (m slots : ℕ) (weights : List PfxWeight) (kept : Kept) → HasOneFault (PlanFails m weights slots kept)
one_plan m slots weights kept f k f_known k_known (inl h) (inl j) = one_check m kept.slot weights kept.allocs f k f_known k_known h j
one_plan m slots weights kept f k f_known k_known (inl h) (inr (g, is, j, few)) = absurd (f_known (no_check m kept.slot weights kept.allocs g is f h))
one_plan m slots weights kept f k f_known k_known (inr (g, is, h, few)) (inl j) = absurd (k_known (no_check m kept.slot weights kept.allocs g is k j))
one_plan m slots weights kept f k f_known k_known (inr (g, is, h, few)) (inr (o, also, j, less)) = h ∙ sym j

pub no_plan : (m slots made : ℕ) (weights : List PfxWeight) (old new : Kept) (g next : Ledger)
    → IsTaken m weights slots old new made g next → HasNoFault (PlanFails m weights slots old)
no_plan m slots made weights old new g next h f (inl j) = no_check m old.slot weights old.allocs g h.given f j
no_plan m slots made weights old new g next h f (inr (o, is, j, few)) = absurd (let room = h.room in omega (arith, few, room))

-- What is left to a task's next slot, and its place by it.
use Rattle.std.proofs.Common.{◌≡◌, ℕ, ◌+◌, ◌-◌, ◌*◌, ◌/◌, ◌<◌, ◌≤◌, ℤ, pos, neg_ℤ, ◌+ℤ◌, ◌-ℤ◌, ◌≤ℤ◌, ◌<ℤ◌, List, length, set, get_or, arith, rules, ap, ◌∙◌, refl, sym, subst, inl, inr, true, false, get_or-set_same, get_or-set_other}
use Rattle.std.specs.Prelude.{nat_lt, min, FitsSigned}
use Rattle.std.proofs.Common.{w32}
use Rattle.pfx_lanes.proofs.ClassLanes.{fits}
use Rattle.std.proofs.lemmas.Bool.{cases_eq}
use Rattle.std.proofs.lemmas.Int.{ints}
use Rattle.std.specs.Int.Signed.{lt_z}
use Rattle.std.proofs.lemmas.Grind.{common_steps}
use Rattle.pfx_columns.specs.Lags.{lag_of, IsFairAt}
use Rattle.pfx_columns.specs.Ledgers.{Ledger, task, total, IsLedger}
use Rattle.pfx_columns.proofs.Placing.{weight_of_task}
use Rattle.pfx_columns.proofs.Steps.{fair_low, fair_high}
use Rattle.pfx_columns.specs.Columns.{lag_in, e_in, p_in}
use Rattle.pfx_choice.specs.Places.{lead, near, place}

lt_false : (n d : ℕ) → d ≤ n → nat_lt n d ≡ false
lt_false n d h = grind (arith, common_steps)

lt_true : (n d : ℕ) → n < d → nat_lt n d ≡ true
lt_true n d h = grind (arith, common_steps)

-- the numbers of a task of a ledger
pub record Left (e p a t left : ℕ) : Type 0 where
  pub some : 1 ≤ e
  pub less : e < p
  pub limit : p ≤ 1048576
  pub low : p * a < e * t + p
  pub high : e * t < p * a + p
  pub is : left + e * t ≡ p * a + p

pub lag_low : (g : Ledger) (x : ℕ) → IsLedger g → x < total g → (l : ℤ) (p : ℕ) → p ≡ (task g x).p → l ≡ lag_of (task g x).e (task g x).p (task g x).alloc g.slot → neg_ℤ (pos p) ≤ℤ l
lag_low g x h in_g l p p_is l_is =
    let fair : IsFairAt (task g x).e (task g x).p (task g x).alloc g.slot = h.fair x in_g in
    omega (arith, ints, fair.above, l_is, p_is)

pub lag_high : (g : Ledger) (x : ℕ) → IsLedger g → x < total g → (l : ℤ) (p : ℕ) → p ≡ (task g x).p → l ≡ lag_of (task g x).e (task g x).p (task g x).alloc g.slot → l ≤ℤ pos p
lag_high g x h in_g l p p_is l_is =
    let fair : IsFairAt (task g x).e (task g x).p (task g x).alloc g.slot = h.fair x in_g in
    omega (arith, ints, fair.below, l_is, p_is)

pub left_known : (g : Ledger) (x : ℕ) → IsLedger g → x < total g → (e p left : ℕ) (l : ℤ) → e ≡ (task g x).e → p ≡ (task g x).p → l ≡ lag_of (task g x).e (task g x).p (task g x).alloc g.slot → pos left ≡ pos p -ℤ l →
    Left (task g x).e (task g x).p (task g x).alloc g.slot left
left_known g x h in_g e p left l e_is p_is l_is is =
    let w = weight_of_task g x h in_g in
    let fair : IsFairAt (task g x).e (task g x).p (task g x).alloc g.slot = h.fair x in_g in
    record {
      some = w.0;
      less = w.1;
      limit = w.2;
      low = fair_low (task g x).e (task g x).p (task g x).alloc g.slot fair;
      high = fair_high (task g x).e (task g x).p (task g x).alloc g.slot fair;
      is = omega (arith, ints, l_is, is, p_is);
    }

pub lead_is : (e p a t left : ℕ) → Left e p a t left → (left - 1) / e ≡ lead e p a t
lead_is e p a t left k = (let z : left - 1 ≡ p * a + p - e * t - 1 = omega (arith, k.is) in ap (λ n. n / e) z)

-- the quotient is the task's lead
pub near_by : (g : Ledger) (x : ℕ) → IsLedger g → x < total g → (e left : ℕ) (l d q : ℤ) → pos e ≡ d → d ≡ e_in g x → q ≡ p_in g x → l ≡ lag_in g x → pos left ≡ q -ℤ l → min ((left - 1) / e) 254 ≡ near g x
near_by g x h in_g e left l d q of_e e_is p_is l_is is =
    let v = task g x in
    let here : e ≡ v.e = omega (arith, ints, of_e, e_is) in
    let k = left_known g x h in_g e v.p left l here refl l_is (is ∙ ap (λ p. p -ℤ l) p_is) in
    ap (λ n. min ((left - 1) / n) 254) here ∙ ap (λ n. min n 254) (lead_is v.e v.p v.alloc g.slot left k)

above_zero : (z : ℤ) → lt_z (pos 0) z ≡ true → pos 0 <ℤ z
above_zero z h = search (rules, ints)

not_above : (z : ℤ) → lt_z (pos 0) z ≡ false → z ≤ℤ pos 0
not_above z h = search (rules, ints)

-- a task that is due something by the end of the slot may run
pub running : (g : Ledger) (x : ℕ) → (l d : ℤ) → l ≡ lag_in g x → d ≡ e_in g x → lt_z (pos 0) (l +ℤ d) ≡ true → near g x ≡ place g x
running g x l d l_is d_is due =
    let v = task g x in
    let more : pos 0 <ℤ (l +ℤ d) = above_zero (l +ℤ d) due in
    let run : v.p * v.alloc < v.e * (g.slot + 1) = omega (arith, ints, l_is, d_is, more) in
    rw (lt_true (v.p * v.alloc) (v.e * (g.slot + 1)) run) refl

pub resting : (g : Ledger) (x : ℕ) → (l d : ℤ) → l ≡ lag_in g x → d ≡ e_in g x → lt_z (pos 0) (l +ℤ d) ≡ false → 255 ≡ place g x
resting g x l d l_is d_is due =
    let v = task g x in
    let none : (l +ℤ d) ≤ℤ pos 0 = not_above (l +ℤ d) due in
    let rest : v.e * (g.slot + 1) ≤ v.p * v.alloc = omega (arith, ints, l_is, d_is, none) in
    rw (lt_false (v.p * v.alloc) (v.e * (g.slot + 1)) rest) refl

-- what holds of each number so far holds up to one that is set
pub done_more : (P : ℕ → ℕ → Type 0) (xs : List ℕ) (x v : ℕ) → x < length xs → P x v → ((y : ℕ) → y < x → P y (get_or xs y 0)) → (y : ℕ) → y < x + 1 → P y (get_or (set xs x v) y 0)
done_more P xs x v l here before y within = elim (cases_eq y x) [
  | inl same ↦
      (let Q : ℕ → Type 0 = λ z. P z (get_or (set xs x v) z 0) in
      let R : ℕ → Type 0 = λ w. P x w in
      subst Q (sym same) (subst R (sym (get_or-set_same xs x v 0 l)) here))
  | inr other ↦ (let R : ℕ → Type 0 = λ w. P y w in subst R (sym (get_or-set_other xs x y v 0 other)) (before y (omega arith)))
]

-- a task's numbers fit 32 bits, and so does the sum of its lag and its e
pub lag_fits : (g : Ledger) (x : ℕ) → IsLedger g → x < total g → (l : ℤ) → l ≡ lag_in g x → FitsSigned w32 l
lag_fits g x h in_g l l_is =
    let w = weight_of_task g x h in_g in
    let low : neg_ℤ (pos (task g x).p) ≤ℤ l = lag_low g x h in_g l (task g x).p refl l_is in
    let high : l ≤ℤ pos (task g x).p = lag_high g x h in_g l (task g x).p refl l_is in
    fits l (omega (arith, ints, low, w)) (omega (arith, ints, high, w))

pub e_fits : (g : Ledger) (x : ℕ) → IsLedger g → x < total g → (d : ℤ) → d ≡ e_in g x → FitsSigned w32 d
e_fits g x h in_g d d_is =
    let w = weight_of_task g x h in_g in
    fits d (omega (arith, ints, w, d_is)) (omega (arith, ints, w, d_is))

pub p_fits : (g : Ledger) (x : ℕ) → IsLedger g → x < total g → (q : ℤ) → q ≡ p_in g x → FitsSigned w32 q
p_fits g x h in_g q q_is =
    let w = weight_of_task g x h in_g in
    fits q (omega (arith, ints, w, q_is)) (omega (arith, ints, w, q_is))

pub sum_fits : (g : Ledger) (x : ℕ) → IsLedger g → x < total g → (l d : ℤ) → l ≡ lag_in g x → d ≡ e_in g x → FitsSigned w32 (l +ℤ d)
sum_fits g x h in_g l d l_is d_is =
    let w = weight_of_task g x h in_g in
    let low : neg_ℤ (pos (task g x).p) ≤ℤ l = lag_low g x h in_g l (task g x).p refl l_is in
    let high : l ≤ℤ pos (task g x).p = lag_high g x h in_g l (task g x).p refl l_is in
    fits (l +ℤ d) (omega (arith, ints, low, w, d_is)) (omega (arith, ints, high, w, d_is))

-- The task whose next end is nearer goes before the other.
use Rattle.std.proofs.Common.{◌≡◌, ◌≢◌, ℕ, zero, suc, ◌+◌, ◌-◌, ◌*◌, ◌%◌, ◌<◌, ◌≤◌, List, arith, sym, subst, ◌∙◌, refl}
use Rattle.std.proofs.Math.Nat.{mod-eq_of_lt, mul-add-mod_self_left}
use Rattle.std.specs.declared.cmp.Ordering.TheVariants.{Greater}
use Rattle.std.specs.Ordering.{nat_cmp}
use Rattle.std.specs.Cmp.Lexicographic.{slice_cmp}
use Rattle.pfx_symbols.specs.declared.kinds.Symbol.{Symbol}
use Rattle.pfx_symbols.specs.Symbols.{symbol_cmp, substring_at, substring_of}
use Rattle.pfx_symbols.specs.Strings.{Spells}
use Rattle.pfx_symbols.proofs.Phases.{spelled, phase_more, substring_of-slot}
use Rattle.pfx_symbols.proofs.Rounds.{Head, head, gaps_differ}
use Rattle.pfx_symbols.specs.declared.kinds.Class.TheVariants.{Contending, Urgent, Tnegru}
use Rattle.std.proofs.Common.{inl, inr, true, false, pos, ◌-ℤ◌, ◌+ℤ◌, ◌≤ℤ◌, ◌<ℤ◌}
use Rattle.std.specs.Prelude.{nat_lt, min}
use Rattle.std.proofs.lemmas.Bool.{cases_lt}
use Rattle.std.proofs.lemmas.Grind.{common_steps}
use Rattle.std.proofs.lemmas.Int.{ints}
use Rattle.pfx_columns.specs.Lags.{IsFairAt, class_at, lag_of}
use Rattle.pfx_choice.specs.Places.{place_by}
use Rattle.pfx_columns.proofs.Steps.{fair_rest, fair_run, fair_low, fair_high, rested, ran, fair_from}

-- n slots on is the end of the task's next subtask: the least slot by which it is due one slot more than it got
pub record IsAhead (e p a t n : ℕ) : Type 0 where
  pub reach : p * a + p ≤ e * (t + n)
  pub least : e * (t + n) < p * a + p + e

-- one slot on, without running, it is due more than it got, and less than one slot more
pub record Contends (e p a t : ℕ) : Type 0 where
  pub low : p * a < e * (t + 1)
  pub high : e * (t + 1) < p * a + p

-- so does a task that contends
pub contends : (e p a t : ℕ) → 0 < e → e < p → IsFairAt e p a t → class_at e p a t ≡ Contending → Contends e p a t
contends e p a t some less fair is =
    let rest : IsFairAt e p a (t + 1) = fair_rest e p a t less fair (λ u. (let w : Contending ≡ Urgent = sym is ∙ u in cc)) in
    let run : IsFairAt e p (a + 1) (t + 1) = fair_run e p a t less some fair (λ u. (let w : Contending ≡ Tnegru = sym is ∙ u in cc)) in
    let low : p * (a + 1) < e * (t + 1) + p = fair_low e p (a + 1) (t + 1) run in
    let high : e * (t + 1) < p * a + p = fair_high e p a (t + 1) rest in
    record { low = omega arith; high = omega arith }

-- the phase one slot on
next_phase : (e p a t : ℕ) → Contends e p a t → (e * (t + 1)) % p ≡ e * (t + 1) - p * a
next_phase e p a t c =
    let r = e * (t + 1) - p * a in
    let low : p * a < e * (t + 1) = c.low in
    let high : e * (t + 1) < p * a + p = c.high in
    let z : p * a + r ≡ e * (t + 1) = omega arith in
    let P : ℕ → Type 0 = λ n. n % p ≡ r in
    let less : r < p = omega arith in
    subst P z (mul-add-mod_self_left p a r ∙ mod-eq_of_lt less)

-- the first gap of its substring ends just before that end
pub head_ahead : (e p a t n : ℕ) → 0 < e → e < p → Contends e p a t → IsAhead e p a t n → (2 ≤ n) × Head (n - 2) (substring_at e p t)
head_ahead e p a t zero some less c h = absurd (omega (arith, c.low, c.high, h.reach))
head_ahead e p a t (suc zero) some less c h = absurd (omega (arith, c.high, h.reach))
head_ahead e p a t (suc (suc k)) some less c h =
    let r = e * (t + 1) - p * a in
    let low : p * a < e * (t + 1) = c.low in
    let high : e * (t + 1) < p * a + p = c.high in
    let reach : p * a + p ≤ e * (t + suc (suc k)) = h.reach in
    let least : e * (t + suc (suc k)) < p * a + p + e = h.least in
    let s : Spells e p (((e * t) % p + e) % p) (substring_of e p ((e * t) % p)) = spelled e p ((e * t) % p) some less (t, refl) in
    let P : ℕ → Type 0 = λ n. Spells e p n (substring_of e p ((e * t) % p)) in
    let Q : List Symbol → Type 0 = λ xs. Spells e p r xs in
    let here : Spells e p r (substring_at e p t) = subst Q (substring_of-slot e p t some less) (subst P (phase_more e p t (omega arith) ∙ next_phase e p a t c) s) in
    let z : suc k - 1 ≡ suc (suc k) - 2 = omega arith in
    let R : ℕ → Type 0 = λ n. Head n (substring_at e p t) in
    (omega arith, subst R z (head e p r (suc k) (substring_at e p t) (omega arith) less (omega arith) (omega arith) (omega arith) here))

greater_number : (i j : ℕ) → i < j → nat_cmp j i ≡ Greater
greater_number i j h = grind arith

-- the nearer end's substring is the greater one
pub nearer_greater : (e p a n f q b m t : ℕ) → 0 < e → e < p → 0 < f → f < q → Contends e p a t → Contends f q b t → IsAhead e p a t n → IsAhead f q b t m → n < m →
    slice_cmp symbol_cmp (substring_at e p t) (substring_at f q t) ≡ Greater
nearer_greater e p a n f q b m t e_some e_less f_some f_less x y x_at y_at less =
    let u = head_ahead e p a t n e_some e_less x x_at in
    let v = head_ahead f q b t m f_some f_less y y_at in
    let i : n - 2 ≡ n - 1 - 1 = omega arith in
    let j : m - 2 ≡ m - 1 - 1 = omega arith in
    let U : ℕ → Type 0 = λ k. Head k (substring_at e p t) in
    let V : ℕ → Type 0 = λ k. Head k (substring_at f q t) in
    let u_some : 2 ≤ n = u.0 in
    let ne : n - 1 ≢ m - 1 = λ same. omega arith in
    sym (gaps_differ (n - 1) (m - 1) (substring_at e p t) (substring_at f q t) (omega arith) (omega arith) ne (subst U i u.1) (subst V j v.1)) ∙ greater_number (n - 1) (m - 1) (omega arith)

-- the place by an end n slots on
abbrev pub place_of : ℕ → ℕ → ℕ → ℕ → ℕ → ℕ
place_of e p a t n = place_by e p a t (n - 1)

lt_true : (n d : ℕ) → n < d → nat_lt n d ≡ true
lt_true n d h = grind (arith, common_steps)

lt_false : (n d : ℕ) → d ≤ n → nat_lt n d ≡ false
lt_false n d h = grind (arith, common_steps)

-- an urgent task's end is the slot to come
urgent_next : (e p a t n : ℕ) → 0 < e → IsAhead e p a t n → p * a + p ≤ e * (t + 1) → n ≤ 1
urgent_next e p a t zero some h due = omega arith
urgent_next e p a t (suc zero) some h due = omega arith
urgent_next e p a t (suc (suc k)) some h due =
    let least : e * (t + suc (suc k)) < p * a + p + e = h.least in
    let more : 0 ≤ e * k = omega arith in
    absurd (omega arith)

pub place_urgent : (e p a t n : ℕ) → 0 < e → e < p → IsFairAt e p a t → IsAhead e p a t n → class_at e p a t ≡ Urgent → place_of e p a t n ≡ 0
place_urgent e p a t n some less fair h is =
    let low : p * a < e * t + p = fair_low e p a t fair in
    let due : p * a + p ≤ e * (t + 1) = elim (cases_lt (e * (t + 1)) (p * a + p)) [
      | inl rest ↦ absurd (rested e p a t less fair (fair_from e p a (t + 1) (omega arith) (omega arith)) is)
      | inr not ↦ omega arith
    ] in
    let one : n ≤ 1 = urgent_next e p a t n some h due in
    let z : n - 1 ≡ 0 = omega arith in
    rw (lt_true (p * a) (e * (t + 1)) (omega arith), z) refl

pub place_tnegru : (e p a t n : ℕ) → 0 < e → e < p → IsFairAt e p a t → class_at e p a t ≡ Tnegru → place_of e p a t n ≡ 255
place_tnegru e p a t n some less fair is =
    let high : e * t < p * a + p = fair_high e p a t fair in
    let not : e * (t + 1) ≤ p * a = elim (cases_lt (p * a) (e * (t + 1))) [
      | inl run ↦ absurd (ran e p a t less fair (fair_from e p (a + 1) (t + 1) (omega arith) (omega arith)) is)
      | inr other ↦ omega arith
    ] in
    rw (lt_false (p * a) (e * (t + 1)) (omega arith)) refl

pub place_contending : (e p a t n : ℕ) → Contends e p a t → place_of e p a t n ≡ min (n - 1) 254
place_contending e p a t n c = rw (lt_true (p * a) (e * (t + 1)) c.low) refl

min_less : (n m : ℕ) → min (n - 1) 254 < min (m - 1) 254 → n < m
min_less n m h = omega (arith, h)

-- the contending task at the lesser place goes before the other
pub lesser_place : (e p a n f q b m t : ℕ) → 0 < e → e < p → 0 < f → f < q → Contends e p a t → Contends f q b t → IsAhead e p a t n → IsAhead f q b t m → place_of e p a t n < place_of f q b t m →
    slice_cmp symbol_cmp (substring_at e p t) (substring_at f q t) ≡ Greater
lesser_place e p a n f q b m t e_some e_less f_some f_less x y x_at y_at less =
    let u : place_of e p a t n ≡ min (n - 1) 254 = place_contending e p a t n x in
    let v : place_of f q b t m ≡ min (m - 1) 254 = place_contending f q b t m y in
    nearer_greater e p a n f q b m t e_some e_less f_some f_less x y x_at y_at (min_less n m (omega (arith, less, u, v)))

-- one slot on: an end is nearer by one if the task rests, and if it runs it is that of the next subtask
pub ahead_rests : (e p a t n : ℕ) → 0 < e → IsFairAt e p a (t + 1) → IsAhead e p a t n → IsAhead e p a (t + 1) (n - 1)
ahead_rests e p a t zero some next h = absurd (let high : e * (t + 1) < p * a + p = fair_high e p a (t + 1) next in omega (arith, h.reach))
ahead_rests e p a t (suc n) some next h =
    let z : t + 1 + (suc n - 1) ≡ t + suc n = omega arith in
    record { reach = rw z h.reach; least = rw z h.least }

-- the end by the lag alone: the least n for which e * n is at least p - lag
pub ahead_by_lag : (e p a t n : ℕ) → (pos p -ℤ lag_of e p a t) ≤ℤ pos (e * n) → pos (e * n) <ℤ ((pos p -ℤ lag_of e p a t) +ℤ pos e) → IsAhead e p a t n
ahead_by_lag e p a t n reach least = record { reach = omega (arith, ints); least = omega (arith, ints) }

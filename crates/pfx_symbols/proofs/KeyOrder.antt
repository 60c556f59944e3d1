-- Keys of strings stand in the order of the strings.
use Rattle.std.proofs.Common.{◌≡◌, ℕ, zero, suc, ◌+◌, ◌-◌, ◌*◌, ◌==◌, ◌<◌, ◌≤◌, ◌^◌, nat_lt, Bool, true, false, if◌then◌else◌, List, [], ◌∷◌, map, refl, ap, sym, subst, ◌∙◌, arith, inl, inr, ◌⊎◌}
use Rattle.std.proofs.Math.Nat.{mul-le-mul_right, zero-div}
use Rattle.std.proofs.lemmas.Bool.{cases_eq, eq-eqb, ne_eqb, ltb-true}
use Rattle.std.specs.declared.cmp.Ordering.TheVariants.{Equal, Greater}
use Rattle.std.specs.Ordering.{ordering_reverse}
use Rattle.std.specs.Cmp.Lexicographic.{slice_cmp}
use Rattle.pfx_symbols.specs.declared.kinds.Symbol.{Symbol}
use Rattle.pfx_symbols.specs.declared.kinds.Symbol.TheVariants.{Zero, Plus}
use Rattle.pfx_symbols.specs.Symbols.{symbol_cmp}
use Rattle.pfx_symbols.specs.Laws.{Tells}
use Rattle.pfx_symbols.specs.Strings.{Spells}
use Rattle.pfx_symbols.specs.declared.keys.Key.{Key}
use Rattle.pfx_symbols.specs.Keys.{level, start, width, gap, above, back_from, first_key, gaps_key}
use Rattle.pfx_symbols.proofs.Strings.{minuses, After, Gaps, negated, complement, negated_cmp}
use Rattle.pfx_symbols.proofs.Rounds.{Head, head, first_zero, first_plus, gaps_differ, gaps_after, sizes_differ, same_front, same_sizes, some_left, some_steps, two_steps, strings_total, number_greater}
use Rattle.pfx_symbols.proofs.Splits.{within, split_less, split_same, Reaches, gap_is}

-- a weight
pub record IsWeight (e p : ℕ) : Type 0 where
  pub some : 1 ≤ e
  pub less : e < p
  pub limit : p ≤ 2 ^ 20

-- a weight, and a phase behind a gap
pub record IsInner (e p v : ℕ) : Type 0 where
  pub weight : IsWeight e p
  pub low : 0 < v
  pub high : v < e

-- a key of a range of so many
pub record Within (size : ℕ) (k : Key) : Type 0 where
  pub most : k.number ≤ size
  pub room : k.whole ≡ true → k.number < size

abbrev pub Fit : (ℕ → ℕ → ℕ → ℕ → Key) → Type 0
Fit after = (size e p v : ℕ) (xs : List Symbol) → IsInner e p v → Spells e p v xs → Within size (after size e p v)

abbrev pub Tell : (ℕ → ℕ → ℕ → ℕ → Key) → Type 0
Tell after = (size e p v f q w : ℕ) (xs ys : List Symbol) → IsInner e p v → IsInner f q w → Spells e p v xs → Spells f q w ys → Tells (after size e p v) (after size f q w) xs ys

-- keys that begin with numbers
split_tells : (i j size : ℕ) (a b : Key) (xs ys : List Symbol) → 0 < i → i < 2 ^ 32 → 0 < j → j < 2 ^ 32 → Within (width i size) a → Within (width j size) b
    → (i < j → slice_cmp symbol_cmp xs ys ≡ Greater) → (i ≡ j → Tells a b xs ys) → Tells (above (start i size) a) (above (start j size) b) xs ys
split_tells i j size a b xs ys some few also no_more a_in b_in lower equal = record {
  less = λ l. elim (split_less i j size a.number b.number some few also no_more a_in.most b_in.most l) [
    | inl less ↦ lower less
    | inr both ↦ (equal both.0).less both.1
  ];
  same = λ is a_whole b_whole. (let s = split_same i j size a.number b.number some few also no_more (a_in.room a_whole) (b_in.room b_whole) is in (equal s.0).same s.1 a_whole b_whole);
}

above_within : (i size : ℕ) (k : Key) → 0 < i → i < 2 ^ 32 → Within (width i size) k → Within size (above (start i size) k)
above_within i size k some few h =
    let w = within i size some few in
    record { most = omega (arith, w, h.most); room = λ whole. (let r = h.room whole in omega (arith, w, r)) }

abbrev last_key : ℕ → Key
last_key w = record { number = w - 1; whole = nat_lt 0 w }

last_within : (w : ℕ) → Within w (last_key w)
last_within w = record { most = omega arith; room = λ is. (let some : 0 < w = ltb-true 0 w is in omega (arith, some)) }

-- a string that ends with its first gap, and its key behind that
pub record Stops (w i : ℕ) (xs : List Symbol) (k : Key) : Type 0 where
  pub is : xs ≡ minuses (i - 1) (Zero ∷ [])
  pub key : k ≡ last_key w

-- one that goes on
pub record Goes (after : ℕ → ℕ → ℕ → ℕ → Key) (w i e p v : ℕ) (xs : List Symbol) (k : Key) : Type 0 where
  pub inner : IsInner e p v
  pub rest : After (i - 1) e p v xs
  pub key : k ≡ after (w - 1) e p v

abbrev rest_key : (ℕ → ℕ → ℕ → ℕ → Key) → ℕ → ℕ → ℕ → ℕ → ℕ → Key
rest_key after w e p r i = if r + e * i == p then last_key w else after (w - 1) e p (r + e * i - p)

pub if_true : (b : Bool) (x y : Key) → b ≡ true → (if b then x else y) ≡ x
if_true true x y is = refl
if_true false x y is = cc

pub if_false : (b : Bool) (x y : Key) → b ≡ false → (if b then x else y) ≡ y
if_false true x y is = cc
if_false false x y is = refl

pub front : (after : ℕ → ℕ → ℕ → ℕ → Key) (w e p r i : ℕ) (xs : List Symbol) → IsWeight e p → r < p → Reaches e (p - r) i → Spells e p r xs
    → Stops w i xs (rest_key after w e p r i) ⊎ Goes after w i e p (r + e * i - p) xs (rest_key after w e p r i)
front after w e p r i xs weight low at h = elim (cases_eq (r + e * i) p) [
  | inl same ↦ inl (record { is = first_zero e p r i xs weight.some weight.less low (sym same) h; key = if_true _ _ _ (eq-eqb (r + e * i) p same) })
  | inr other ↦
      (let over : p < r + e * i = omega (arith, other, at.reach, low) in
      let below : r + e * i - p < e = omega (arith, at.least, low, weight.some) in
      inr (record {
        inner = record { weight = weight; low = omega (arith, over); high = below };
        rest = first_plus e p r i (r + e * i - p) xs weight.less low (omega (arith, over)) below (omega (arith, over)) h;
        key = if_false _ _ _ (ne_eqb (r + e * i) p other);
      }))
]

rest_within : (after : ℕ → ℕ → ℕ → ℕ → Key) → Fit after → (w i e p v : ℕ) (xs : List Symbol) (k : Key) → Stops w i xs k ⊎ Goes after w i e p v xs k → Within w k
rest_within after fit w i e p v xs k (inl s) = subst (Within w) (sym s.key) (last_within w)
rest_within after fit w i e p v xs k (inr g) =
    let f = fit (w - 1) e p v g.rest.rest g.inner g.rest.spelled in
    let here : Within w (after (w - 1) e p v) = record { most = omega (arith, f.most); room = λ whole. (let r = f.room whole in omega (arith, r)) } in
    subst (Within w) (sym g.key) here

pub rest_tells : (after : ℕ → ℕ → ℕ → ℕ → Key) → Fit after → Tell after → (w i e p v f q u : ℕ) (xs ys : List Symbol) (a b : Key)
    → Stops w i xs a ⊎ Goes after w i e p v xs a → Stops w i ys b ⊎ Goes after w i f q u ys b → Tells a b xs ys
rest_tells after fit tell w i e p v f q u xs ys a b (inl s) (inl t) = record {
  less = λ l. absurd (let x : a.number ≡ w - 1 = ap (λ k. k.number) s.key in let y : b.number ≡ w - 1 = ap (λ k. k.number) t.key in omega (arith, l, x, y));
  same = λ is aw bw. sym (same_front (i - 1) xs ys (Zero ∷ []) (Zero ∷ []) s.is t.is);
}
rest_tells after fit tell w i e p v f q u xs ys a b (inl s) (inr t) =
    let x : a.number ≡ w - 1 = ap (λ k. k.number) s.key in
    let y : b.number ≡ (after (w - 1) f q u).number = ap (λ k. k.number) t.key in
    let z : b.whole ≡ (after (w - 1) f q u).whole = ap (λ k. k.whole) t.key in
    let fits = fit (w - 1) f q u t.rest.rest t.inner t.rest.spelled in
    record {
      less = λ l. absurd (omega (arith, l, x, y, fits.most));
      same = λ is aw bw. absurd (let r = fits.room (sym z ∙ bw) in omega (arith, is, x, y, r));
    }
rest_tells after fit tell w i e p v f q u xs ys a b (inr s) (inl t) =
    let x : a.number ≡ (after (w - 1) e p v).number = ap (λ k. k.number) s.key in
    let z : a.whole ≡ (after (w - 1) e p v).whole = ap (λ k. k.whole) s.key in
    let y : b.number ≡ w - 1 = ap (λ k. k.number) t.key in
    let fits = fit (w - 1) e p v s.rest.rest s.inner s.rest.spelled in
    record {
      less = λ l. sym (same_front (i - 1) xs ys (Plus ∷ s.rest.rest) (Zero ∷ []) s.rest.is t.is);
      same = λ is aw bw. absurd (let r = fits.room (sym z ∙ aw) in omega (arith, is, x, y, r));
    }
rest_tells after fit tell w i e p v f q u xs ys a b (inr s) (inr t) =
    let told = tell (w - 1) e p v f q u s.rest.rest t.rest.rest s.inner t.inner s.rest.spelled t.rest.spelled in
    let x : a.number ≡ (after (w - 1) e p v).number = ap (λ k. k.number) s.key in
    let y : b.number ≡ (after (w - 1) f q u).number = ap (λ k. k.number) t.key in
    let aw_is : a.whole ≡ (after (w - 1) e p v).whole = ap (λ k. k.whole) s.key in
    let bw_is : b.whole ≡ (after (w - 1) f q u).whole = ap (λ k. k.whole) t.key in
    let same : slice_cmp symbol_cmp s.rest.rest t.rest.rest ≡ slice_cmp symbol_cmp xs ys = same_front (i - 1) xs ys (Plus ∷ s.rest.rest) (Plus ∷ t.rest.rest) s.rest.is t.rest.is in
    record {
      less = λ l. sym same ∙ told.less (omega (arith, l, x, y));
      same = λ is aw bw. sym same ∙ told.same (omega (arith, is, x, y)) (sym aw_is ∙ aw) (sym bw_is ∙ bw);
    }

few_steps_32 : (e p r i : ℕ) → IsWeight e p → r < p → Reaches e (p - r) i → (0 < i) × (i < 2 ^ 32)
few_steps_32 e p r i weight low at =
    let some : 1 ≤ i = some_steps e i (p - r) (omega (arith, low)) at.reach in
    let most : 1 * i ≤ e * i = mul-le-mul_right i weight.some in
    (omega (arith, some), omega (arith, most, at.least, weight.limit, weight.less))

pub first_within : (after : ℕ → ℕ → ℕ → ℕ → Key) → Fit after → (size e p r : ℕ) (xs : List Symbol) → IsWeight e p → r < p → Spells e p r xs → Within size (first_key after size e p r)
first_within after fit size e p r xs weight low h =
    let i = gap e (p - r) in
    let at = gap_is e (p - r) weight.some (omega (arith, low)) in
    let few = few_steps_32 e p r i weight low at in
    above_within i size (rest_key after (width i size) e p r i) few.0 few.1
    (rest_within after fit (width i size) i e p (r + e * i - p) xs _ (front after (width i size) e p r i xs weight low at h))

pub first_tells : (after : ℕ → ℕ → ℕ → ℕ → Key) → Fit after → Tell after → (size e p r f q s : ℕ) (xs ys : List Symbol)
    → IsWeight e p → IsWeight f q → r < p → s < q → Spells e p r xs → Spells f q s ys → Tells (first_key after size e p r) (first_key after size f q s) xs ys
first_tells after fit tell size e p r f q s xs ys a b a_low b_low h k =
    let i = gap e (p - r) in
    let j = gap f (q - s) in
    let a_at = gap_is e (p - r) a.some (omega (arith, a_low)) in
    let b_at = gap_is f (q - s) b.some (omega (arith, b_low)) in
    let a_few = few_steps_32 e p r i a a_low a_at in
    let b_few = few_steps_32 f q s j b b_low b_at in
    let x = front after (width i size) e p r i xs a a_low a_at h in
    let y = front after (width j size) f q s j ys b b_low b_at k in
    let a_head : Head (i - 1) xs = head e p r i xs a.some a.less a_low (omega (arith, a_at.reach)) (omega (arith, a_at.least, a_low)) h in
    let b_head : Head (j - 1) ys = head f q s j ys b.some b.less b_low (omega (arith, b_at.reach)) (omega (arith, b_at.least, b_low)) k in
    split_tells i j size (rest_key after (width i size) e p r i) (rest_key after (width j size) f q s j) xs ys a_few.0 a_few.1 b_few.0 b_few.1
    (rest_within after fit (width i size) i e p (r + e * i - p) xs _ x)
    (rest_within after fit (width j size) j f q (s + f * j - q) ys _ y)
    (λ less. sym (gaps_differ i j xs ys (omega (arith, a_few.0)) (omega (arith, b_few.0)) (λ is. omega (arith, less, is)) a_head b_head) ∙ number_greater i j less)
    (λ same.
    (let P : ℕ → Type 0 = λ n. Stops (width n size) n ys (rest_key after (width j size) f q s j) ⊎ Goes after (width n size) n f q (s + f * j - q) ys (rest_key after (width j size) f q s j) in
    rest_tells after fit tell (width i size) i e p (r + e * i - p) f q (s + f * j - q) xs ys _ _ x (subst P (sym same) y)))

turned_greater : (e p r f q s : ℕ) (xs ys : List Symbol) → Spells e p r xs → Spells f q s ys → slice_cmp symbol_cmp (map negated ys) (map negated xs) ≡ Greater → slice_cmp symbol_cmp xs ys ≡ Greater
turned_greater e p r f q s xs ys h k is =
    negated_cmp e p r f q s xs ys h k
    ∙ ap ordering_reverse (strings_total.antisymm (map negated xs) (map negated ys) ∙ ap ordering_reverse is)

turned_equal : (e p r f q s : ℕ) (xs ys : List Symbol) → Spells e p r xs → Spells f q s ys → slice_cmp symbol_cmp (map negated ys) (map negated xs) ≡ Equal → slice_cmp symbol_cmp xs ys ≡ Equal
turned_equal e p r f q s xs ys h k is =
    negated_cmp e p r f q s xs ys h k
    ∙ ap ordering_reverse (strings_total.antisymm (map negated xs) (map negated ys) ∙ ap ordering_reverse is)

-- the weight that the gaps after the first have
pub record Further (e p v a : ℕ) (xs : List Symbol) : Type 0 where
  pub gaps : Gaps (a - 2) (e * a - p) e v xs
  pub weight : IsWeight (e * a - p) e

pub further : (e p v a : ℕ) (xs : List Symbol) → IsInner e p v → Reaches e p a → Spells e p v xs → Further e p v a xs
further e p v a xs in_it at h =
    let g = gaps_after e p a v xs in_it.low in_it.high in_it.weight.less at.reach at.least h in
    record {
      gaps = g;
      weight = record { some = some_left (e * a - p) e v g.gaps in_it.high g.spelled; less = omega (arith, at.least, in_it.weight.some, in_it.weight.less); limit = omega (arith, in_it.weight.less, in_it.weight.limit) };
    }

-- the complement's weight and string
pub record Turned (e p v : ℕ) (xs : List Symbol) : Type 0 where
  pub weight : IsWeight (p - e) p
  pub low : p - v < p
  pub string : Spells (p - e) p (p - v) (map negated xs)

pub turned : (e p v : ℕ) (xs : List Symbol) → IsInner e p v → Spells e p v xs → Turned e p v xs
turned e p v xs in_it h =
    let below : v < p = omega (arith, in_it.high, in_it.weight.less) in
    record {
      weight = record { some = omega (arith, in_it.weight.less); less = omega (arith, in_it.weight.some, in_it.weight.less); limit = in_it.weight.limit };
      low = omega (arith, in_it.low, below);
      string = complement e p v xs in_it.low below in_it.weight.less h;
    }

few_gaps : (e p v a : ℕ) → IsInner e p v → Reaches e p a → (2 ≤ a) × (a < 2 ^ 32)
few_gaps e p v a in_it at =
    let most : 1 * a ≤ e * a = mul-le-mul_right a in_it.weight.some in
    (two_steps e a p in_it.weight.less at.reach, omega (arith, most, at.least, in_it.weight.limit, in_it.weight.less))

abbrev gaps_rest : (ℕ → ℕ → ℕ → ℕ → Key) → ℕ → ℕ → ℕ → ℕ → ℕ → Key
gaps_rest after w e p v a = if a == 2 then back_from (w - 1) (first_key after (w - 1) (p - e) p (p - v)) else first_key after w (e * a - p) e v

gaps_rest_within : (after : ℕ → ℕ → ℕ → ℕ → Key) → Fit after → (w e p v a : ℕ) (xs : List Symbol) → IsInner e p v → Reaches e p a → Spells e p v xs → Within w (gaps_rest after w e p v a)
gaps_rest_within after fit w e p v a xs in_it at h = elim (cases_eq a 2) [
  | inl heavy ↦
      (let t = turned e p v xs in_it h in
      let f = first_within after fit (w - 1) (p - e) p (p - v) (map negated xs) t.weight t.low t.string in
      let here : Within w (back_from (w - 1) (first_key after (w - 1) (p - e) p (p - v))) = record { most = omega arith; room = λ whole. (let r = f.room whole in omega (arith, r)) } in
      subst (Within w) (sym (if_true (a == 2) _ _ (eq-eqb a 2 heavy))) here)
  | inr light ↦
      (let g = further e p v a xs in_it at h in
      let f = first_within after fit w (e * a - p) e v g.gaps.gaps g.weight in_it.high g.gaps.spelled in
      subst (Within w) (sym (if_false (a == 2) _ _ (ne_eqb a 2 light))) f)
]

-- keys behind numbers that are the same
gaps_rest_tells : (after : ℕ → ℕ → ℕ → ℕ → Key) → Fit after → Tell after → (w e p v f q u a b : ℕ) (xs ys : List Symbol) → IsInner e p v → IsInner f q u → Reaches e p a → Reaches f q b
    → a ≡ b → Spells e p v xs → Spells f q u ys → Tells (gaps_rest after w e p v a) (gaps_rest after w f q u b) xs ys
gaps_rest_tells after fit tell w e p v f q u a b xs ys x_in y_in x_at y_at same h k = elim (cases_eq a 2) [
  | inl heavy ↦
      (let s = turned e p v xs x_in h in
      let t = turned f q u ys y_in k in
      let x = first_key after (w - 1) (p - e) p (p - v) in
      let y = first_key after (w - 1) (q - f) q (q - u) in
      let x_fits = first_within after fit (w - 1) (p - e) p (p - v) (map negated xs) s.weight s.low s.string in
      let y_fits = first_within after fit (w - 1) (q - f) q (q - u) (map negated ys) t.weight t.low t.string in
      let told : Tells y x (map negated ys) (map negated xs) =
      first_tells after fit tell (w - 1) (q - f) q (q - u) (p - e) p (p - v) (map negated ys) (map negated xs) t.weight s.weight t.low s.low t.string s.string in
      let here : Tells (back_from (w - 1) x) (back_from (w - 1) y) xs ys = record {
        less = λ l. turned_greater e p v f q u xs ys h k (told.less (omega (arith, l, x_fits.most, y_fits.most)));
        same = λ is xw yw. (let xr = x_fits.room xw in let yr = y_fits.room yw in turned_equal e p v f q u xs ys h k (told.same (omega (arith, is, xr, yr)) yw xw));
      } in
      subst (λ n. Tells n (gaps_rest after w f q u b) xs ys) (sym (if_true (a == 2) _ _ (eq-eqb a 2 heavy)))
      (subst (λ n. Tells (back_from (w - 1) x) n xs ys) (sym (if_true (b == 2) _ _ (eq-eqb b 2 (sym same ∙ heavy)))) here))
  | inr light ↦
      (let s = further e p v a xs x_in x_at h in
      let t = further f q u b ys y_in y_at k in
      let P : ℕ → Type 0 = λ n. Gaps (n - 2) (f * b - q) f u ys in
      let t_gaps : Gaps (a - 2) (f * b - q) f u ys = subst P (sym same) t.gaps in
      let x = first_key after w (e * a - p) e v in
      let y = first_key after w (f * b - q) f u in
      let order : slice_cmp symbol_cmp s.gaps.gaps t_gaps.gaps ≡ slice_cmp symbol_cmp xs ys = same_sizes (a - 2) (e * a - p) e v (f * b - q) f u xs ys s.gaps t_gaps in
      let told = first_tells after fit tell w (e * a - p) e v (f * b - q) f u s.gaps.gaps t_gaps.gaps s.weight t.weight x_in.high y_in.high s.gaps.spelled t_gaps.spelled in
      let here : Tells x y xs ys = record { less = λ l. sym order ∙ told.less l; same = λ is xw yw. sym order ∙ told.same is xw yw } in
      subst (λ n. Tells n (gaps_rest after w f q u b) xs ys) (sym (if_false (a == 2) _ _ (ne_eqb a 2 light)))
      (subst (λ n. Tells x n xs ys) (sym (if_false (b == 2) _ _ (ne_eqb b 2 (λ is. light (same ∙ is))))) here))
]

pub gaps_fit : (k : ℕ) → Fit (gaps_key k)
gaps_fit zero size e p v xs in_it h = record { most = omega arith; room = λ is. cc }
gaps_fit (suc k) size e p v xs in_it h =
    let a = gap e p in
    let at = gap_is e p in_it.weight.some (omega (arith, in_it.weight.less)) in
    let few = few_gaps e p v a in_it at in
    above_within (a - 1) size (gaps_rest (gaps_key k) (width (a - 1) size) e p v a) (omega (arith, few.0)) (omega (arith, few.1))
    (gaps_rest_within (gaps_key k) (gaps_fit k) (width (a - 1) size) e p v a xs in_it at h)

pub gaps_tell : (k : ℕ) → Tell (gaps_key k)
gaps_tell zero size e p v f q u xs ys x_in y_in h k = record { less = λ l. absurd (omega (arith, l)); same = λ is xw yw. cc }
gaps_tell (suc n) size e p v f q u xs ys x_in y_in h k =
    let a = gap e p in
    let b = gap f q in
    let x_at = gap_is e p x_in.weight.some (omega (arith, x_in.weight.less)) in
    let y_at = gap_is f q y_in.weight.some (omega (arith, y_in.weight.less)) in
    let x_few = few_gaps e p v a x_in x_at in
    let y_few = few_gaps f q u b y_in y_at in
    let s = further e p v a xs x_in x_at h in
    let t = further f q u b ys y_in y_at k in
    split_tells (a - 1) (b - 1) size (gaps_rest (gaps_key n) (width (a - 1) size) e p v a) (gaps_rest (gaps_key n) (width (b - 1) size) f q u b) xs ys
    (omega (arith, x_few.0)) (omega (arith, x_few.1)) (omega (arith, y_few.0)) (omega (arith, y_few.1))
    (gaps_rest_within (gaps_key n) (gaps_fit n) (width (a - 1) size) e p v a xs x_in x_at h)
    (gaps_rest_within (gaps_key n) (gaps_fit n) (width (b - 1) size) f q u b ys y_in y_at k)
    (λ less.
    sym (sizes_differ a b (e * a - p) e v (f * b - q) f u xs ys x_few.0 y_few.0 (λ is. omega (arith, less, is, x_few.0, y_few.0)) s.gaps t.gaps) ∙ number_greater a b (omega (arith, less, x_few.0, y_few.0)))
    (λ same.
    (let is : a ≡ b = omega (arith, same, x_few.0, y_few.0) in
    let P : ℕ → Type 0 = λ w. Tells (gaps_rest (gaps_key n) (width (a - 1) size) e p v a) (gaps_rest (gaps_key n) w f q u b) xs ys in
    subst P (ap (λ c. width c size) same) (gaps_rest_tells (gaps_key n) (gaps_fit n) (gaps_tell n) (width (a - 1) size) e p v f q u a b xs ys x_in y_in x_at y_at is h k)))

-- a range of no keys
abbrev pub none : Key
none = record { number = 0; whole = false }

above_none : (key : Key) → key ≡ none → above 0 key ≡ none
above_none key is = ap (λ k. above 0 k) is

width_none : (n : ℕ) → width n 0 ≡ 0
width_none n = zero-div (2 ^ (2 * level n + 1))

start_none : (n : ℕ) → start n 0 ≡ 0
start_none n =
    let w = width_none n in
    let product : (n - 2 ^ level n) * width n 0 ≡ (n - 2 ^ level n) * 0 = ap (λ k. (n - 2 ^ level n) * k) w in
    omega (arith, product)

first_none : (after : ℕ → ℕ → ℕ → ℕ → Key) → ((e p v : ℕ) → after 0 e p v ≡ none) → (e p r : ℕ) → first_key after 0 e p r ≡ none
first_none after h e p r =
    let i = gap e (p - r) in
    let F : ℕ → ℕ → Key = λ s w. above s (if r + e * i == p then record { number = w - 1; whole = nat_lt 0 w } else after (w - 1) e p (r + e * i - p)) in
    ap (λ s. F s (width i 0)) (start_none i) ∙ ap (λ w. F 0 w) (width_none i) ∙ elim (cases_eq (r + e * i) p) [
      | inl same ↦ above_none _ (if_true _ _ _ (eq-eqb (r + e * i) p same))
      | inr other ↦ above_none _ (if_false _ _ _ (ne_eqb (r + e * i) p other) ∙ h e p (r + e * i - p))
    ]

pub gaps_none : (k e p v : ℕ) → gaps_key k 0 e p v ≡ none
gaps_none zero e p v = refl
gaps_none (suc k) e p v =
    let a = gap e p in
    let F : ℕ → ℕ → Key = λ s w. above s (if a == 2 then back_from (w - 1) (first_key (gaps_key k) (w - 1) (p - e) p (p - v)) else first_key (gaps_key k) w (e * a - p) e v) in
    ap (λ s. F s (width (a - 1) 0)) (start_none (a - 1)) ∙ ap (λ w. F 0 w) (width_none (a - 1)) ∙ elim (cases_eq a 2) [
      | inl heavy ↦ above_none _ (if_true _ _ _ (eq-eqb a 2 heavy) ∙ ap (λ key. back_from 0 key) (first_none (gaps_key k) (gaps_none k) (p - e) p (p - v)))
      | inr light ↦ above_none _ (if_false _ _ _ (ne_eqb a 2 light) ∙ first_none (gaps_key k) (gaps_none k) (e * a - p) e v)
    ]

-- The tasks below a place, and of those at it the ones that a pivot picks, are PF's choice.
use Rattle.std.proofs.Common.{◌≡◌, ◌≢◌, ℕ, ◌+◌, ◌<◌, ◌≤◌, ◌==◌, Bool, true, false, if◌then◌else◌, Option, arith, ap, sym, ◌∙◌, refl, ◌⊎◌, inl, inr}
use Rattle.std.specs.Prelude.{nat_lt}
use Rattle.std.proofs.lemmas.Bool.{cases_lt, cases_eq}
use Rattle.std.proofs.lemmas.Grind.{common_steps}
use Rattle.pfx_symbols.specs.Ranks.{Parts}
use Rattle.pfx_weights.specs.Rows.{one, count}
use Rattle.pfx_weights.proofs.Counts.{true_not_false, count-sum}
use Rattle.pfx_symbols.specs.declared.kinds.Class.TheVariants.{Contending, Urgent, Tnegru}
use Rattle.pfx_columns.specs.Ledgers.{Ledger, total, class, rank, IsLedger}
use Rattle.pfx_choice.specs.Choices.{IsPf, BeatsIn}
use Rattle.pfx_choice.specs.Picks.{ranks_if, IsPivotFor, reaches}
use Rattle.pfx_choice.proofs.Best.{rank_order}
use Rattle.pfx_choice.proofs.Picking.{taken_if, above}

-- each task's place in the order so far: urgent ones at 0, tnegru ones at 255, and of two contending ones the one at the lesser place beats the other
pub record ArePlacesOf (g : Ledger) (near : ℕ → ℕ) : Type 0 where
  pub urgent : (x : ℕ) → x < total g → class g x ≡ Urgent → near x ≡ 0
  pub tnegru : (x : ℕ) → x < total g → class g x ≡ Tnegru → near x ≡ 255
  pub beats : (x y : ℕ) → x < total g → y < total g → class g x ≡ Contending → class g y ≡ Contending → near x < near y → BeatsIn g x y

abbrev pub cut : ℕ → ℕ → Bool → Bool
cut n d b = if nat_lt n d then true else (if n == d then b else false)

-- below place d, or at it and not below the pivot
abbrev pub cut_set : Ledger → (ℕ → ℕ) → ℕ → Option Parts → ℕ → Bool
cut_set g near d o x = cut (near x) d (reaches o (rank g x))

pub lt_yes : (n d : ℕ) → n < d → nat_lt n d ≡ true
lt_yes n d h = grind (arith, common_steps)

pub lt_no : (n d : ℕ) → d ≤ n → nat_lt n d ≡ false
lt_no n d h = grind (arith, common_steps)

pub eq_yes : (n d : ℕ) → n ≡ d → (n == d) ≡ true
eq_yes n d e = grind (arith, common_steps)

pub eq_no : (n d : ℕ) → n ≢ d → (n == d) ≡ false
eq_no n d e = grind (arith, common_steps)

cut_below : (n d : ℕ) (b : Bool) → n < d → cut n d b ≡ true
cut_below n d b h = rw (lt_yes n d h) refl

cut_above : (n d : ℕ) (b : Bool) → d < n → cut n d b ≡ false
cut_above n d b h = rw (lt_no n d (omega arith), eq_no n d (λ e. omega arith)) refl

cut_at : (n d : ℕ) (b : Bool) → n ≡ d → cut n d b ≡ b
cut_at n d b h = rw (lt_no n d (omega arith), eq_yes n d h) refl

cut_sum : (n d : ℕ) (b : Bool) → one (cut n d b) ≡ one (nat_lt n d) + one (if n == d then b else false)
cut_sum n d b = elim (cases_lt n d) [
  | inl less ↦ rw (lt_yes n d less, eq_no n d (λ e. omega arith)) refl
  | inr not ↦ elim (cases_eq n d) [
    | inl same ↦ rw (lt_no n d (omega arith), eq_yes n d same) (omega arith)
    | inr other ↦ rw (lt_no n d (omega arith), eq_no n d other) refl
  ]
]

in_cut : (n d : ℕ) (b : Bool) → cut n d b ≡ true → (n < d) ⊎ ((n ≡ d) × (b ≡ true))
in_cut n d b h = elim (cases_lt n d) [
  | inl less ↦ inl less
  | inr not ↦ elim (cases_eq n d) [
    | inl same ↦ inr (same, sym (cut_at n d b same) ∙ h)
    | inr other ↦ absurd (let k : false ≡ true = sym (cut_above n d b (omega arith)) ∙ h in cc)
  ]
]

out_of_cut : (n d : ℕ) (b : Bool) → cut n d b ≡ false → (d < n) ⊎ ((n ≡ d) × (b ≡ false))
out_of_cut n d b h = elim (cases_lt n d) [
  | inl less ↦ absurd (let k : true ≡ false = sym (cut_below n d b less) ∙ h in cc)
  | inr not ↦ elim (cases_eq n d) [
    | inl same ↦ inr (same, sym (cut_at n d b same) ∙ h)
    | inr other ↦ inl (omega arith)
  ]
]

-- what is below the place, and picked at it, is PF's choice
pub cut_pf : (g : Ledger) (near : ℕ → ℕ) (d k : ℕ) (o : Option Parts) → IsLedger g → ArePlacesOf g near → 0 < d → d < 255 → IsPivotFor (ranks_if (λ x. near x == d) (total g) g) k o →
    count (total g) (λ x. nat_lt (near x) d) + k ≡ g.set.workers → IsPf g (cut_set g near d o)
cut_pf g near d k o h places some few p all =
    record {
      size =
          count-sum (total g) (cut_set g near d o) (λ x. nat_lt (near x) d) (λ x. if near x == d then reaches o (rank g x) else false) (λ x l. cut_sum (near x) d (reaches o (rank g x)))
          ∙ ap (λ n. count (total g) (λ x. nat_lt (near x) d) + n) (taken_if g (λ x. near x == d) k o p) ∙ all;
      urgent = λ x l u. (let z : near x ≡ 0 = places.urgent x l u in cut_below (near x) d (reaches o (rank g x)) (omega arith));
      tnegru = λ x l t. (let z : near x ≡ 255 = places.tnegru x l t in cut_above (near x) d (reaches o (rank g x)) (omega arith));
      beats = λ x y l m x_class y_class in_s out_s. elim (in_cut (near x) d (reaches o (rank g x)) in_s) [
        | inl below ↦ elim (out_of_cut (near y) d (reaches o (rank g y)) out_s) [
          | inl beyond ↦ places.beats x y l m x_class y_class (omega arith)
          | inr at ↦ places.beats x y l m x_class y_class (omega (arith, at.0))
        ]
        | inr at ↦ elim (out_of_cut (near y) d (reaches o (rank g y)) out_s) [
          | inl beyond ↦ places.beats x y l m x_class y_class (omega (arith, at.0))
          | inr also ↦
              (let ne : x ≢ y = λ e. true_not_false (cut_set g near d o y) (ap (cut_set g near d o) (sym e) ∙ in_s) out_s in
              sym (rank_order g x y h l m ne) ∙ above (rank g x) (rank g y) o at.1 also.1)
        ]
      ];
    }

-- Tasks whose weights are one fraction have one string at every slot.
use Rattle.std.proofs.Common.{◌≡◌, ℕ, zero, suc, ◌+◌, ◌*◌, ◌/◌, ◌<◌, List, ℤ, pos, length, slice_index_or, arith, refl, ap, sym, ◌∙◌, inl, inr}
use Rattle.std.proofs.Math.Nat.{mul-div-mul_left, mul-lt-mul_of_pos_left}
use Rattle.std.proofs.lemmas.Bool.{cases_lt}
use Rattle.std.proofs.lemmas.Grind.{common_steps}
use Rattle.pfx_symbols.specs.declared.kinds.Symbol.TheVariants.{Minus, Zero, Plus}
use Rattle.pfx_symbols.specs.Symbols.{sign_of, symbol_at, symbols_from, substring_at}
use Rattle.pfx_symbols.specs.Ranks.{substring}
use Rattle.pfx_symbols.proofs.Phases.{substring_at-more, substring_of-slot}
use Rattle.pfx_columns.specs.Columns.{IsColumn, e_in, natural, p_in}
use Rattle.pfx_columns.specs.Ledgers.{Ledger, IsLedger, total, task, rank}
use Rattle.pfx_columns.proofs.Placing.{weight_of_task}
use Rattle.pfx_choice.specs.Kinds.{AreKinds, AreKindsIn, HaveOneWeight}

sign_less : (a b : ℕ) → a < b → sign_of a b ≡ Minus
sign_less a b h = grind (arith, common_steps)

sign_same : (a b : ℕ) → a ≡ b → sign_of a b ≡ Zero
sign_same a b h = grind (arith, common_steps)

sign_more : (a b : ℕ) → b < a → sign_of a b ≡ Plus
sign_more a b h = grind (arith, common_steps)

-- the sign of a difference is that of a multiple of it
sign_of-times : (n a b : ℕ) → 0 < n → sign_of (n * a) (n * b) ≡ sign_of a b
sign_of-times n a b some = elim (cases_lt a b) [
  | inl less ↦ sign_less (n * a) (n * b) (mul-lt-mul_of_pos_left less some) ∙ sym (sign_less a b less)
  | inr not ↦ elim (cases_lt b a) [
    | inl more ↦ sign_more (n * a) (n * b) (mul-lt-mul_of_pos_left more some) ∙ sym (sign_more a b more)
    | inr also ↦ (let same : a ≡ b = omega (arith, not, also) in sign_same (n * a) (n * b) (ap (λ k. n * k) same) ∙ sym (sign_same a b same))
  ]
]

-- products of what are one fraction
same_product : (e p f q t : ℕ) → e * q ≡ f * p → q * (e * t) ≡ p * (f * t)
same_product e p f q t same = (let more : e * q * t ≡ f * p * t = ap (λ n. n * t) same in omega (arith, more))

same_quotient : (e p f q t : ℕ) → 0 < p → 0 < q → e * q ≡ f * p → e * t / p ≡ f * t / q
same_quotient e p f q t p_some q_some same =
    let turn : q * p ≡ p * q = omega arith in
    sym (mul-div-mul_left (e * t) p q_some) ∙ ap (λ n. n / (q * p)) (same_product e p f q t same) ∙ ap (λ n. p * (f * t) / n) turn ∙ mul-div-mul_left (f * t) q p_some

same_symbol : (e p f q t : ℕ) → 0 < p → 0 < q → e * q ≡ f * p → symbol_at e p t ≡ symbol_at f q t
same_symbol e p f q t p_some q_some same =
    let x = p * (e * t / p) + p in
    let y = q * (f * t / q) + q in
    let over : q * x ≡ p * y = ap (λ n. q * (p * n + p)) (same_quotient e p f q t p_some q_some same) ∙ (let n = f * t / q in omega arith) in
    sym (sign_of-times q (e * (t + 1)) x q_some) ∙ ap (λ n. sign_of n (q * x)) (same_product e p f q (t + 1) same)
    ∙ ap (λ n. sign_of (p * (f * (t + 1))) n) over ∙ sign_of-times p (f * (t + 1)) y p_some

same_symbols : (n e p f q t : ℕ) → 0 < p → 0 < q → e * q ≡ f * p → symbols_from n e p t ≡ symbols_from n f q t
same_symbols zero e p f q t p_some q_some same = refl
same_symbols (suc n) e p f q t p_some q_some same =
    rw (same_symbol e p f q t p_some q_some same, same_symbols n e p f q (t + 1) p_some q_some same) refl

same_substring : (e p f q t : ℕ) → 0 < e → e < p → 0 < f → f < q → e * q ≡ f * p → substring_at e p t ≡ substring_at f q t
same_substring e p f q t e_some e_less f_some f_less same =
    sym (substring_at-more (p + q) e p t e_some e_less (omega arith)) ∙ same_symbols (p + q) e p f q (t + 1) (omega arith) (omega arith) same
    ∙ substring_at-more (p + q) f q t f_some f_less (omega arith)

-- tasks of one weight have one string
pub same_string : (g : Ledger) (x y : ℕ) → IsLedger g → x < total g → y < total g → HaveOneWeight g x y → substring (rank g x) ≡ substring (rank g y)
same_string g x y h l m same =
    let v = weight_of_task g x h l in
    let w = weight_of_task g y h m in
    let a = task g x in
    let b = task g y in
    substring_of-slot a.e a.p g.slot v.0 v.1 ∙ same_substring a.e a.p b.e b.p g.slot v.0 v.1 w.0 w.1 same ∙ sym (substring_of-slot b.e b.p g.slot w.0 w.1)

-- products of a ledger's columns are those of its tasks
products : (g : Ledger) (es ps : List ℤ) (x y : ℕ) → slice_index_or es x (pos 0) ≡ e_in g x → slice_index_or ps y (pos 0) ≡ p_in g y
    → natural (slice_index_or es x (pos 0)) * natural (slice_index_or ps y (pos 0)) ≡ (task g x).e * (task g y).p
products g es ps x y e p = ap (λ a. natural a * natural (slice_index_or ps y (pos 0))) e ∙ ap (λ b. (task g x).e * natural b) p

-- the kinds of a ledger's tasks are those of its columns
pub kinds_of : (g : Ledger) (es ps : List ℤ) (firsts kinds : List ℕ) → IsColumn (total g) (e_in g) es → IsColumn (total g) (p_in g) ps → AreKindsIn g firsts kinds → AreKinds es ps firsts kinds
kinds_of g es ps firsts kinds u v h = record {
  first = λ k l. (let w = h.first k l in omega (arith, w, u.long));
  within = λ x l. h.within x (omega (arith, l, h.long));
  same = λ x l.
      (let inside : x < total g = omega (arith, l, h.long) in
      let y = slice_index_or firsts (slice_index_or kinds x 0) 0 in
      let k : y < total g = h.first (slice_index_or kinds x 0) (h.within x inside) in
      products g es ps x y (u.at x inside) (v.at y k) ∙ h.same x inside ∙ sym (products g es ps y x (u.at y k) (v.at x inside)));
}

-- columns that are those of a ledger have its kinds
pub kinds_in : (g : Ledger) (es ps us vs : List ℤ) (firsts kinds : List ℕ) → AreKinds es ps firsts kinds → IsColumn (total g) (e_in g) us → IsColumn (total g) (p_in g) vs
    → length kinds ≡ total g → length es ≡ length us → length ps ≡ length vs → ((x : ℕ) → x < length es → slice_index_or es x (pos 0) ≡ slice_index_or us x (pos 0))
    → ((x : ℕ) → x < length ps → slice_index_or ps x (pos 0) ≡ slice_index_or vs x (pos 0)) → AreKindsIn g firsts kinds
kinds_in g es ps us vs firsts kinds h u v all e_long p_long e_same p_same =
    let n = u.long in
    let m = v.long in
    let first : (k : ℕ) → k < length firsts → slice_index_or firsts k 0 < total g = λ k l. (let w = h.first k l in omega (arith, w, e_long, n)) in
    let e_at : (x : ℕ) → x < total g → slice_index_or es x (pos 0) ≡ e_in g x = λ x l. e_same x (omega (arith, l, e_long, n)) ∙ u.at x l in
    let p_at : (x : ℕ) → x < total g → slice_index_or ps x (pos 0) ≡ p_in g x = λ x l. p_same x (omega (arith, l, p_long, m)) ∙ v.at x l in
    record {
      long = all;
      first = first;
      within = λ x l. h.within x (omega (arith, l, all));
      same = λ x l.
          (let inside : x < length kinds = omega (arith, l, all) in
          let y = slice_index_or firsts (slice_index_or kinds x 0) 0 in
          let k : y < total g = first (slice_index_or kinds x 0) (h.within x inside) in
          sym (products g es ps x y (e_at x l) (p_at y k)) ∙ h.same x inside ∙ products g es ps y x (e_at y k) (p_at x l));
    }

-- What kinds know of their strings, and what that tells of two.
use Rattle.std.proofs.Common.{◌≡◌, ℕ, ◌+◌, ◌-◌, ◌*◌, ◌/◌, ◌==◌, ◌<◌, ◌≤◌, true, if◌then◌else◌, List, length, slice_index_or, refl, arith, ap, sym, ◌∙◌, subst, inl, inr}
use Rattle.std.proofs.Math.Nat.{mod-lt}
use Rattle.std.proofs.lemmas.Bool.{cases_eq, eq-eqb, ne_eqb}
use Rattle.std.specs.declared.cmp.Ordering.TheVariants.{Equal, Greater}
use Rattle.std.specs.Cmp.Lexicographic.{slice_cmp}
use Rattle.pfx_symbols.specs.declared.keys.Key.{Key}
use Rattle.pfx_symbols.specs.Symbols.{symbol_cmp}
use Rattle.pfx_symbols.specs.Ranks.{Parts, IsRank, substring}
use Rattle.pfx_symbols.specs.Keys.{keys, key_behind, key_after_gap}
use Rattle.pfx_symbols.specs.RankKeys.{next_of, first_gap, rank_key}
use Rattle.pfx_symbols.proofs.Rounds.{number_greater}
use Rattle.pfx_symbols.proofs.Splits.{gap_is}
use Rattle.pfx_symbols.proofs.KeyOrder.{if_true, if_false}
use Rattle.pfx_symbols.proofs.RankKeyOrder.{only_gap, gaps_tell_order, rank_keys_tell}
use Rattle.pfx_columns.specs.Ledgers.{Ledger, rank}
use Rattle.pfx_choice.specs.declared.kind.Kind.{Kind}
use Rattle.pfx_choice.specs.Kinds.{key_from, IsOf}
use Rattle.pfx_choice.specs.Renewed.{AreRenewed}

-- the key by its own gap of a rank whose string goes on from phase v behind that gap
own_key : (r : Parts) (v : ℕ) → next_of r + r.e * first_gap r ≡ r.p + v → rank_key (first_gap r) 24 r ≡ key_from r.e r.p v
own_key r v end =
    let i = first_gap r in
    let n = next_of r + r.e * i in
    let last : Key = record { number = keys; whole = true } in
    let behind : key_after_gap 24 r.e r.p (next_of r) ≡ (if v == 0 then last else key_behind 24 r.e r.p v) = elim (cases_eq v 0) [
      | inl none ↦ if_true (n == r.p) last (key_behind 24 r.e r.p (n - r.p)) (eq-eqb n r.p (omega (arith, end, none))) ∙ sym (if_true (v == 0) last (key_behind 24 r.e r.p v) (eq-eqb v 0 none))
      | inr some ↦
          (let left : n - r.p ≡ v = omega (arith, end) in
          if_false (n == r.p) last (key_behind 24 r.e r.p (n - r.p)) (ne_eqb n r.p (λ e. some (omega (arith, end, e))))
          ∙ ap (key_behind 24 r.e r.p) left ∙ sym (if_false (v == 0) last (key_behind 24 r.e r.p v) (ne_eqb v 0 some)))
    ] in
    if_true (i == i) _ _ (eq-eqb i i refl) ∙ ap (λ (k : Key). record { number = k.number + 1; whole = k.whole }) behind

-- the same of the numbers that are at hand
pub kind_key : (r : Parts) (e p n i v : ℕ) → e ≡ r.e → p ≡ r.p → n ≡ next_of r → i ≡ first_gap r → n + e * i ≡ p + v → rank_key i 24 r ≡ key_from e p v
kind_key r e p n i v e_is p_is n_is i_is end =
    let here : next_of r + r.e * first_gap r ≡ r.p + v =
    ap (λ m. m + r.e * first_gap r) (sym n_is) ∙ ap (λ a. n + a * first_gap r) (sym e_is) ∙ ap (λ j. n + e * j) (sym i_is) ∙ end ∙ ap (λ b. b + v) p_is in
    ap (λ j. rank_key j 24 r) i_is ∙ own_key r v here ∙ ap (λ a. key_from a r.p v) (sym e_is) ∙ ap (λ b. key_from e b v) (sym p_is)

-- a gap that ends less than a step behind the period is the first one
pub kind_gap : (r : Parts) (e p n i v : ℕ) → IsRank r → e ≡ r.e → p ≡ r.p → n ≡ next_of r → n + e * i ≡ p + v → v < e → i ≡ first_gap r
kind_gap r e p n i v h e_is p_is n_is end low =
    let here : next_of r + r.e * i ≡ r.p + v = ap (λ m. m + r.e * i) (sym n_is) ∙ ap (λ a. n + a * i) (sym e_is) ∙ end ∙ ap (λ b. b + v) p_is in
    let less : next_of r < r.p = mod-lt (r.phase + r.e) (omega (arith, h.below)) in
    only_gap r.e (r.p - next_of r) i h.above (omega (arith, less)) (omega (arith, here, less)) (omega (arith, here, less, low, e_is))

-- the shorter gap is before
pub less_gap : (a b : Parts) (i j : ℕ) → IsRank a → IsRank b → i ≡ first_gap a → j ≡ first_gap b → i < j → slice_cmp symbol_cmp (substring a) (substring b) ≡ Greater
less_gap a b i j a_is b_is i_is j_is less =
    let shorter : first_gap a < first_gap b = omega (arith, i_is, j_is, less) in
    sym (gaps_tell_order a b a_is b_is (λ e. omega (arith, shorter, e))) ∙ number_greater (first_gap a) (first_gap b) shorter

-- of one gap the lesser key is before
pub less_key : (a b : Parts) (i j : ℕ) (k l : Key) → IsRank a → IsRank b → k ≡ rank_key i 24 a → l ≡ rank_key j 24 b → i ≡ j → k.number < l.number →
    slice_cmp symbol_cmp (substring a) (substring b) ≡ Greater
less_key a b i j k l a_is b_is k_is l_is same less =
    let m = ap (λ x. x.number) k_is in
    let n = ap (λ x. x.number) (l_is ∙ ap (λ x. rank_key x 24 b) (sym same)) in
    (rank_keys_tell i 24 a b a_is b_is).less (omega (arith, m, n, less))

-- and keys of whole strings tell that they are the same
pub same_key : (a b : Parts) (i j : ℕ) (k l : Key) → IsRank a → IsRank b → k ≡ rank_key i 24 a → l ≡ rank_key j 24 b → i ≡ j → k.number ≡ l.number → k.whole ≡ true → l.whole ≡ true →
    slice_cmp symbol_cmp (substring a) (substring b) ≡ Equal
same_key a b i j k l a_is b_is k_is l_is same number k_whole l_whole =
    let to = l_is ∙ ap (λ x. rank_key x 24 b) (sym same) in
    let m = ap (λ x. x.number) k_is in
    let n = ap (λ x. x.number) to in
    (rank_keys_tell i 24 a b a_is b_is).same (omega (arith, m, n, number)) (sym (ap (λ x. x.whole) k_is) ∙ k_whole) (sym (ap (λ x. x.whole) to) ∙ l_whole)

-- how many steps it takes is the first gap, which reaches the period
pub found_gap : (r : Parts) (e p n : ℕ) → IsRank r → e ≡ r.e → p ≡ r.p → n ≡ next_of r → ((p - n + e - 1) / e ≡ first_gap r) × (p ≤ n + e * ((p - n + e - 1) / e))
found_gap r e p n h e_is p_is n_is =
    let less : n < p = rw (n_is, p_is) (mod-lt (r.phase + r.e) (omega (arith, h.below))) in
    let some : 1 ≤ e = rw e_is h.above in
    let g = gap_is e (p - n) some (omega (arith, less)) in
    (rw (e_is, p_is, n_is) refl, omega (arith, g.reach, less))

-- a kind that is read is that of its first task's rank
pub kind_of_rank : (g : Ledger) (firsts : List ℕ) (kinds : List Kind) (k x : ℕ) (r : Parts) (kind : Kind) → AreRenewed g firsts kinds → k < length firsts → x ≡ slice_index_or firsts k 0 → r ≡ rank g x
    → kind ≡ slice_index_or kinds k kind → IsOf r kind.gap kind.key
kind_of_rank g firsts kinds k x r kind are less x_is r_is read =
    let P : Kind → Type 0 = λ d. IsOf (rank g (slice_index_or firsts k 0)) d.gap d.key in
    let Q : Parts → Type 0 = λ a. IsOf a kind.gap kind.key in
    subst Q (sym (r_is ∙ ap (rank g) x_is)) (subst P (sym read) (are.at k kind less))

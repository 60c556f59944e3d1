-- Two substrings, symbol by symbol.
use Rattle.std.proofs.Common.{◌≡◌, ◌≢◌, ℕ, suc, ◌<◌, ◌+◌, ◌-◌, ◌∙◌, List, [], refl, sym, subst, arith}
use Rattle.std.specs.declared.cmp.Ordering.TheVariants.{Less, Equal, Greater}
use Rattle.std.specs.declared.cmp.Ordering.{Ordering}
use Rattle.std.specs.Cmp.Lexicographic.{slice_cmp}
use Rattle.std.proofs.lemmas.Cmp.{tied_itself}
use Rattle.pfx_symbols.specs.RankLaws.{symbols_total}
use Rattle.pfx_symbols.specs.declared.kinds.Symbol.{Symbol}
use Rattle.pfx_symbols.specs.declared.kinds.Symbol.TheVariants.{Minus, Zero, Plus}
use Rattle.pfx_symbols.specs.Symbols.{symbol_at, symbol_cmp, symbols_from, then_unless_zero}

same_symbol : (s t : Symbol) (xs ys : List Symbol) → s ≡ t → s ≢ Zero → slice_cmp symbol_cmp (then_unless_zero s xs) (then_unless_zero t ys) ≡ slice_cmp symbol_cmp xs ys
same_symbol Minus t xs ys e ne = rw (← e) refl
same_symbol Zero t xs ys e ne = absurd (ne refl)
same_symbol Plus t xs ys e ne = rw (← e) refl

zero_symbol : (s t : Symbol) (xs ys : List Symbol) → s ≡ t → s ≡ Zero → slice_cmp symbol_cmp (then_unless_zero s xs) (then_unless_zero t ys) ≡ Equal
zero_symbol s t xs ys e z = rw (← e, z) refl

other_symbol : (s t : Symbol) (xs ys : List Symbol) → s ≢ t → slice_cmp symbol_cmp (then_unless_zero s xs) (then_unless_zero t ys) ≡ symbol_cmp s t
other_symbol Minus Minus xs ys ne = absurd (ne refl)
other_symbol Minus Zero xs ys ne = refl
other_symbol Minus Plus xs ys ne = refl
other_symbol Zero Minus xs ys ne = refl
other_symbol Zero Zero xs ys ne = absurd (ne refl)
other_symbol Zero Plus xs ys ne = refl
other_symbol Plus Minus xs ys ne = refl
other_symbol Plus Zero xs ys ne = refl
other_symbol Plus Plus xs ys ne = absurd (ne refl)

same_from_order : (s t : Symbol) → symbol_cmp s t ≡ Equal → s ≡ t
same_from_order Minus Minus e = refl
same_from_order Minus Zero e = cc
same_from_order Minus Plus e = cc
same_from_order Zero Minus e = cc
same_from_order Zero Zero e = refl
same_from_order Zero Plus e = cc
same_from_order Plus Minus e = cc
same_from_order Plus Zero e = cc
same_from_order Plus Plus e = refl

other_from_order : (s t : Symbol) (o : Ordering) → o ≡ symbol_cmp s t → o ≢ Equal → s ≢ t
other_from_order s t o is ne same = ne (is ∙ rw same (tied_itself symbols_total t))

one_longer : (s : Symbol) (xs : List Symbol) → slice_cmp symbol_cmp (then_unless_zero s xs) [] ≡ Greater
one_longer Minus xs = refl
one_longer Zero xs = refl
one_longer Plus xs = refl

one_shorter : (s : Symbol) (xs : List Symbol) → slice_cmp symbol_cmp [] (then_unless_zero s xs) ≡ Less
one_shorter Minus xs = refl
one_shorter Zero xs = refl
one_shorter Plus xs = refl

-- m symbols of the one and n of the other, from slot t on
module _ (e p f q : ℕ) where
  abbrev pub Ordered : ℕ → ℕ → ℕ → Ordering → Type 0
  Ordered m n t o = slice_cmp symbol_cmp (symbols_from m e p t) (symbols_from n f q t) ≡ o

  ordered_more : (m n t : ℕ) (o : Ordering) → 0 < m → 0 < n → Ordered (suc (m - 1)) (suc (n - 1)) t o → Ordered m n t o
  ordered_more m n t o x y h =
      let ms : suc (m - 1) ≡ m = omega arith in
      let ns : suc (n - 1) ≡ n = omega arith in
      subst (λ k. Ordered k n t o) ms (subst (λ k. Ordered (suc (m - 1)) k t o) ns h)

  pub go_on : (m n t : ℕ) → 0 < m → 0 < n → symbol_cmp (symbol_at e p t) (symbol_at f q t) ≡ Equal → symbol_at e p t ≢ Zero
      → Ordered m n t (slice_cmp symbol_cmp (symbols_from (m - 1) e p (t + 1)) (symbols_from (n - 1) f q (t + 1)))
  go_on m n t x y same ne = ordered_more m n t _ x y (same_symbol _ _ _ _ (same_from_order _ _ same) ne)

  pub ends : (m n t : ℕ) → 0 < m → 0 < n → symbol_cmp (symbol_at e p t) (symbol_at f q t) ≡ Equal → symbol_at e p t ≡ Zero → Ordered m n t Equal
  ends m n t x y same z = ordered_more m n t Equal x y (zero_symbol _ _ (symbols_from (m - 1) e p (t + 1)) (symbols_from (n - 1) f q (t + 1)) (same_from_order _ _ same) z)

  pub differs : (m n t : ℕ) (o : Ordering) → 0 < m → 0 < n → o ≡ symbol_cmp (symbol_at e p t) (symbol_at f q t) → o ≢ Equal → Ordered m n t o
  differs m n t o x y is ne = ordered_more m n t o x y (other_symbol _ _ (symbols_from (m - 1) e p (t + 1)) (symbols_from (n - 1) f q (t + 1)) (other_from_order _ _ o is ne) ∙ sym is)

  -- if the one has no symbol left, or the other
  pub left_over : (m n t : ℕ) → m ≡ 0 → 0 < n → Ordered m n t Less
  left_over m n t z more =
      let ns : suc (n - 1) ≡ n = omega arith in
      subst (λ i. Ordered i n t Less) (sym z) (subst (λ i. Ordered 0 i t Less) ns (one_shorter (symbol_at f q t) (symbols_from (n - 1) f q (t + 1))))

  pub right_over : (m n t : ℕ) → n ≡ 0 → 0 < m → Ordered m n t Greater
  right_over m n t z more =
      let ms : suc (m - 1) ≡ m = omega arith in
      subst (λ i. Ordered m i t Greater) (sym z) (subst (λ i. Ordered i 0 t Greater) ms (one_longer (symbol_at e p t) (symbols_from (m - 1) e p (t + 1))))

  pub both_over : (m n t : ℕ) → m ≡ 0 → n ≡ 0 → Ordered m n t Equal
  both_over m n t x y = subst (λ i. Ordered i n t Equal) (sym x) (subst (λ i. Ordered 0 i t Equal) (sym y) refl)

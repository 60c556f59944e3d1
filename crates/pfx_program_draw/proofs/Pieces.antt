-- Pieces one after the other, and greatest numbers.
use Rattle.std.proofs.Common.{◌≡◌, ℕ, ◌+◌, List, [], ◌++◌, refl, sym, ap, ◌∙◌, add-one, append_assoc, append-nil}
use Rattle.std.specs.Prelude.{max, Bool}
use Rattle.pfx_weights.specs.Rows.{count, one}
use Rattle.pfx_program_draw.specs.Each.{each, most}

pub each_none : (piece : ℕ → List ℕ) → each piece 0 ≡ []
unfolding each
each_none piece = refl

pub each_one : (piece : ℕ → List ℕ) (i : ℕ) → each piece (i + 1) ≡ each piece i ++ piece i
unfolding each
each_one piece i = rw add-one refl

pub each_more : (piece : ℕ → List ℕ) (i : ℕ) (old now new : List ℕ) → now ≡ old ++ each piece i → new ≡ now ++ piece i → new ≡ old ++ each piece (i + 1)
each_more piece i old now new h is = is ∙ ap (λ (t : List ℕ). t ++ piece i) h ∙ append_assoc old (each piece i) (piece i) ∙ ap (λ (t : List ℕ). old ++ t) (sym (each_one piece i))

pub each_begins : (piece : ℕ → List ℕ) (old : List ℕ) → old ≡ old ++ each piece 0
each_begins piece old = sym (append-nil old) ∙ ap (λ (t : List ℕ). old ++ t) (sym (each_none piece))

pub most_none : (of : ℕ → ℕ) → most of 0 ≡ 0
unfolding most
most_none of = refl

pub most_more : (of : ℕ → ℕ) (i : ℕ) → most of (i + 1) ≡ max (most of i) (of i)
unfolding most
most_more of i = rw add-one refl

pub no_count : (s : ℕ → Bool) → count 0 s ≡ 0
no_count s = refl

pub count_more : (s : ℕ → Bool) (i : ℕ) → count (i + 1) s ≡ count i s + one (s i)
count_more s i = rw add-one refl

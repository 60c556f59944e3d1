-- What is whole of bytes that are looked at one after the other.
use Rattle.std.proofs.Common.{◌≡◌, ◌+◌, ◌<◌, ◌≤◌, ◌++◌, ℕ, zero, suc, List, [], ◌∷◌, length, take, drop, get_or, true, false, refl, sym, ap, ◌∙◌, inl, inr, arith}
use Rattle.std.proofs.lemmas.Bool.{cases_Bool}
use Rattle.std.specs.Prelude.{slice_set, Option, Some, None, option_map}
use Rattle.std.specs.Io.KnownBytes.{Consumes, IsAtEnd}
use Rattle.std.proofs.lemmas.List.{take_more_set, take_all, take-take, length-take-le, append-nil}
use Rattle.std.specs.Prelude.{nat_lt}
use Rattle.std.proofs.lemmas.Bool.Decides.{nat_tests}
use Rattle.std.specs.List.{fold}
use Rattle.pfx_program_script.specs.Whole.{is_over, after, whole, behind}
use Rattle.pfx_program_script.specs.declared.whole.Mode.{Mode}
use Rattle.pfx_program_script.specs.declared.whole.Mode.TheVariants as mode
use Rattle.pfx_program_script.specs.declared.whole.Spot.{Spot}

over-mode : (m : Mode) → is_over m ≡ true → m ≡ mode.Over
over-mode mode.Over e = refl
over-mode mode.Begin e = absurd (cc e)
over-mode mode.Mark e = absurd (cc e)
over-mode mode.MarkEnd e = absurd (cc e)
over-mode mode.Start e = absurd (cc e)
over-mode mode.Field e = absurd (cc e)
over-mode mode.Plain e = absurd (cc e)
over-mode mode.Quoted e = absurd (cc e)
over-mode mode.Closing e = absurd (cc e)

-- behind what isn't whole there is nothing
pub whole-over : (s : Spot) (xs : List ℕ) → is_over s.mode ≡ true → whole s xs ≡ []
unfolding whole
whole-over s [] e = rw (over-mode s.mode e) refl
whole-over s (x ∷ xs) e = rw e refl

after-over : (s : Spot) (x : ℕ) → is_over s.mode ≡ true → is_over (after s x).mode ≡ true
unfolding after
after-over s x e = rw (over-mode s.mode e) refl

fold-over : (s : Spot) (xs : List ℕ) → is_over s.mode ≡ true → is_over (fold after s xs).mode ≡ true
fold-over s [] e = e
fold-over s (x ∷ xs) e = fold-over (after s x) xs (after-over s x e)

starts : (s : Spot) (xs : List ℕ) → is_over (fold after s xs).mode ≡ false → is_over s.mode ≡ false
starts s xs e =
    elim (cases_Bool (is_over s.mode)) [
      | inl over ↦ let no : true ≡ false = sym (fold-over s xs over) ∙ e in absurd (cc)
      | inr on ↦ on
    ]

-- what is whole of bytes none of which is over
pub whole-passed : (s : Spot) (xs rest : List ℕ) → is_over (fold after s xs).mode ≡ false → whole s (xs ++ rest) ≡ xs ++ whole (fold after s xs) rest
unfolding whole
whole-passed s [] rest e = refl
whole-passed s (x ∷ xs) rest e =
    let here : is_over s.mode ≡ false = starts s (x ∷ xs) e in
    let next : is_over (after s x).mode ≡ false = starts (after s x) xs e in
    rw (here, next) (ap (λ ys. x ∷ ys) (whole-passed (after s x) xs rest e))

-- and of a byte that isn't
pub whole-stops : (s : Spot) (xs rest : List ℕ) (x : ℕ) → is_over (fold after s xs).mode ≡ false → is_over (after (fold after s xs) x).mode ≡ true
    → whole s (xs ++ x ∷ rest) ≡ xs ++ 255 ∷ []
unfolding whole
whole-stops s xs rest x on over = whole-passed s xs (x ∷ rest) on ∙ ap (λ ys. xs ++ ys) (rw (on, over) refl)

-- a byte put in front
pub put-first : (xs : List ℕ) → 0 < length xs → take 1 (slice_set xs 0 255) ≡ 255 ∷ []
put-first [] h = absurd (omega arith)
put-first (x ∷ xs) h = refl

-- bytes that were taken of those that are known
pub consumed : (s s2 : Spot) (old new : Option (List ℕ)) (got given : List ℕ) → Consumes old new got → ((rest : List ℕ) → whole s (got ++ rest) ≡ given ++ whole s2 rest)
    → Consumes (option_map (whole s) old) (option_map (whole s2) new) given
consumed s s2 None new got given e f = tt
consumed s s2 (Some xs) None got given e f = absurd e
consumed s s2 (Some xs) (Some ys) got given e f = rw e (f ys)

-- bytes up to a place, and those from there on
split : (xs rest : List ℕ) (i : ℕ) → i < length xs → xs ++ rest ≡ take i xs ++ get_or xs i 0 ∷ (drop (suc i) xs ++ rest)
split [] rest i h = absurd (omega arith)
split (x ∷ xs) rest zero h = refl
split (x ∷ xs) rest (suc i) h = ap (λ ys. x ∷ ys) (split xs rest i (omega arith))

-- a look at bytes that stops within them
pub stops_at : (s now : Spot) (xs rest : List ℕ) (i : ℕ) → i < length xs → is_over (fold after s (take i xs)).mode ≡ false
    → is_over (after (fold after s (take i xs)) (get_or xs i 0)).mode ≡ true → whole s (xs ++ rest) ≡ take i xs ++ behind (nat_lt i (length xs)) now rest
stops_at s now xs rest i h on over =
    let within : nat_lt i (length xs) ≡ true = grind (arith, nat_tests) in
    ap (whole s) (split xs rest i h) ∙ whole-stops s (take i xs) (drop (suc i) xs ++ rest) (get_or xs i 0) on over ∙ rw within refl

-- and one that doesn't
pub goes_on : (s now : Spot) (xs rest : List ℕ) (i : ℕ) → length xs ≤ i → now ≡ fold after s (take i xs) → is_over now.mode ≡ false
    → whole s (xs ++ rest) ≡ take (length xs) xs ++ behind (nat_lt (length xs) (length xs)) now rest
goes_on s now xs rest i h is on =
    let all : take i xs ≡ xs = take_all i xs h in
    let same : now ≡ fold after s xs = is ∙ ap (fold after s) all in
    let none : nat_lt (length xs) (length xs) ≡ false = grind (arith, nat_tests) in
    whole-passed s xs rest (ap (λ (z : Spot). is_over z.mode) (sym same) ∙ on) ∙ rw (none, take_all (length xs) xs (omega arith), same) refl

-- what was kept of the bytes that were read, and the byte behind it
pub put_over : (s now : Spot) (bytes rest : List ℕ) (count kept : ℕ) → count ≤ length bytes → kept < count → is_over now.mode ≡ true
    → whole s (take count bytes ++ rest) ≡ take kept (take count bytes) ++ behind (nat_lt kept (length (take count bytes))) now rest
    → whole s (take count bytes ++ rest) ≡ take (kept + 1) (slice_set bytes kept 255) ++ whole now rest
put_over s now bytes rest count kept h less over e =
    let long : length (take count bytes) ≡ count = length-take-le count bytes h in
    let within : nat_lt kept (length (take count bytes)) ≡ true = rw long (grind (arith, nat_tests)) in
    let front : take kept (take count bytes) ≡ take kept bytes = take-take kept count bytes (omega arith) in
    e ∙ rw (within, front, whole-over now rest over, take_more_set bytes kept 255 (omega arith)) (sym (append-nil (take kept bytes ++ 255 ∷ [])))

-- nothing is taken of them
pub takes_none_of : (o : Option (List ℕ)) → Consumes o o []
takes_none_of None = tt
takes_none_of (Some xs) = refl

-- where what isn't whole was passed, nothing is left
pub at_end : (s : Spot) (o : Option (List ℕ)) → is_over s.mode ≡ true → IsAtEnd (option_map (whole s) o)
at_end s None e = tt
at_end s (Some xs) e = whole-over s xs e

-- Where the bytes of short lines whose quotes close lead.
use Rattle.std.proofs.Common.{◌≡◌, ◌⊎◌, ◌+◌, ◌<◌, ◌≤◌, ◌++◌, ℕ, List, [], ◌∷◌, length, Bool, true, false, refl, sym, ap, subst, ◌∙◌, inl, inr, arith}
use Rattle.std.specs.Prelude.{◌==◌, ◌||◌, nat_lt, if◌then◌else◌}
use Rattle.std.specs.List.{fold}
use Rattle.std.proofs.lemmas.Bool.{cases_Bool}
use Rattle.std.proofs.lemmas.Bool.Decides.{nat_tests}
use Rattle.std.proofs.lemmas.List.{append-nil}
use Rattle.pfx_program_script.specs.Quoting.{Field, plain, quoted, doubled, field_text, is_end, HasNoEnd, IsField, AreFields, further_text, record_text, IsShort, AreShort, line_end, script_text, IsUnmarked, mark}
use Rattle.pfx_program_script.specs.Whole.{is_over, is_quoted, in_field, at_field, after, whole, whole_of, spot_with}
use Rattle.pfx_program_script.specs.declared.whole.Mode.{Mode}
use Rattle.pfx_program_script.specs.declared.whole.Mode.TheVariants as mode
use Rattle.pfx_program_script.specs.declared.whole.Spot.{Spot}
use Rattle.pfx_program_script.proofs.Passing.{whole-passed}

abbrev at : Mode → ℕ → Spot
at m n = record { mode = m; len = n }

-- at a record's front, or at another field's, n bytes behind the record's front
abbrev Front : Spot → ℕ → Type 0
Front s n = ((s ≡ at mode.Start 0) × (n ≡ 0)) ⊎ (s ≡ at mode.Field n)

-- behind a field, or at a front
abbrev Behind : Spot → ℕ → Type 0
Behind s n = Front s n ⊎ ((s ≡ at mode.Plain n) ⊎ (s ≡ at mode.Closing n))

fold_both : (s : Spot) (xs ys : List ℕ) → fold after s (xs ++ ys) ≡ fold after (fold after s xs) ys
fold_both s [] ys = refl
fold_both s (x ∷ xs) ys = fold_both (after s x) xs ys

fits : (n : ℕ) → n < 1048576 → nat_lt n 1048576 ≡ true
fits n h = grind (arith, nat_tests)

-- a byte that is no end, which has three tests
no_comma : (x : ℕ) → is_end x ≡ false → (x == 44) ≡ false
no_comma x e =
    elim (cases_Bool (x == 44)) [
      | inl is ↦ let never : true ≡ false = rw is at e in absurd (cc)
      | inr is ↦ is
    ]

no_line : (x : ℕ) → is_end x ≡ false → ((x == 10) || (x == 13)) ≡ false
no_line x e = rw (no_comma x e) at e

in_plain : (x : ℕ) → is_end x ≡ false → in_field x ≡ mode.Plain
in_plain x e = rw (no_comma x e, no_line x e) refl

plain_step : (n x : ℕ) → is_end x ≡ false → n < 1048576 → after (at mode.Plain n) x ≡ at mode.Plain (n + 1)
unfolding after
plain_step n x e h = rw (in_plain x e, fits n h) refl

front_step : (s : Spot) (n x : ℕ) → Front s n → (x == 34) ≡ false → is_end x ≡ false → n < 1048576 → after s x ≡ at mode.Plain (n + 1)
unfolding after
front_step s n x (inl (is, none)) q e h = rw (is, none, q, in_plain x e) refl
front_step s n x (inr is) q e h = rw (is, q, in_plain x e, fits n h) refl

front_quote : (s : Spot) (n : ℕ) → Front s n → n < 1048576 → after s 34 ≡ at mode.Quoted (n + 1)
unfolding after
front_quote s n (inl (is, none)) h = rw (is, none) refl
front_quote s n (inr is) h = rw (is, fits n h) refl

quoted_step : (n x : ℕ) → (x == 34) ≡ false → n < 1048576 → after (at mode.Quoted n) x ≡ at mode.Quoted (n + 1)
unfolding after
quoted_step n x q h = rw (q, fits n h) refl

quoted_quote : (n : ℕ) → n < 1048576 → after (at mode.Quoted n) 34 ≡ at mode.Closing (n + 1)
unfolding after
quoted_quote n h = rw (fits n h) refl

closing_quote : (n : ℕ) → n < 1048576 → after (at mode.Closing n) 34 ≡ at mode.Quoted (n + 1)
unfolding after
closing_quote n h = rw (fits n h) refl

-- bytes of a plain field go on
plain_fold : (n : ℕ) (xs : List ℕ) → HasNoEnd xs → n + length xs ≤ 1048576 → fold after (at mode.Plain n) xs ≡ at mode.Plain (n + length xs)
plain_fold n [] e h = ap (at mode.Plain) (omega arith)
plain_fold n (x ∷ xs) e h =
    ap (λ (s : Spot). fold after s xs) (plain_step n x e.0 (omega arith)) ∙ plain_fold (n + 1) xs e.1 (omega arith) ∙ ap (at mode.Plain) (omega arith)

-- and those between quotes
quoted_more : (n x : ℕ) (xs : List ℕ) (is : Bool) → ((m : ℕ) → m + length (doubled xs) ≤ 1048576 → fold after (at mode.Quoted m) (doubled xs) ≡ at mode.Quoted (m + length (doubled xs)))
    → (x == 34) ≡ is → n + length (if is then 34 ∷ 34 ∷ doubled xs else x ∷ doubled xs) ≤ 1048576
    → fold after (at mode.Quoted n) (if is then 34 ∷ 34 ∷ doubled xs else x ∷ doubled xs) ≡ at mode.Quoted (n + length (if is then 34 ∷ 34 ∷ doubled xs else x ∷ doubled xs))
quoted_more n x xs true rest e h =
    ap (λ (s : Spot). fold after (after s 34) (doubled xs)) (quoted_quote n (omega arith))
    ∙ ap (λ (s : Spot). fold after s (doubled xs)) (closing_quote (n + 1) (omega arith))
    ∙ rest (n + 1 + 1) (omega arith) ∙ ap (at mode.Quoted) (omega arith)
quoted_more n x xs false rest e h =
    ap (λ (s : Spot). fold after s (doubled xs)) (quoted_step n x e (omega arith)) ∙ rest (n + 1) (omega arith) ∙ ap (at mode.Quoted) (omega arith)

quoted_fold : (n : ℕ) (xs : List ℕ) → n + length (doubled xs) ≤ 1048576 → fold after (at mode.Quoted n) (doubled xs) ≡ at mode.Quoted (n + length (doubled xs))
quoted_fold n [] h = ap (at mode.Quoted) (omega arith)
quoted_fold n (x ∷ xs) h = quoted_more n x xs (x == 34) (λ m fit. quoted_fold m xs fit) refl h

length_both : (xs ys : List ℕ) → length (xs ++ ys) ≡ length xs + length ys
length_both [] ys = omega arith
length_both (x ∷ xs) ys = let rest : length (xs ++ ys) ≡ length xs + length ys = length_both xs ys in omega (arith, rest)

-- a field
field_fold : (s : Spot) (n : ℕ) (f : Field) → Front s n → IsField f → n + length (field_text f) ≤ 1048576 → Behind (fold after s (field_text f)) (n + length (field_text f))
field_fold s n (plain []) front e h = subst (Behind s) (omega arith) (inl front)
field_fold s n (plain (x ∷ xs)) front e h =
    inr (inl (ap (λ (t : Spot). fold after t xs) (front_step s n x front e.0 e.1.0 (omega arith)) ∙ plain_fold (n + 1) xs e.1.1 (omega arith) ∙ ap (at mode.Plain) (omega arith)))
field_fold s n (quoted t) front e h =
    let long : length (doubled t ++ 34 ∷ []) ≡ length (doubled t) + 1 = length_both (doubled t) (34 ∷ []) in
    inr (inr (
    ap (λ (q : Spot). fold after q (doubled t ++ 34 ∷ [])) (front_quote s n front (omega arith)) ∙ fold_both (at mode.Quoted (n + 1)) (doubled t) (34 ∷ [])
    ∙ ap (λ (q : Spot). after q 34) (quoted_fold (n + 1) t (omega (arith, long))) ∙ quoted_quote (n + 1 + length (doubled t)) (omega (arith, long))
    ∙ ap (at mode.Closing) (omega (arith, long))
    ))

behind_comma : (s : Spot) (n : ℕ) → Behind s n → n < 1048576 → after s 44 ≡ at mode.Field (n + 1)
unfolding after
behind_comma s n (inl (inl (is, none))) h = rw (is, none) refl
behind_comma s n (inl (inr is)) h = rw (is, fits n h) refl
behind_comma s n (inr (inl is)) h = rw (is, fits n h) refl
behind_comma s n (inr (inr is)) h = rw (is, fits n h) refl

behind_line : (s : Spot) (n : ℕ) → Behind s n → after s 10 ≡ at mode.Start 0
unfolding after
behind_line s n (inl (inl (is, none))) = rw is refl
behind_line s n (inl (inr is)) = rw is refl
behind_line s n (inr (inl is)) = rw is refl
behind_line s n (inr (inr is)) = rw is refl

behind_return : (s : Spot) (n : ℕ) → Behind s n → after s 13 ≡ at mode.Start 0
unfolding after
behind_return s n (inl (inl (is, none))) = rw is refl
behind_return s n (inl (inr is)) = rw is refl
behind_return s n (inr (inl is)) = rw is refl
behind_return s n (inr (inr is)) = rw is refl

-- further fields
further_fold : (s : Spot) (n : ℕ) (fs : List Field) → Behind s n → AreFields fs → n + length (further_text fs) ≤ 1048576
    → Behind (fold after s (further_text fs)) (n + length (further_text fs))
further_fold s n [] b a h = subst (Behind s) (omega arith) b
further_fold s n (f ∷ fs) b a h =
    let text = field_text f in
    let rest = further_text fs in
    let long : length (text ++ rest) ≡ length text + length rest = length_both text rest in
    let one : Behind (fold after (after s 44) text) (n + 1 + length text) = field_fold (after s 44) (n + 1) f (inr (behind_comma s n b (omega arith))) a.0 (omega (arith, long)) in
    let all : Behind (fold after (fold after (after s 44) text) rest) (n + 1 + length text + length rest) = further_fold (fold after (after s 44) text) (n + 1 + length text) fs one a.1 (omega (arith, long)) in
    subst (λ (q : Spot). Behind q (n + length (44 ∷ (text ++ rest)))) (sym (fold_both (after s 44) text rest))
    (subst (Behind (fold after (fold after (after s 44) text) rest)) (omega (arith, long)) all)

-- a record
record_fold : (r : List Field) → IsShort r → Behind (fold after (at mode.Start 0) (record_text r)) (length (record_text r))
record_fold [] a = inl (inl (refl, refl))
record_fold (f ∷ fs) (a, h) =
    let start = at mode.Start 0 in
    let text = field_text f in
    let rest = further_text fs in
    let long : length (text ++ rest) ≡ length text + length rest = length_both text rest in
    let one : Behind (fold after start text) (0 + length text) = field_fold start 0 f (inl (refl, refl)) a.0 (omega (arith, long)) in
    let all : Behind (fold after (fold after start text) rest) (0 + length text + length rest) = further_fold (fold after start text) (0 + length text) fs one a.1 (omega (arith, long)) in
    subst (λ (q : Spot). Behind q (length (text ++ rest))) (sym (fold_both start text rest)) (subst (Behind (fold after (fold after start text) rest)) (omega (arith, long)) all)

end_fold : (s : Spot) (n : ℕ) (cr : Bool) → Behind s n → fold after s (line_end cr) ≡ at mode.Start 0
unfolding after
end_fold s n true b = ap (λ (q : Spot). after q 10) (behind_return s n b)
end_fold s n false b = behind_line s n b

-- lines
script_fold : (cr : Bool) (rs : List (List Field)) (last : List Field) → AreShort rs → IsShort last
    → Behind (fold after (at mode.Start 0) (script_text cr rs last)) (length (record_text last))
script_fold cr [] last a l = record_fold last l
script_fold cr (r ∷ rs) last a l =
    let start = at mode.Start 0 in
    let rest = script_text cr rs last in
    let led : fold after start (record_text r ++ (line_end cr ++ rest)) ≡ fold after start rest =
    fold_both start (record_text r) (line_end cr ++ rest) ∙ fold_both (fold after start (record_text r)) (line_end cr) rest
    ∙ ap (λ (q : Spot). fold after q rest) (end_fold (fold after start (record_text r)) (length (record_text r)) cr (record_fold r a.0)) in
    subst (λ (q : Spot). Behind q (length (record_text last))) (sym led) (script_fold cr rs last a.1 l)

-- ---- what is whole of them

well : (s : Spot) (n : ℕ) → Behind s n → is_over s.mode ≡ false
well s n (inl (inl (is, none))) = rw is refl
well s n (inl (inr is)) = rw is refl
well s n (inr (inl is)) = rw is refl
well s n (inr (inr is)) = rw is refl

ends : (s : Spot) (n : ℕ) → Behind s n → whole s [] ≡ []
unfolding whole
ends s n (inl (inl (is, none))) = rw is refl
ends s n (inl (inr is)) = rw is refl
ends s n (inr (inl is)) = rw is refl
ends s n (inr (inr is)) = rw is refl

whole_start : (xs : List ℕ) (n : ℕ) → Behind (fold after (at mode.Start 0) xs) n → whole (at mode.Start 0) xs ≡ xs
whole_start xs n b =
    let start = at mode.Start 0 in
    ap (whole start) (sym (append-nil xs)) ∙ whole-passed start xs [] (well (fold after start xs) n b) ∙ ap (λ ys. xs ++ ys) (ends (fold after start xs) n b) ∙ append-nil xs

whole_begin : (xs : List ℕ) → IsUnmarked xs → whole (at mode.Begin 0) xs ≡ whole (at mode.Start 0) xs
unfolding whole after
whole_begin [] e = refl
whole_begin (x ∷ xs) e = rw e refl

pub unmarked_whole : (cr : Bool) (rs : List (List Field)) (last : List Field) → AreShort rs → IsShort last → IsUnmarked (script_text cr rs last)
    → whole_of (script_text cr rs last) ≡ script_text cr rs last
unmarked_whole cr rs last a l e = whole_begin (script_text cr rs last) e ∙ whole_start (script_text cr rs last) (length (record_text last)) (script_fold cr rs last a l)

begun : (xs : List ℕ) → whole_of (239 ∷ 187 ∷ 191 ∷ xs) ≡ 239 ∷ 187 ∷ 191 ∷ whole (at mode.Start 0) xs
unfolding whole after
begun xs = refl

pub marked_whole : (cr : Bool) (rs : List (List Field)) (last : List Field) → AreShort rs → IsShort last
    → whole_of (mark ++ script_text cr rs last) ≡ mark ++ script_text cr rs last
marked_whole cr rs last a l = begun (script_text cr rs last) ∙ ap (λ ys. 239 ∷ 187 ∷ 191 ∷ ys) (whole_start (script_text cr rs last) (length (record_text last)) (script_fold cr rs last a l))

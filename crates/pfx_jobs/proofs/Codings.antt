-- A coding's kind keeps the laws.
use Rattle.std.specs.Prelude.{◌≡◌, ℕ, ◌+◌, ◌<◌, Bool, true, false, List, Some, IsTrue, refl}
use Rattle.std.specs.Str.{bytes_eq}
use Rattle.std.proofs.Common.{sym, ◌∙◌, ap, subst}
use Rattle.std.proofs.lemmas.Slice.Eq.{bytes_eq-Decides}
use Rattle.pfx_jobs.specs.Kind.{Laws}
use Rattle.pfx_jobs.specs.Coding.{Coding, CodingLaws, checked, decoded_by, kind_by}

pub bytes_eq-true : (xs ys : List ℕ) → bytes_eq xs ys ≡ true → xs ≡ ys
bytes_eq-true xs ys e = (bytes_eq-Decides xs ys).0 e

pub bytes_eq-same : (xs ys : List ℕ) → xs ≡ ys → bytes_eq xs ys ≡ true
bytes_eq-same xs ys e = (bytes_eq-Decides xs ys).1 e

-- the numbers of a state give that state again
checked-state : {F J : Type 0} (C : Coding F J) (L : CodingLaws C) (s : J) (f : F) (fit : Bool) (fits : C.fits f ≡ fit) (same : Bool) → f ≡ C.fields s → same ≡ true → checked C f fit fits same ≡ Some s
checked-state {F} {J} C L s f true fits true e h =
    let at_fields : (g : F) → g ≡ C.fields s → (k : IsTrue (C.fits g)) → C.made g k ≡ s = λ g d.
    subst (λ (x : F). (k : IsTrue (C.fits x)) → C.made x k ≡ s) (sym d) (λ k. L.made_again s k) in
    ap Some (at_fields f e fits)
checked-state C L s f true fits false e h = absurd cc
checked-state C L s f false fits same e h = absurd (let g : false ≡ true = sym fits ∙ (ap C.fits e ∙ L.fields_fit s) in cc)

-- a state that is given has the numbers that it was given for
checked-only : {F J : Type 0} (C : Coding F J) (L : CodingLaws C) (bytes : List ℕ) (s : J) (f : F) (fit : Bool) (fits : C.fits f ≡ fit) (same : Bool) → same ≡ bytes_eq bytes (C.spelled f) → checked C f fit fits same ≡ Some s → C.spelled (C.fields s) ≡ bytes
checked-only C L bytes s f true fits true e h =
    let is : C.made f fits ≡ s = cc in
    let numbers : C.fields s ≡ f = ap C.fields (sym is) ∙ L.made_of f fits in
    ap C.spelled numbers ∙ sym (bytes_eq-true bytes (C.spelled f) (sym e))
checked-only C L bytes s f true fits false e h = absurd cc
checked-only C L bytes s f false fits same e h = absurd cc

pub round_trip_by : {F J : Type 0} (C : Coding F J) → CodingLaws C → (s : J) → decoded_by C (C.spelled (C.fields s)) ≡ Some s
round_trip_by C L s =
    let bytes = C.spelled (C.fields s) in
    checked-state C L s (C.found bytes) (C.fits (C.found bytes)) refl (bytes_eq bytes (C.spelled (C.found bytes))) (L.found_again s) (bytes_eq-same _ _ (ap C.spelled (sym (L.found_again s))))

pub only_encodings_by : {F J : Type 0} (C : Coding F J) → CodingLaws C → (bytes : List ℕ) (s : J) → decoded_by C bytes ≡ Some s → C.spelled (C.fields s) ≡ bytes
only_encodings_by C L bytes s h = checked-only C L bytes s (C.found bytes) (C.fits (C.found bytes)) refl _ refl h

-- a kind by a coding keeps the laws if its step counts down
pub laws_by : {F J : Type 0} (C : Coding F J) (L : CodingLaws C) (left : J → ℕ) (stepped : J → J) → ((s : J) → 0 < left s → left (stepped s) + 1 ≡ left s) → Laws (kind_by C left stepped)
laws_by C L left stepped counts = record {
  counts_down = counts;
  long = L.long;
  round_trip = round_trip_by C L;
  only_encodings = only_encodings_by C L;
}

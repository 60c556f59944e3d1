-- What follows from the laws of a kind.
use Rattle.std.specs.Prelude.{◌≡◌, ℕ, ◌+◌, ◌≤◌, List, Option, Some, None, refl}
use Rattle.std.proofs.Common.{sym, ◌∙◌, ap, arith, zero, suc}
use Rattle.pfx_jobs.specs.Kind.{Kind, Laws}
use Rattle.pfx_jobs.specs.Steps.{times}

-- bytes that some state is written as are read as it
pub decoded-spelling : {J : Type 0} (K : Kind J) → Laws K → (s : J) (bytes : List ℕ) → K.spelling s ≡ bytes → K.decoded bytes ≡ Some s
decoded-spelling K L s bytes e = ap K.decoded (sym e) ∙ L.round_trip s

-- bytes that no state is written as are not read
pub decoded-none : {J : Type 0} (K : Kind J) → Laws K → (bytes : List ℕ) → ((s : J) → K.spelling s ≡ bytes → ⊥) → K.decoded bytes ≡ None
decoded-none {J} K L bytes none =
    let at : (r : Option J) → K.decoded bytes ≡ r → r ≡ None = λ r.
    elim r as (λ (r : Option J). K.decoded bytes ≡ r → r ≡ None) [ Some s ↦ (λ h. absurd (none s (L.only_encodings bytes s h))) | None ↦ (λ h. refl) ] in
    at (K.decoded bytes) refl

-- states with one encoding are one
pub spelling-only : {J : Type 0} (K : Kind J) → Laws K → (s t : J) → K.spelling s ≡ K.spelling t → s ≡ t
spelling-only K L s t e =
    let both : Some s ≡ Some t = sym (L.round_trip s) ∙ (ap K.decoded e ∙ L.round_trip t) in
    cc

-- n steps lower the steps left by n
pub left-times : {J : Type 0} (K : Kind J) → Laws K → (s : J) (n : ℕ) → n ≤ K.left s → K.left (times n K.stepped s) + n ≡ K.left s
left-times K L s zero h = omega arith
left-times K L s (suc n) h =
    let before = left-times K L s n (omega arith) in
    omega (arith, L.counts_down (times n K.stepped s) (omega arith))

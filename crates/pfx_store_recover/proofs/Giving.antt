-- How an answer within a call becomes the call's.
use Rattle.std.proofs.Common.{◌≡◌, refl, sym, ap, subst, Result, Ok, Err}
use Rattle.std.specs.Prelude.{IsErrAnd}
use Rattle.pfx_store_image.specs.Recovery.{on_ok}
use Rattle.pfx_store_image.specs.Refusals as means
use Rattle.pfx_store_recover.specs.Answers.{Gives, refusal_of}
use Rattle.pfx_store_recover.specs.declared.faults.Refusal.{Refusal}
use Rattle.pfx_store_recover.specs.declared.faults.OpenFault.{OpenFault}
use Rattle.pfx_store_recover.specs.declared.faults.OpenFault.TheVariants as fault

-- a refusal within
pub gives_refused : {T A : Type 0} (P : T → Result A means.Refusal → Type 0) (read : Result A means.Refusal) (e : Refusal) (result : Result T OpenFault) → read ≡ Err (refusal_of e) → IsErrAnd result (λ x. x ≡ fault.Refused e) → Gives P read result
gives_refused P read e (Ok t) is same = absurd same
gives_refused {T = T} P read e (Err x) is same = subst (λ y. Gives {T = T} P read (Err y)) (sym same) is

gives_err : {T U A B : Type 0} (P : T → Result A means.Refusal → Type 0) (Q : U → Result B means.Refusal → Type 0) (r : Result A means.Refusal) (f : A → Result B means.Refusal) (e : OpenFault) → Gives P r (Err e) → Gives Q (on_ok r f) (Err e)
gives_err P Q r f (fault.Refused e) is = ap (λ y. on_ok y f) is
gives_err P Q r f fault.Device is = tt
gives_err P Q r f fault.NoMemory is = tt

-- a fault of a call within, which is the first stage
pub gives_handed : {T U A B : Type 0} (P : T → Result A means.Refusal → Type 0) (Q : U → Result B means.Refusal → Type 0) (r there : Result A means.Refusal) (f : A → Result B means.Refusal) (whole : Result B means.Refusal) (e : OpenFault) (result : Result U OpenFault)
    → whole ≡ on_ok r f → r ≡ there → Gives P there (Err e) → IsErrAnd result (λ x. x ≡ e) → Gives Q whole result
gives_handed P Q r there f whole e (Ok u) stage is gives same = absurd same
gives_handed {T = T} {U = U} P Q r there f whole e (Err x) stage is gives same =
    subst (λ y. Gives {T = U} Q whole (Err y)) (sym same)
    (subst (λ y. Gives {T = U} Q y (Err e)) (sym stage) (gives_err P Q r f e (subst (λ y. Gives {T = T} P y (Err e)) (sym is) gives)))

-- a fault of a call within, of what is read as that
pub gives_other : {T U A : Type 0} (P : T → Result A means.Refusal → Type 0) (Q : U → Result A means.Refusal → Type 0) (read : Result A means.Refusal) (e : OpenFault) (result : Result U OpenFault) → Gives P read (Err e) → IsErrAnd result (λ x. x ≡ e) → Gives Q read result
gives_other P Q read e (Ok u) is same = absurd same
gives_other {T = T} {U = U} P Q read e (Err x) is same = subst (λ y. Gives {T = U} Q read (Err y)) (sym same) (by e is)
  where
    by : (e : OpenFault) → Gives {T = T} P read (Err e) → Gives {T = U} Q read (Err e)
    by (fault.Refused r) is = is
    by fault.Device is = tt
    by fault.NoMemory is = tt

-- the answer of the last stage
pub gives_as : {T A : Type 0} (P : T → Result A means.Refusal → Type 0) (read whole : Result A means.Refusal) (result : Result T OpenFault) → whole ≡ read → Gives P read result → Gives P whole result
gives_as P read whole result same gives = subst (λ y. Gives P y result) (sym same) gives

-- a fault that was made of another
pub gives_made : {T A : Type 0} (P : T → Result A means.Refusal → Type 0) (read : Result A means.Refusal) (e : OpenFault) (result : Result T OpenFault) → Gives P read (Err e) → IsErrAnd result (λ x. x ≡ e) → Gives P read result
gives_made P read e (Ok t) is same = absurd same
gives_made {T = T} P read e (Err x) is same = subst (λ y. Gives {T = T} P read (Err y)) (sym same) is

pub whole_is : {A : Type 0} (r : Result A means.Refusal) → r ≡ on_ok r (λ a. Ok a)
whole_is (Ok a) = refl
whole_is (Err e) = refl

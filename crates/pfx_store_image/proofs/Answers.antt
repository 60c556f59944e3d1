-- What an answer says of its parts.
use Rattle.std.proofs.Common.{◌≡◌, ◌⊎◌, inl, inr, refl, ap, cond, Bool, true, false, Option, Some, None, Result, Ok, Err}
use Rattle.pfx_store_image.specs.Recovery.{on_ok, on_some}

abbrev pub okay : {A E : Type 0} → A → Result A E
okay a = Ok a

abbrev pub faulty : {A E : Type 0} → E → Result A E
faulty e = Err e

abbrev pub some : {A : Type 0} → A → Option A
some a = Some a

abbrev pub none : {A : Type 0} → Option A
none = None

pub not_err : {A E : Type 0} {C : Type 0} (e : E) (a : A) → faulty {A = A} {E = E} e ≡ okay a → C
not_err e a is = cc

pub not_ok : {A E : Type 0} {C : Type 0} (a : A) (e : E) → okay {A = A} {E = E} a ≡ faulty e → C
not_ok a e is = cc

pub not_none : {A : Type 0} {C : Type 0} (a : A) → none {A = A} ≡ some a → C
not_none a is = cc

pub not_some : {A : Type 0} {C : Type 0} (a : A) → some a ≡ none → C
not_some a is = cc

pub ok_same : {A E : Type 0} (a b : A) → okay {A = A} {E = E} a ≡ okay b → a ≡ b
ok_same a b is = cc

pub err_same : {A E : Type 0} (a b : E) → faulty {A = A} {E = E} a ≡ faulty b → a ≡ b
err_same a b is = cc

pub some_same : {A : Type 0} (a b : A) → some a ≡ some b → a ≡ b
some_same a b is = cc

pub some_back : {A B E : Type 0} (r : Option A) (e : E) (f : A → Result B E) (t : B) → on_some r e f ≡ Ok t → (a : A) × (r ≡ Some a) × (f a ≡ Ok t)
some_back (Some a) e f t is = (a, refl, is)
some_back None e f t is = not_err e t is

pub ok_back : {A B E : Type 0} (r : Result A E) (f : A → Result B E) (t : B) → on_ok r f ≡ Ok t → (a : A) × (r ≡ Ok a) × (f a ≡ Ok t)
ok_back (Ok a) f t is = (a, refl, is)
ok_back (Err e) f t is = not_err e t is

pub if_back : {A E : Type 0} (b : Bool) (r : Result A E) (e : E) (t : A) → cond b r (Err e) ≡ Ok t → (b ≡ true) × (r ≡ Ok t)
if_back true r e t is = (refl, is)
if_back false r e t is = not_err e t is

pub else_back : {A E : Type 0} (b : Bool) (e : E) (r : Result A E) (t : A) → cond b (Err e) r ≡ Ok t → (b ≡ false) × (r ≡ Ok t)
else_back true e r t is = not_err e t is
else_back false e r t is = (refl, is)

pub if_some : {A : Type 0} (b : Bool) (r : Option A) (a : A) → cond b r None ≡ Some a → (b ≡ true) × (r ≡ Some a)
if_some true r a is = (refl, is)
if_some false r a is = not_none a is

pub some_err : {A B E : Type 0} (r : Option A) (e : E) (f : A → Result B E) (x : E) → on_some r e f ≡ Err x → ((r ≡ None) × (e ≡ x)) ⊎ ((a : A) × (r ≡ Some a) × (f a ≡ Err x))
some_err (Some a) e f x is = inr (a, refl, is)
some_err {B = B} None e f x is = inl (refl, err_same {A = B} e x is)

pub ok_err : {A B E : Type 0} (r : Result A E) (f : A → Result B E) (x : E) → on_ok r f ≡ Err x → (r ≡ Err x) ⊎ ((a : A) × (r ≡ Ok a) × (f a ≡ Err x))
ok_err (Ok a) f x is = inr (a, refl, is)
ok_err {A = A} {B = B} (Err e) f x is = inl (ap (λ y. faulty {A = A} y) (err_same {A = B} e x is))

pub if_err : {A E : Type 0} (b : Bool) (r : Result A E) (e x : E) → cond b r (Err e) ≡ Err x → ((b ≡ true) × (r ≡ Err x)) ⊎ ((b ≡ false) × (e ≡ x))
if_err true r e x is = inl (refl, is)
if_err {A = A} false r e x is = inr (refl, err_same {A = A} e x is)

pub else_err : {A E : Type 0} (b : Bool) (e : E) (r : Result A E) (x : E) → cond b (Err e) r ≡ Err x → ((b ≡ true) × (e ≡ x)) ⊎ ((b ≡ false) × (r ≡ Err x))
else_err {A = A} true e r x is = inl (refl, err_same {A = A} e x is)
else_err false e r x is = inr (refl, is)

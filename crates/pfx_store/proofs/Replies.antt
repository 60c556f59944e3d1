-- What an answer says, said of another.
use Rattle.std.specs.Prelude.{Result, Ok, Err, IfOk, IfErr, MatchResult}

module _ {T E : Type 0} where
  pub if_ok_then : (P Q : T → Type 0) (r : Result T E) → ((x : T) → P x → Q x) → IfOk r P → IfOk r Q
  if_ok_then P Q (Ok x) f is = f x is
  if_ok_then P Q (Err e) f is = tt

  pub if_err_then : (P Q : E → Type 0) (r : Result T E) → ((e : E) → P e → Q e) → IfErr r P → IfErr r Q
  if_err_then P Q (Ok x) f is = tt
  if_err_then P Q (Err e) f is = f e is

  pub either : (P : T → Type 0) (Q : E → Type 0) (r : Result T E) → IfOk r P → IfErr r Q → MatchResult r P Q
  either P Q (Ok x) ok err = ok
  either P Q (Err e) ok err = err

use Rattle.std.proofs.Common.{◌≡◌, ◌∙◌, ℕ, ◌+◌, ◌-◌, List, drop, take, Some, None, Result, Ok, Err, MatchResult, sym, ap, subst, arith}
use Rattle.std.specs.Result.{result_ok}
use Rattle.std.specs.Option.{IfSome}
use Rattle.pfx_jobs.specs.Kind.{Kind, Laws}
use Rattle.pfx_record.specs.Begins.{Begins}
use Rattle.pfx_record.proofs.Fronts.{taken_begins}
use Rattle.pfx_record.proofs.read_record.state_at.Goals as goal

read : {J E : Type 0} (K : Kind J) (L : Laws K) (bytes state : List ℕ) (answer : Result J E) → state ≡ take 128 bytes
    → MatchResult answer (λ s. K.decoded state ≡ Some s) (λ _. K.decoded state ≡ None) → IfSome (result_ok answer) (λ s. Begins bytes (K.spelling s))
read K L bytes state (Ok s) is decodes = subst (λ (l : List ℕ). Begins bytes l) (sym is ∙ sym (L.only_encodings state s decodes)) (taken_begins 128 bytes)
read K L bytes state (Err e) is decodes = tt

pub returns-clause-found : goal.returns-clause-found
returns-clause-found g c =
    let bytes = drop c.args.at c.args.bytes.now in
    let long : c.args.at + 128 - c.args.at ≡ 128 = omega arith in
    subst (λ found. IfSome found (λ s. Begins bytes (g.J.Job.kind.spelling s))) (sym c.ok.ensures.value)
    (read g.J.Job.kind g.met.J.Job.laws bytes c.copy_from_slice.new.self c.decode.result (c.copy_from_slice.ensures.after ∙ ap (λ (k : ℕ). take k bytes) long) c.decode.ensures)

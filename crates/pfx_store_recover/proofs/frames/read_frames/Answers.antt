use Rattle.std.proofs.Common.{◌≡◌, ◌+◌, ◌∙◌, List, ℕ, length, take, drop, refl, sym, ap, subst, arith, Err, rules}
use Rattle.pfx_store_image.specs.Recovery.{walk}
use Rattle.pfx_store_recover.specs.Answers.{Gives}
use Rattle.pfx_store_recover.specs.Walking.{IsWalk, frames_of}
use Rattle.pfx_store_recover.proofs.Giving.{gives_other}
use Rattle.pfx_store_recover.proofs.Looking.{kept_after, looks_then}
use Rattle.pfx_store_recover.proofs.frames.read_frames.Goals as goal

pub returns-in_default : goal.returns-in_default
returns-in_default g c = record {
  call = record { looks = looks_then _ _ _ c.hold.ensures.call.looks c.read_singly.ensures.call.looks; device = search rules };
  walked = search rules;
  exact = λ bytes kept n long. c.read_singly.ensures.exact bytes (kept_after bytes _ _ c.hold.ensures.call.looks kept) n long;
}

pub returns-in_err-len : goal.returns-in_err-len
returns-in_err-len g c = record {
  call = record { looks = c.hold.ensures.call.looks; device = search rules };
  walked = search rules;
  exact = λ bytes kept n long.
      let held = rw c.in-Some.is at c.in_ok-bytes.ensures.read in
      let is_held = held.kept bytes kept in
      let is = c.deref.ensures.value ∙ is_held ∙ ap (λ (k : ℕ). take k (drop c.args.first bytes)) (sym (ap length c.deref.ensures.value ∙ held.long)) in
      let end : c.args.first + length c.deref.result.now ≡ c.args.end = omega (arith, ap length c.deref.ensures.value, held.long, c.requires.stretch.order) in
      let gives = c.in_err-len.ensures.exact bytes is n (omega (arith, end, long)) in
      gives_other (λ (w : ℕ × ℕ). IsWalk (take w.0 c.deref.result.now) w.1) (λ w. IsWalk (frames_of w) w.last) (walk g.F.Format.codec (1 + n) c.args.first c.args.end c.args.number bytes) c.in_err-len.field-0.0 c.from_residual-in_err-len.result
      (subst (λ (k : ℕ). Gives (λ (w : ℕ × ℕ). IsWalk (take w.0 c.deref.result.now) w.1) (walk g.F.Format.codec (1 + n) c.args.first k c.args.number bytes) (Err c.in_err-len.field-0.0)) end gives)
      c.from_residual-in_err-len.ensures.1;
}

pub returns : goal.returns
returns g c = record {
  call = record { looks = c.hold.ensures.call.looks; device = search rules };
  walked = search rules;
  exact = λ bytes kept n long.
      let held = rw c.in-Some.is at c.in_ok-bytes.ensures.read in
      let is_held = held.kept bytes kept in
      let is = c.deref.ensures.value ∙ is_held ∙ ap (λ (k : ℕ). take k (drop c.args.first bytes)) (sym (ap length c.deref.ensures.value ∙ held.long)) in
      let end : c.args.first + length c.deref.result.now ≡ c.args.end = omega (arith, ap length c.deref.ensures.value, held.long, c.requires.stretch.order) in
      let gives = c.in_ok-len.ensures.exact bytes is n (omega (arith, end, long)) in
      subst (λ (l : List ℕ). IsWalk (take c.in_ok-len.len l) c.in_ok-len.last (walk g.F.Format.codec (1 + n) c.args.first c.args.end c.args.number bytes)) c.deref.ensures.value
      (subst (λ (k : ℕ). IsWalk (take c.in_ok-len.len c.deref.result.now) c.in_ok-len.last (walk g.F.Format.codec (1 + n) c.args.first k c.args.number bytes)) end gives);
}

pub returns-in_err-bytes : goal.returns-in_err-bytes
returns-in_err-bytes g c = record {
  call = record { looks = c.hold.ensures.call.looks; device = λ is. c.in_err-bytes.ensures.call.failed refl };
  walked = search rules;
  exact = search rules;
}

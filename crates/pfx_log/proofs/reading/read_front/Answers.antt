use Rattle.std.proofs.Common.{rules, ◌≡◌, ◌≢◌, ◌⊎◌, inl, inr, ◌≤◌, ◌<◌, ◌+◌, ◌-◌, ◌^◌, length, get_or, refl, sym, ap, arith, ◌∙◌}
use Rattle.std.specs.Prelude.{IsTrue}
use Rattle.pfx_disk.specs.declared.gates.TheConstants.{GATE_OPEN}
use Rattle.pfx_log.specs.Logs.{last_number}
use Rattle.pfx_log.proofs.Fronts.{cut_off, cut_short, other_number, too_long}
use Rattle.pfx_log.proofs.Handed.{front_handed}
use Rattle.pfx_log.proofs.Looks.{failed_after, keeps_after, looks_then}
use Rattle.pfx_log.proofs.reading.read_front.Goals as goal
use Rattle.pfx_log.proofs.reading.read_front.Goals.{then-first-eq0-via-then-first-eq0, then-first-eq0-via-else-first-eq0+then-first-place, then-first-eq0-via-else-first-eq0+else-first-place+then-last-first}

pub returns-in_err-is_open-clause-read : goal.returns-in_err-is_open-clause-read
returns-in_err-is_open-clause-read g c =
    front_handed _ _ c.in_err-is_open.field-0.0 c.is_open.ensures.looks c.in_err-is_open.ensures.device (λ bytes kept. c.in_err-is_open.ensures.exact bytes kept) c.args.place c.from_residual.result c.from_residual.ensures.1

pub returns-then-len-at-lt-AROUND-clause-read : goal.returns-then-len-at-lt-AROUND-clause-read
returns-then-len-at-lt-AROUND-clause-read g c = record {
  looks = c.is_open.ensures.looks;
  device = search rules;
  exact = λ bytes kept log begins.
      let long : length bytes ≡ c.args.len = ap length (sym kept.contents) ∙ c.requires.len kept.honest in
      let inside : c.args.place.at < length bytes = (let r = c.requires.inside in let f = c.if-at-len.false in omega (arith, r, f, long)) in
      let opened : IsTrue c.in_ok-is_open.field-0 = search rules in
      let gate : get_or bytes c.args.place.at 0 ≡ GATE_OPEN = (c.in_ok-is_open.ensures.exact bytes kept).0 opened in
      let few : length bytes - c.args.place.at < 57 = (let t = c.if-len-at-lt-AROUND.true in omega (arith, t, long)) in
      cut_short bytes c.args.place.at inside gate c.args.place log refl few;
}

pub returns-in_err-n-clause-read : goal.returns-in_err-n-clause-read
returns-in_err-n-clause-read g c =
    let view = g.D.Disk.view in
    let looked = c.is_open.ensures.looks in
    front_handed _ _ c.in_err-n.field-0.0 (looks_then _ _ _ looked c.read_numbers.ensures.looks) (λ is. failed_after (view c.args.disk.now) (view c.is_open.new.disk) (view c.read_numbers.new.disk) looked (c.in_err-n.ensures.device is))
    (λ bytes kept. c.in_err-n.ensures.exact bytes (keeps_after bytes (view c.args.disk.now) (view c.is_open.new.disk) looked kept)) c.args.place c.from_residual-in_err-n.result c.from_residual-in_err-n.ensures.1

pub returns-then-n-clause-read : goal.returns-then-n-clause-read
returns-then-n-clause-read g c = record {
  looks = looks_then _ _ _ c.is_open.ensures.looks c.read_numbers.ensures.looks;
  device = search rules;
  exact = λ bytes kept log begins.
      let view = g.D.Disk.view in
      let p = c.args.place.at in
      let long : length bytes ≡ c.args.len = ap length (sym kept.contents) ∙ c.requires.len kept.honest in
      let inside : p < length bytes = (let r = c.requires.inside in let f = c.if-at-len.false in omega (arith, r, f, long)) in
      let opened : IsTrue c.in_ok-is_open.field-0 = search rules in
      let gate : get_or bytes p 0 ≡ GATE_OPEN = (c.in_ok-is_open.ensures.exact bytes kept).0 opened in
      let front = c.in_ok-n.ensures.exact bytes (keeps_after bytes (view c.args.disk.now) (view c.is_open.new.disk) c.is_open.ensures.looks kept) in
      let small : c.in_ok-n.n < 2 ^ 64 = search rules in
      let most = c.if-n.true in
      too_long bytes p inside gate c.in_ok-n.n c.in_ok-n.first c.in_ok-n.last front c.args.place log refl small most;
}

pub returns-then-len-at-clause-read : goal.returns-then-len-at-clause-read
returns-then-len-at-clause-read g c = record {
  looks = looks_then _ _ _ c.is_open.ensures.looks c.read_numbers.ensures.looks;
  device = search rules;
  exact = λ bytes kept log begins.
      let view = g.D.Disk.view in
      let p = c.args.place.at in
      let long : length bytes ≡ c.args.len = ap length (sym kept.contents) ∙ c.requires.len kept.honest in
      let inside : p < length bytes = (let r = c.requires.inside in let f = c.if-at-len.false in omega (arith, r, f, long)) in
      let opened : IsTrue c.in_ok-is_open.field-0 = search rules in
      let gate : get_or bytes p 0 ≡ GATE_OPEN = (c.in_ok-is_open.ensures.exact bytes kept).0 opened in
      let front = c.in_ok-n.ensures.exact bytes (keeps_after bytes (view c.args.disk.now) (view c.is_open.new.disk) c.is_open.ensures.looks kept) in
      let small : c.in_ok-n.n < 2 ^ 64 = search rules in
      let around = c.if-len-at-lt-AROUND.false in
      let below = c.if-len-at.true in
      let few : length bytes - p < 57 + c.in_ok-n.n = omega (arith, around, below, long) in
      cut_off bytes p inside gate c.in_ok-n.n c.in_ok-n.first c.in_ok-n.last front c.args.place log refl small few;
}

pub returns-then-first-eq0-clause-read : goal.returns-then-first-eq0-clause-read
returns-then-first-eq0-clause-read g c = record {
  looks = looks_then _ _ _ c.is_open.ensures.looks c.read_numbers.ensures.looks;
  device = search rules;
  exact = λ bytes kept log begins.
      let view = g.D.Disk.view in
      let p = c.args.place.at in
      let n = c.in_ok-n.n in
      let first = c.in_ok-n.first in
      let last = c.in_ok-n.last in
      let long : length bytes ≡ c.args.len = ap length (sym kept.contents) ∙ c.requires.len kept.honest in
      let inside : p < length bytes = (let r = c.requires.inside in let f = c.if-at-len.false in omega (arith, r, f, long)) in
      let opened : IsTrue c.in_ok-is_open.field-0 = search rules in
      let gate : get_or bytes p 0 ≡ GATE_OPEN = (c.in_ok-is_open.ensures.exact bytes kept).0 opened in
      let front = c.in_ok-n.ensures.exact bytes (keeps_after bytes (view c.args.disk.now) (view c.is_open.new.disk) c.is_open.ensures.looks kept) in
      let around = c.if-len-at-lt-AROUND.false in
      let enough = c.if-len-at.false in
      let fits : p + 57 + n ≤ length bytes = omega (arith, around, enough, long, inside) in
      let most = c.if-n.false in
      let small : first < 2 ^ 64 = search rules in
      let small_last : last < 2 ^ 64 = search rules in
      let before = begins.end.last in
      let wrong : (first ≢ last_number log + 1) ⊎ (last < first) = elim c.then-first-eq0.branch [
        | then-first-eq0-via-then-first-eq0 w ↦ inl (λ is. omega (arith, is, w.if-first-eq0.true))
        | then-first-eq0-via-else-first-eq0+then-first-place w ↦ inl (λ is. omega (arith, is, before, w.if-first-eq0.false, w.if-first-place.true))
        | then-first-eq0-via-else-first-eq0+else-first-place+then-last-first w ↦ inr (omega (arith, w.if-last-first.true))
      ] in
      other_number bytes p inside gate n first last front fits c.args.place log refl (omega (arith, most)) small small_last wrong;
}

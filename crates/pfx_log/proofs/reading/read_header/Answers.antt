use Rattle.std.proofs.Common.{rules, ◌≡◌, ◌<◌, length, refl, sym, ap, subst, ◌∙◌}
use Rattle.byteorder.specs.Endian.{little_number}
use Rattle.pfx_log.specs.Faults.{IsOfMachine}
use Rattle.pfx_log.specs.Logs.{AreBytes, first_head, new_log}
use Rattle.pfx_log.proofs.Handed.{header_handed, of_header}
use Rattle.pfx_log.proofs.Headers.{begins}
use Rattle.pfx_log.proofs.Looks.{failed_after, keeps_after, looks_then}
use Rattle.pfx_log.proofs.reading.read_header.Goals as goal

pub returns-in_err-version-clause-read : goal.returns-in_err-version-clause-read
returns-in_err-version-clause-read g c =
    let view = g.D.Disk.view in
    let a = view c.args.disk.now in
    let b = view c.read_bytes.new.disk in
    header_handed a b c.in_err-version.field-0.0 c.read_bytes.ensures.read.looks
    (λ is. absurd (c.in_err-version.ensures.own (subst IsOfMachine (sym is) tt)))
    (λ bytes kept.
    let long : length bytes ≡ c.args.len = ap length (sym kept.contents) ∙ c.requires kept.honest in
    c.in_err-version.ensures.front bytes (c.deref.ensures.value ∙ c.in_ok-front.ensures.read.exact bytes kept) long)
    c.from_residual-in_err-version.result c.from_residual-in_err-version.ensures.1

pub returns-in_err-state-clause-read : goal.returns-in_err-state-clause-read
returns-in_err-state-clause-read g c =
    let view = g.D.Disk.view in
    let a = view c.args.disk.now in
    let b = view c.read_bytes.new.disk in
    let d = view c.read_bytes-2.new.disk in
    let first = c.read_bytes.ensures.read.looks in
    header_handed a d c.in_err-state.field-0.0 (looks_then a b d first c.read_bytes-2.ensures.read.looks)
    (λ is. failed_after a b d first (c.in_err-state.ensures.read.device is))
    (λ bytes kept. of_header c.in_err-state.field-0.0 bytes (c.in_err-state.ensures.read.exact bytes (keeps_after bytes a b first kept)))
    c.from_residual-in_err-state.result c.from_residual-in_err-state.ensures.1

pub returns-in_err-before-clause-read : goal.returns-in_err-before-clause-read
returns-in_err-before-clause-read g c =
    let view = g.D.Disk.view in
    let a = view c.args.disk.now in
    let b = view c.read_bytes.new.disk in
    let d = view c.read_bytes-2.new.disk in
    let e = view c.read_head.new.disk in
    let looks = looks_then a b d c.read_bytes.ensures.read.looks c.read_bytes-2.ensures.read.looks in
    header_handed a e c.in_err-before.field-0.0 (looks_then a d e looks c.read_head.ensures.looks)
    (λ is. failed_after a d e looks (c.in_err-before.ensures.device is))
    (λ bytes kept. of_header c.in_err-before.field-0.0 bytes (c.in_err-before.ensures.exact bytes (keeps_after bytes a d looks kept)))
    c.from_residual-in_err-before.result c.from_residual-in_err-before.ensures.1

pub returns-clause-read : goal.returns-clause-read
returns-clause-read g c =
    let view = g.D.Disk.view in
    let a = view c.args.disk.now in
    let b = view c.read_bytes.new.disk in
    let d = view c.read_bytes-2.new.disk in
    let e = view c.read_head.new.disk in
    let looks = looks_then a b d c.read_bytes.ensures.read.looks c.read_bytes-2.ensures.read.looks in
    record {
      looks = looks_then a d e looks c.read_head.ensures.looks;
      device = search rules;
      exact = λ bytes kept.
          let version = c.in_ok-version.version in
          let n = c.in_ok-version.n in
          let state = c.in_ok-state.state.items in
          let before = c.in_ok-before.before in
          let small : version < 256 = search rules in
          let long : length bytes ≡ c.args.len = ap length (sym kept.contents) ∙ c.requires kept.honest in
          let front = c.in_ok-version.ensures.front bytes (c.deref.ensures.value ∙ c.in_ok-front.ensures.read.exact bytes kept) long in
          let is_state = c.in_ok-state.ensures.read.exact bytes (keeps_after bytes a b c.read_bytes.ensures.read.looks kept) in
          let is_before = c.in_ok-before.ensures.exact bytes (keeps_after bytes a d looks kept) in
          let last : c.read_u64.result ≡ little_number 8 state = c.read_u64.ensures ∙ ap (little_number 8) c.deref-2.ensures.value in
          let head : c.first_head.result ≡ first_head (new_log version state before) = c.first_head.ensures.value ∙ ap (λ s. first_head (new_log version s before)) c.deref-3.ensures.value in
          begins bytes version n front state before is_state is_before small (subst AreBytes c.deref-3.ensures.value c.first_head.ensures.bytes.0) c.first_head.ensures.bytes.1 _ refl last head;
    }

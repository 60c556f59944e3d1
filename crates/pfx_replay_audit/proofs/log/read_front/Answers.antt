use Rattle.std.proofs.Common.{inl, rules}
use Rattle.pfx_log.proofs.Looks.{failed_after, keeps_after, looks_of, looks_then}
use Rattle.pfx_replay_audit.proofs.Logging.{front_handed}
use Rattle.pfx_replay_audit.proofs.log.read_front.Goals as goal

pub returns-in_err-len-clause-read : goal.returns-in_err-len-clause-read
returns-in_err-len-clause-read g c =
    let view = g.L.Disk.view in
    let a = view c.args.disk.now in
    let n = view c.len.new.self in
    front_handed a n _ (looks_of a n c.len.result c.len.ensures.time c.len.ensures.honest c.len.ensures.leaves)
    (λ is. c.len.ensures.time.err (search rules)) (λ bytes kept. inl tt) c.from_residual.result c.from_residual.ensures.1

pub returns-in_err-header-clause-read : goal.returns-in_err-header-clause-read
returns-in_err-header-clause-read g c =
    let view = g.L.Disk.view in
    let a = view c.args.disk.now in
    let n = view c.len.new.self in
    let b = view c.read_header.new.disk in
    let first = looks_of a n c.len.result c.len.ensures.time c.len.ensures.honest c.len.ensures.leaves in
    front_handed a b c.in_err-header.field-0.0 (looks_then a n b first c.read_header.ensures.read.looks)
    (λ is. failed_after a n b first (c.in_err-header.ensures.read.device is))
    (λ bytes kept. inl (c.in_err-header.ensures.read.exact bytes (keeps_after bytes a n first kept)))
    c.from_residual-in_err-header.result c.from_residual-in_err-header.ensures.1

pub returns-clause-read : goal.returns-clause-read
returns-clause-read g c =
    let view = g.L.Disk.view in
    let a = view c.args.disk.now in
    let n = view c.len.new.self in
    let b = view c.read_header.new.disk in
    let first = looks_of a n c.len.result c.len.ensures.time c.len.ensures.honest c.len.ensures.leaves in
    record {
      looks = looks_then a n b first c.read_header.ensures.read.looks;
      device = search rules;
      exact = λ bytes kept. c.in_ok-header.ensures.read.exact bytes (keeps_after bytes a n first kept);
    }

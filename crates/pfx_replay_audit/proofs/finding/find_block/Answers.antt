use Rattle.std.proofs.Common.{refl}
use Rattle.pfx_log.specs.Logs.{new_log}
use Rattle.pfx_log.proofs.Looks.{keeps_after, looks_of, looks_then}
use Rattle.pfx_replay_audit.proofs.Found.{device_then}
use Rattle.pfx_replay_audit.proofs.finding.find_block.Goals as goal

pub returns : goal.returns
returns g c =
    let view = g.L.Disk.view in
    let a = view c.args.disk.now in
    let n = view c.len.new.self in
    let b = view c.read_header.new.disk in
    let counted = looks_of a n c.len.result c.len.ensures.time c.len.ensures.honest c.len.ensures.leaves in
    let header = c.in_ok-first.field-0-0 in
    let before = looks_then a n b counted c.read_header.ensures.read.looks in
    record {
      looks = looks_then a b (view c.find_from.new.disk) before c.find_from.ensures.looks;
      device = device_then a b (view c.find_from.new.disk) c.find_from.result before c.find_from.ensures.device;
      exact = λ bytes kept. c.find_from.ensures.exact bytes (keeps_after bytes a b before kept)
          (new_log header.version header.state.items header.before) refl (c.in_ok-first.ensures.read.exact bytes (keeps_after bytes a n counted kept));
    }

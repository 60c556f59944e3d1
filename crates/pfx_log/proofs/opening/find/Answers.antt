use Rattle.pfx_log.specs.Logs.{new_log}
use Rattle.pfx_log.proofs.Handed.{found_then}
use Rattle.pfx_log.proofs.Looks.{keeps_after, looks_of, looks_then}
use Rattle.pfx_log.proofs.opening.find.Goals as goal

pub returns-clause-read : goal.returns-clause-read
returns-clause-read g c =
    let view = g.D.Disk.view in
    let a = view c.args.disk.now in
    let s = view c.sync.new.self in
    let n = view c.len.new.self in
    let b = view c.read_header.new.disk in
    let d = view c.find_end.new.disk in
    let synced = looks_of a s c.sync.result c.sync.ensures.time c.sync.ensures.honest c.sync.ensures.leaves in
    let counted = looks_of s n c.len.result c.len.ensures.time c.len.ensures.honest c.len.ensures.leaves in
    let before = looks_then a s n synced counted in
    let header = c.in_ok-place.field-0-0 in
    found_then a b d c.in_ok-place.place c.find_end.result (looks_then a n b before c.read_header.ensures.read.looks)
    (λ bytes kept. (new_log header.version header.state.items header.before, c.in_ok-place.ensures.read.exact bytes (keeps_after bytes a n before kept)))
    c.find_end.ensures

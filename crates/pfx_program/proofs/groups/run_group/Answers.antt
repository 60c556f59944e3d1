use Rattle.std.proofs.Common.{rules, ◌≡◌, ◌<◌, ◌≤◌, ◌+◌, Err, length, arith}
use Rattle.pfx_program.specs.Groups.{group_steps}
use Rattle.pfx_program.specs.Running.{run_of}
use Rattle.pfx_program.proofs.GroupLemmas.{empty_added, group_added, group_done, group_empty, group_left, group_unwritten, told_group}
use Rattle.pfx_store_engine.proofs.Sharing.{told_equal}
use Rattle.pfx_program.proofs.StepLemmas.{if_err, on_ok}
use Rattle.pfx_program.proofs.PrintLemmas.{may_told}
use Rattle.pfx_program.proofs.groups.run_group.Goals as goal
use Rattle.pfx_kinds.specs.AnyKind.{any_kind}

pub returns-then-is_empty-clause-ok : goal.returns-then-is_empty-clause-ok
returns-then-is_empty-clause-ok g c =
    let none : length c.args.group.items ≡ 0 = search rules in
    group_empty g.E.Engine.promise c.args.form g.met.E.Engine.laws c.args.group.items c.args.report.now.accepted c.args.engine.now (g.W.Printer.contents c.args.output.now) none

pub returns-then-is_empty-clause-counts : goal.returns-then-is_empty-clause-counts
returns-then-is_empty-clause-counts g c =
    let none : length c.args.group.items ≡ 0 = search rules in
    empty_added (run_of g.E.Engine.promise c.args.form c.args.engine.now c.args.report.now.accepted) (c.args.from + 1) c.args.group.items c.args.report.now none

pub returns-in_err-told-clause-err : goal.returns-in_err-told-clause-err
returns-in_err-told-clause-err g c =
    let is : c.from_residual.result ≡ Err c.in_err-told.field-0.0 = search rules in
    let some : 0 < length c.args.group.items = search rules in
    let room : c.args.report.now.accepted + length c.args.group.items ≤ 1048576 = omega (arith, some, c.requires.room) in
    rw is (group_left g.E.Engine.promise c.args.form g.met.E.Engine.laws c.args.group.items c.args.report.now.accepted c.args.engine.now c.all.new.self (g.W.Printer.contents c.args.output.now) c.in_err-told.field-0.0
    c.in_err-told.ensures.left room c.in_err-told.ensures.fails)

pub put_told-requires : goal.put_told-requires
put_told-requires g c =
    let long = told_equal any_kind (g.E.Engine.promise.state c.args.engine.now) c.args.group.items c.in_ok-told.told.items c.in_ok-told.ensures.done.answered in
    let P = g.E.Engine.promise in
    let H = c.args.group.items in
    let told = c.in_ok-told.told.items in
    let done = c.in_ok-told.ensures.done in
    let some : 0 < length c.args.group.items = search rules in
    let room : c.args.report.now.accepted + length c.args.group.items ≤ 1048576 = omega (arith, some, c.requires.room) in
    let run = run_of P c.args.form c.args.engine.now c.args.report.now.accepted in
    record {
      may = rw c.deref.ensures.value (may_told P g.met.E.Engine.laws g.W.Printer.allows c.args.engine.now c.all.new.self (g.W.Printer.contents c.args.output.now) c.args.form (P.state c.args.engine.now) H told (group_steps run H)
          (told_group run H told done.answered room) done.answered c.requires.may done.keeps);
      room = rw c.deref.ensures.value (omega (arith, long, room));
      places = rw c.deref.ensures.value (omega (arith, long, c.requires.places));
      few = c.requires.refused;
    }

pub returns-clause-err : goal.returns-clause-err
returns-clause-err g c =
    let some : 0 < length c.args.group.items = search rules in
    let room : c.args.report.now.accepted + length c.args.group.items ≤ 1048576 = omega (arith, some, c.requires.room) in
    if_err g.E.Engine.promise g.met.E.Engine.laws c.put_told.result
    (λ f h. group_unwritten g.E.Engine.promise c.args.form g.met.E.Engine.laws c.args.group.items c.in_ok-told.told.items c.args.report.now.accepted c.args.engine.now c.all.new.self (g.W.Printer.contents c.args.output.now)
    (g.W.Printer.contents c.put_told.new.output) f c.in_ok-told.ensures.done room (rw c.deref.ensures.value at h)) c.put_told.ensures.err

pub returns-clause-ok : goal.returns-clause-ok
returns-clause-ok g c =
    let some : 0 < length c.args.group.items = search rules in
    let room : c.args.report.now.accepted + length c.args.group.items ≤ 1048576 = omega (arith, some, c.requires.room) in
    on_ok g.E.Engine.promise g.met.E.Engine.laws c.put_told.result
    (λ h. group_done g.E.Engine.promise c.args.form g.met.E.Engine.laws c.args.group.items c.in_ok-told.told.items c.args.report.now.accepted c.args.engine.now c.all.new.self (g.W.Printer.contents c.args.output.now)
    (g.W.Printer.contents c.put_told.new.output) c.in_ok-told.ensures.done room (rw c.deref.ensures.value at h)) c.put_told.ensures.ok

pub returns-clause-counts : goal.returns-clause-counts
returns-clause-counts g c =
    let some : 0 < length c.args.group.items = search rules in
    let room : c.args.report.now.accepted + length c.args.group.items ≤ 1048576 = omega (arith, some, c.requires.room) in
    on_ok g.E.Engine.promise g.met.E.Engine.laws c.put_told.result
    (λ h. group_added g.E.Engine.promise c.args.form g.met.E.Engine.laws c.args.group.items c.in_ok-told.told.items c.args.report.now c.put_told.new.report (c.args.from + 1) c.args.engine.now c.all.new.self
    c.in_ok-told.ensures.done room (rw c.deref.ensures.value at h)) c.put_told.ensures.counts

use Rattle.std.proofs.Common.{rules, is_some, sym, ◌∙◌, ◌≡◌, ◌<◌, ◌≤◌, max, [], Err, true, false, length, arith}
use Rattle.std.proofs.Math.Nat.{le-max_left, le-max_right}
use Rattle.csv.specs.Records.{fields_of}
use Rattle.pfx_program_script.specs.Records.{Records, ReadFails, Reads, Takes}
use Rattle.pfx_program.specs.Groups.{Gathers}
use Rattle.pfx_store_engine.specs.Promises.{IsEngineFault}
use Rattle.pfx_program.proofs.GroupRuns.{engine_fails, gathers, group_halts, group_runs, may_share, row_done, row_ends, row_halts, some_of, still, unread}
use Rattle.pfx_program.specs.declared.report.AtRefusal.TheVariants.{End}
use Rattle.pfx_program.proofs.PrintLemmas.{may_close, may_end, may_gathered, may_row, may_run_on}
use Rattle.pfx_program.proofs.RunLemmas.{Progress, starts, closes, refuses}
use Rattle.pfx_program.proofs.scripts.run_script.Goals as goal

pub groups-init : goal.groups-init
groups-init g c = starts g.E.Engine.promise c.args.run.form c.args.run.at_refusal g.met.E.Engine.laws c.args.script.now c.args.engine.now c.new-report.result (g.W.Printer.contents c.args.output.now) c.new-report.ensures.accepted c.new-report.ensures.refused c.new-report.ensures.first

pub returns-in-Failed : goal.returns-in-Failed
returns-in-Failed g c =
    let P = g.E.Engine.promise in
    let why : IsEngineFault P.faults (P.state c.groups.engine) c.in-Failed.fault = rw c.in-Failed.is at c.gather-commands.ensures.behind in
    engine_fails P c.args.run.form c.args.run.at_refusal g.met.E.Engine.laws c.args.script.now c.groups.script c.args.engine.now c.groups.engine c.gather-commands.new.engine c.groups.report c.in-Failed.fault (g.W.Printer.contents c.args.output.now)
    (g.W.Printer.contents c.groups.output) c.gather-commands.new.script.failed c.groups.invariant c.gather-commands.ensures.same why

pub run_group-requires : goal.run_group-requires
run_group-requires g c =
    let P = g.E.Engine.promise in
    let L = g.met.E.Engine.laws in
    let group = c.gather-commands.result.group.items in
    let few = c.gather-commands.ensures.few in
    let h = gathers P.faults (P.state c.groups.engine) c.groups.script c.gather-commands.new.script (fields_of c.gather-commands.new.row) group c.gather-commands.result.behind c.gather-commands.ensures.behind c.in_default.not-Failed in
    record {
      changes = c.gather-commands.ensures.changes;
      few = omega (arith, few, c.together-most.ensures.group, c.args.run.few);
      room = omega (arith, few, c.together-most.ensures.room);
      places = (let places = c.gather-commands.ensures.places in omega (arith, places, c.place-from.ensures));
      refused = (let refused = c.groups.invariant.refused in let least = c.groups.invariant.few in omega (arith, refused, least, c.place-from.ensures));
      may = may_gathered P L g.W.Printer.allows c.args.run.form c.args.run.at_refusal c.args.script.now c.groups.script h.0 c.args.engine.now c.groups.engine c.gather-commands.new.engine c.groups.report group (g.W.Printer.contents c.args.output.now)
          (g.W.Printer.contents c.groups.output) c.requires.may c.groups.invariant h.1 (may_share c.args.run.at_refusal c.gather-commands.result.group.items c.together-most.result c.gather-commands.ensures.few c.together-most.ensures.ends) c.gather-commands.ensures.same (c.gather-commands.ensures.settled (still c.gather-commands.result.behind c.in_default.not-Failed));
    }

pub returns-in_err-run_group : goal.returns-in_err-run_group
returns-in_err-run_group g c =
    let P = g.E.Engine.promise in
    let L = g.met.E.Engine.laws in
    let group = c.gather-commands.result.group.items in
    let is : c.from_residual.result ≡ Err c.in_err-run_group.field-0.0 = search rules in
    let few = c.gather-commands.ensures.few in
    let top = le-max_right c.args.run.batch c.args.run.group in
    let wide : length group ≤ max c.args.run.batch c.args.run.group = omega (arith, few, c.together-most.ensures.group, top) in
    let (mid, h) = gathers P.faults (P.state c.groups.engine) c.groups.script c.gather-commands.new.script (fields_of c.gather-commands.new.row) group c.gather-commands.result.behind c.gather-commands.ensures.behind c.in_default.not-Failed in
    rw is (group_halts P c.args.run.form c.args.run.at_refusal L c.args.script.now c.groups.script mid c.args.engine.now c.groups.engine c.gather-commands.new.engine c.run_group.new.engine c.groups.report group c.in_err-run_group.field-0.0
    (g.W.Printer.contents c.args.output.now) (g.W.Printer.contents c.groups.output) (g.W.Printer.contents c.run_group.new.output) c.gather-commands.new.script.failed wide c.groups.invariant h (may_share c.args.run.at_refusal c.gather-commands.result.group.items c.together-most.result c.gather-commands.ensures.few c.together-most.ensures.ends) c.gather-commands.ensures.same
    (c.gather-commands.ensures.settled (still c.gather-commands.result.behind c.in_default.not-Failed)) c.in_err-run_group.ensures.err)

pub groups-preserved-in-Nothing-behind-2 : goal.groups-preserved-in-Nothing-behind-2
groups-preserved-in-Nothing-behind-2 g c =
    let P = g.E.Engine.promise in
    let L = g.met.E.Engine.laws in
    let group = c.gather-commands.result.group.items in
    let h : (0 < length group) × Gathers (P.state c.groups.engine) c.groups.script c.gather-commands.new.script group = rw c.in-Nothing.is at c.gather-commands.ensures.behind in
    let settled : P.settled c.groups.engine → P.settled c.gather-commands.new.engine = c.gather-commands.ensures.settled (rw c.in-Nothing.is tt) in
    group_runs P c.args.run.form c.args.run.at_refusal L c.args.script.now c.groups.script c.gather-commands.new.script c.args.engine.now c.groups.engine c.gather-commands.new.engine c.run_group.new.engine c.groups.report c.run_group.new.report
    c.gather-commands.result.group.items (g.W.Printer.contents c.args.output.now) (g.W.Printer.contents c.groups.output) (g.W.Printer.contents c.run_group.new.output) c.groups.invariant h.1 (may_share c.args.run.at_refusal c.gather-commands.result.group.items c.together-most.result c.gather-commands.ensures.few c.together-most.ensures.ends) c.gather-commands.ensures.same settled
    c.in_ok-run_group.ensures.ok (rw c.place-from.ensures at c.in_ok-run_group.ensures.counts)

pub returns-in_err-why-in-Record : goal.returns-in_err-why-in-Record
returns-in_err-why-in-Record g c =
    let P = g.E.Engine.promise in
    let L = g.met.E.Engine.laws in
    let is : c.from_residual-in_err-why-in-Record.result ≡ Err c.in_err-why-in-Record.field-0.0 = search rules in
    let group = c.gather-commands.result.group.items in
    let h : (mid : Records) × Gathers (P.state c.groups.engine) c.groups.script mid group × Takes mid (fields_of c.gather-commands.new.row) c.gather-commands.new.script = rw c.in-Record.is at c.gather-commands.ensures.behind in
    let settled : P.settled c.groups.engine → P.settled c.gather-commands.new.engine = c.gather-commands.ensures.settled (rw c.in-Record.is tt) in
    let now : Progress P c.args.run.form c.args.run.at_refusal c.args.script.now h.0 c.args.engine.now c.run_group.new.engine c.run_group.new.report (g.W.Printer.contents c.args.output.now) (g.W.Printer.contents c.run_group.new.output) =
    group_runs P c.args.run.form c.args.run.at_refusal L c.args.script.now c.groups.script h.0 c.args.engine.now c.groups.engine c.gather-commands.new.engine c.run_group.new.engine c.groups.report c.run_group.new.report
    c.gather-commands.result.group.items (g.W.Printer.contents c.args.output.now) (g.W.Printer.contents c.groups.output) (g.W.Printer.contents c.run_group.new.output) c.groups.invariant h.1 (may_share c.args.run.at_refusal c.gather-commands.result.group.items c.together-most.result c.gather-commands.ensures.few c.together-most.ensures.ends) c.gather-commands.ensures.same settled
    c.in_ok-run_group.ensures.ok (rw c.place-from.ensures at c.in_ok-run_group.ensures.counts) in
    rw is (row_halts P c.args.run.form c.args.run.at_refusal L c.args.script.now h.0 c.gather-commands.new.script c.args.engine.now c.run_group.new.engine c.run_row.new.engine c.run_group.new.report c.place-at.result (fields_of c.gather-commands.new.row)
    c.in_err-why-in-Record.field-0.0 (g.W.Printer.contents c.args.output.now) (g.W.Printer.contents c.run_group.new.output) (g.W.Printer.contents c.run_row.new.output) (le-max_left c.args.run.batch c.args.run.group) c.place-at.ensures now h.2
    c.in_err-why-in-Record.ensures.fails)

pub groups-preserved : goal.groups-preserved
groups-preserved g c =
    let P = g.E.Engine.promise in
    let L = g.met.E.Engine.laws in
    let group = c.gather-commands.result.group.items in
    let h : (mid : Records) × Gathers (P.state c.groups.engine) c.groups.script mid group × Takes mid (fields_of c.gather-commands.new.row) c.gather-commands.new.script = rw c.in-Record.is at c.gather-commands.ensures.behind in
    let settled : P.settled c.groups.engine → P.settled c.gather-commands.new.engine = c.gather-commands.ensures.settled (rw c.in-Record.is tt) in
    let now : Progress P c.args.run.form c.args.run.at_refusal c.args.script.now h.0 c.args.engine.now c.run_group.new.engine c.run_group.new.report (g.W.Printer.contents c.args.output.now) (g.W.Printer.contents c.run_group.new.output) =
    group_runs P c.args.run.form c.args.run.at_refusal L c.args.script.now c.groups.script h.0 c.args.engine.now c.groups.engine c.gather-commands.new.engine c.run_group.new.engine c.groups.report c.run_group.new.report
    c.gather-commands.result.group.items (g.W.Printer.contents c.args.output.now) (g.W.Printer.contents c.groups.output) (g.W.Printer.contents c.run_group.new.output) c.groups.invariant h.1 (may_share c.args.run.at_refusal c.gather-commands.result.group.items c.together-most.result c.gather-commands.ensures.few c.together-most.ensures.ends) c.gather-commands.ensures.same settled
    c.in_ok-run_group.ensures.ok (rw c.place-from.ensures at c.in_ok-run_group.ensures.counts) in
    row_done P c.args.run.form c.args.run.at_refusal L c.args.script.now h.0 c.gather-commands.new.script c.args.engine.now c.run_group.new.engine c.run_row.new.engine c.run_group.new.report c.note.new.self c.run_row.new.accepted (fields_of c.gather-commands.new.row) c.in_ok-why-in-Record.why
    (g.W.Printer.contents c.args.output.now) (g.W.Printer.contents c.run_group.new.output) (g.W.Printer.contents c.run_row.new.output) now h.2 c.in_ok-why-in-Record.ensures.done (rw c.place-at.ensures at c.note.ensures) (search rules)

pub returns-in-End : goal.returns-in-End
returns-in-End g c =
    let P = g.E.Engine.promise in
    let L = g.met.E.Engine.laws in
    let group = c.gather-commands.result.group.items in
    let h : (mid : Records) × Gathers (P.state c.groups.engine) c.groups.script mid group × Reads mid false [] c.gather-commands.new.script = rw c.in-End.is at c.gather-commands.ensures.behind in
    let settled : P.settled c.groups.engine → P.settled c.gather-commands.new.engine = c.gather-commands.ensures.settled (rw c.in-End.is tt) in
    let now : Progress P c.args.run.form c.args.run.at_refusal c.args.script.now h.0 c.args.engine.now c.run_group.new.engine c.run_group.new.report (g.W.Printer.contents c.args.output.now) (g.W.Printer.contents c.run_group.new.output) =
    group_runs P c.args.run.form c.args.run.at_refusal L c.args.script.now c.groups.script h.0 c.args.engine.now c.groups.engine c.gather-commands.new.engine c.run_group.new.engine c.groups.report c.run_group.new.report
    c.gather-commands.result.group.items (g.W.Printer.contents c.args.output.now) (g.W.Printer.contents c.groups.output) (g.W.Printer.contents c.run_group.new.output) c.groups.invariant h.1 (may_share c.args.run.at_refusal c.gather-commands.result.group.items c.together-most.result c.gather-commands.ensures.few c.together-most.ensures.ends) c.gather-commands.ensures.same settled
    c.in_ok-run_group.ensures.ok (rw c.place-from.ensures at c.in_ok-run_group.ensures.counts) in
    let top = le-max_left c.args.run.batch c.args.run.group in
    let some : 1 ≤ max c.args.run.batch c.args.run.group = omega (arith, top, c.args.run.some) in
    closes P c.args.run.form c.args.run.at_refusal L some c.args.script.now h.0 c.args.engine.now c.run_group.new.engine c.close-in-End.new.engine c.run_group.new.report (g.W.Printer.contents c.args.output.now) (g.W.Printer.contents c.run_group.new.output)
    (g.W.Printer.contents c.close-in-End.new.output) c.gather-commands.new.script.failed c.close-in-End.result now h.2.2 c.close-in-End.ensures.ok c.close-in-End.ensures.settled c.close-in-End.ensures.same c.close-in-End.ensures.err

pub returns-in-Unread : goal.returns-in-Unread
returns-in-Unread g c =
    let P = g.E.Engine.promise in
    let L = g.met.E.Engine.laws in
    let group = c.gather-commands.result.group.items in
    let h : (mid : Records) × Gathers (P.state c.groups.engine) c.groups.script mid group × ReadFails mid c.in-Unread.fault × (c.gather-commands.new.script.failed ≡ true) =
    unread P.faults (P.state c.groups.engine) c.groups.script c.gather-commands.new.script (fields_of c.gather-commands.new.row) group c.gather-commands.result.behind c.in-Unread.fault c.gather-commands.ensures.behind
    c.in_default.not-Failed c.in-Unread.is in
    let settled : P.settled c.groups.engine → P.settled c.gather-commands.new.engine =
    c.gather-commands.ensures.settled (still c.gather-commands.result.behind c.in_default.not-Failed) in
    let now : Progress P c.args.run.form c.args.run.at_refusal c.args.script.now h.0 c.args.engine.now c.run_group.new.engine c.run_group.new.report (g.W.Printer.contents c.args.output.now) (g.W.Printer.contents c.run_group.new.output) =
    group_runs P c.args.run.form c.args.run.at_refusal L c.args.script.now c.groups.script h.0 c.args.engine.now c.groups.engine c.gather-commands.new.engine c.run_group.new.engine c.groups.report c.run_group.new.report
    c.gather-commands.result.group.items (g.W.Printer.contents c.args.output.now) (g.W.Printer.contents c.groups.output) (g.W.Printer.contents c.run_group.new.output) c.groups.invariant h.1 (may_share c.args.run.at_refusal c.gather-commands.result.group.items c.together-most.result c.gather-commands.ensures.few c.together-most.ensures.ends) c.gather-commands.ensures.same settled
    c.in_ok-run_group.ensures.ok (rw c.place-from.ensures at c.in_ok-run_group.ensures.counts) in
    refuses P c.args.run.form c.args.run.at_refusal L c.args.script.now h.0 c.args.engine.now c.run_group.new.engine c.run_group.new.report c.in-Unread.fault (g.W.Printer.contents c.args.output.now) (g.W.Printer.contents c.run_group.new.output)
    c.gather-commands.new.script.failed now h.2 h.3

pub run_row-requires-clause-may : goal.run_row-requires-clause-may
run_row-requires-clause-may g c =
    let P = g.E.Engine.promise in
    let L = g.met.E.Engine.laws in
    let group = c.gather-commands.result.group.items in
    let h : (mid : Records) × Gathers (P.state c.groups.engine) c.groups.script mid group × Takes mid (fields_of c.gather-commands.new.row) c.gather-commands.new.script = rw c.in-Record.is at c.gather-commands.ensures.behind in
    let settled : P.settled c.groups.engine → P.settled c.gather-commands.new.engine = c.gather-commands.ensures.settled (rw c.in-Record.is tt) in
    let now : Progress P c.args.run.form c.args.run.at_refusal c.args.script.now h.0 c.args.engine.now c.run_group.new.engine c.run_group.new.report (g.W.Printer.contents c.args.output.now) (g.W.Printer.contents c.run_group.new.output) =
    group_runs P c.args.run.form c.args.run.at_refusal L c.args.script.now c.groups.script h.0 c.args.engine.now c.groups.engine c.gather-commands.new.engine c.run_group.new.engine c.groups.report c.run_group.new.report
    c.gather-commands.result.group.items (g.W.Printer.contents c.args.output.now) (g.W.Printer.contents c.groups.output) (g.W.Printer.contents c.run_group.new.output) c.groups.invariant h.1 (may_share c.args.run.at_refusal c.gather-commands.result.group.items c.together-most.result c.gather-commands.ensures.few c.together-most.ensures.ends) c.gather-commands.ensures.same settled
    c.in_ok-run_group.ensures.ok (rw c.place-from.ensures at c.in_ok-run_group.ensures.counts) in
    let may = may_run_on P L g.W.Printer.allows c.args.run.form c.args.run.at_refusal c.args.script.now h.0 c.args.engine.now c.run_group.new.engine c.run_group.new.report (g.W.Printer.contents c.args.output.now) (g.W.Printer.contents c.run_group.new.output) now c.requires.may in
    λ verb means. may_row P L g.W.Printer.allows c.args.run.form c.args.run.at_refusal h.0 c.gather-commands.new.script (fields_of c.gather-commands.new.row) verb c.run_group.new.engine c.run_group.new.report.accepted (g.W.Printer.contents c.run_group.new.output) may h.2 means

pub close-requires-in-End : goal.close-requires-in-End
close-requires-in-End g c =
    let P = g.E.Engine.promise in
    let L = g.met.E.Engine.laws in
    let group = c.gather-commands.result.group.items in
    let h : (mid : Records) × Gathers (P.state c.groups.engine) c.groups.script mid group × Reads mid false [] c.gather-commands.new.script = rw c.in-End.is at c.gather-commands.ensures.behind in
    let settled : P.settled c.groups.engine → P.settled c.gather-commands.new.engine = c.gather-commands.ensures.settled (rw c.in-End.is tt) in
    let now : Progress P c.args.run.form c.args.run.at_refusal c.args.script.now h.0 c.args.engine.now c.run_group.new.engine c.run_group.new.report (g.W.Printer.contents c.args.output.now) (g.W.Printer.contents c.run_group.new.output) =
    group_runs P c.args.run.form c.args.run.at_refusal L c.args.script.now c.groups.script h.0 c.args.engine.now c.groups.engine c.gather-commands.new.engine c.run_group.new.engine c.groups.report c.run_group.new.report
    c.gather-commands.result.group.items (g.W.Printer.contents c.args.output.now) (g.W.Printer.contents c.groups.output) (g.W.Printer.contents c.run_group.new.output) c.groups.invariant h.1 (may_share c.args.run.at_refusal c.gather-commands.result.group.items c.together-most.result c.gather-commands.ensures.few c.together-most.ensures.ends) c.gather-commands.ensures.same settled
    c.in_ok-run_group.ensures.ok (rw c.place-from.ensures at c.in_ok-run_group.ensures.counts) in
    let may = may_run_on P L g.W.Printer.allows c.args.run.form c.args.run.at_refusal c.args.script.now h.0 c.args.engine.now c.run_group.new.engine c.run_group.new.report (g.W.Printer.contents c.args.output.now) (g.W.Printer.contents c.run_group.new.output) now c.requires.may in
    record { may = may_close P L g.W.Printer.allows c.args.run.form c.args.run.at_refusal h.0 c.run_group.new.engine c.run_group.new.report.accepted (g.W.Printer.contents c.run_group.new.output) may h.2.2 }

pub returns-then-eq : goal.returns-then-eq
returns-then-eq g c =
    let P = g.E.Engine.promise in
    let L = g.met.E.Engine.laws in
    let group = c.gather-commands.result.group.items in
    let h : (mid : Records) × Gathers (P.state c.groups.engine) c.groups.script mid group × Takes mid (fields_of c.gather-commands.new.row) c.gather-commands.new.script = rw c.in-Record.is at c.gather-commands.ensures.behind in
    let settled : P.settled c.groups.engine → P.settled c.gather-commands.new.engine = c.gather-commands.ensures.settled (rw c.in-Record.is tt) in
    let now : Progress P c.args.run.form c.args.run.at_refusal c.args.script.now h.0 c.args.engine.now c.run_group.new.engine c.run_group.new.report (g.W.Printer.contents c.args.output.now) (g.W.Printer.contents c.run_group.new.output) =
    group_runs P c.args.run.form c.args.run.at_refusal L c.args.script.now c.groups.script h.0 c.args.engine.now c.groups.engine c.gather-commands.new.engine c.run_group.new.engine c.groups.report c.run_group.new.report
    c.gather-commands.result.group.items (g.W.Printer.contents c.args.output.now) (g.W.Printer.contents c.groups.output) (g.W.Printer.contents c.run_group.new.output) c.groups.invariant h.1 (may_share c.args.run.at_refusal c.gather-commands.result.group.items c.together-most.result c.gather-commands.ensures.few c.together-most.ensures.ends) c.gather-commands.ensures.same settled
    c.in_ok-run_group.ensures.ok (rw c.place-from.ensures at c.in_ok-run_group.ensures.counts) in
    let ends : c.args.run.at_refusal ≡ End = search rules in
    let there : is_some c.in_ok-why-in-Record.why ≡ true = search rules in
    let (f, why) = some_of c.in_ok-why-in-Record.why there in
    let top = le-max_left c.args.run.batch c.args.run.group in
    let some : 1 ≤ max c.args.run.batch c.args.run.group = omega (arith, top, c.args.run.some) in
    row_ends P c.args.run.form c.args.run.at_refusal L some c.args.script.now h.0 c.gather-commands.new.script c.args.engine.now c.run_group.new.engine c.run_row.new.engine c.close.new.engine c.run_group.new.report c.note.new.self
    c.run_row.new.accepted (fields_of c.gather-commands.new.row) f (g.W.Printer.contents c.args.output.now) (g.W.Printer.contents c.run_group.new.output) (g.W.Printer.contents c.run_row.new.output) (g.W.Printer.contents c.close.new.output)
    c.gather-commands.new.script.failed c.close.result now h.2 ends (rw why at c.in_ok-why-in-Record.ensures.done) (rw (c.place-at.ensures, why) at c.note.ensures) c.close.ensures.ok c.close.ensures.settled c.close.ensures.same c.close.ensures.err

pub close-requires : goal.close-requires
close-requires g c =
    let P = g.E.Engine.promise in
    let L = g.met.E.Engine.laws in
    let group = c.gather-commands.result.group.items in
    let h : (mid : Records) × Gathers (P.state c.groups.engine) c.groups.script mid group × Takes mid (fields_of c.gather-commands.new.row) c.gather-commands.new.script = rw c.in-Record.is at c.gather-commands.ensures.behind in
    let settled : P.settled c.groups.engine → P.settled c.gather-commands.new.engine = c.gather-commands.ensures.settled (rw c.in-Record.is tt) in
    let now : Progress P c.args.run.form c.args.run.at_refusal c.args.script.now h.0 c.args.engine.now c.run_group.new.engine c.run_group.new.report (g.W.Printer.contents c.args.output.now) (g.W.Printer.contents c.run_group.new.output) =
    group_runs P c.args.run.form c.args.run.at_refusal L c.args.script.now c.groups.script h.0 c.args.engine.now c.groups.engine c.gather-commands.new.engine c.run_group.new.engine c.groups.report c.run_group.new.report
    c.gather-commands.result.group.items (g.W.Printer.contents c.args.output.now) (g.W.Printer.contents c.groups.output) (g.W.Printer.contents c.run_group.new.output) c.groups.invariant h.1 (may_share c.args.run.at_refusal c.gather-commands.result.group.items c.together-most.result c.gather-commands.ensures.few c.together-most.ensures.ends) c.gather-commands.ensures.same settled
    c.in_ok-run_group.ensures.ok (rw c.place-from.ensures at c.in_ok-run_group.ensures.counts) in
    let ends : c.args.run.at_refusal ≡ End = search rules in
    let there : is_some c.in_ok-why-in-Record.why ≡ true = search rules in
    let (f, why) = some_of c.in_ok-why-in-Record.why there in
    let x = c.in_ok-why-in-Record.ensures.done in
    let may = may_run_on P L g.W.Printer.allows c.args.run.form c.args.run.at_refusal c.args.script.now h.0 c.args.engine.now c.run_group.new.engine c.run_group.new.report (g.W.Printer.contents c.args.output.now)
    (g.W.Printer.contents c.run_group.new.output) now c.requires.may in
    record {
      may = may_end P L g.W.Printer.allows c.args.run.form c.args.run.at_refusal h.0 c.gather-commands.new.script (fields_of c.gather-commands.new.row) x.verb f c.run_group.new.engine c.run_row.new.engine c.run_group.new.report.accepted
          c.run_row.new.accepted (g.W.Printer.contents c.run_group.new.output) (g.W.Printer.contents c.run_row.new.output) may h.2 x.means ends (sym x.refused ∙ why) x.carried x.counts;
    }

pub note-requires : goal.note-requires
note-requires g c =
    let P = g.E.Engine.promise in
    let L = g.met.E.Engine.laws in
    let group = c.gather-commands.result.group.items in
    let h : (mid : Records) × Gathers (P.state c.groups.engine) c.groups.script mid group × Takes mid (fields_of c.gather-commands.new.row) c.gather-commands.new.script = rw c.in-Record.is at c.gather-commands.ensures.behind in
    let settled : P.settled c.groups.engine → P.settled c.gather-commands.new.engine = c.gather-commands.ensures.settled (rw c.in-Record.is tt) in
    let now : Progress P c.args.run.form c.args.run.at_refusal c.args.script.now h.0 c.args.engine.now c.run_group.new.engine c.run_group.new.report (g.W.Printer.contents c.args.output.now) (g.W.Printer.contents c.run_group.new.output) =
    group_runs P c.args.run.form c.args.run.at_refusal L c.args.script.now c.groups.script h.0 c.args.engine.now c.groups.engine c.gather-commands.new.engine c.run_group.new.engine c.groups.report c.run_group.new.report
    c.gather-commands.result.group.items (g.W.Printer.contents c.args.output.now) (g.W.Printer.contents c.groups.output) (g.W.Printer.contents c.run_group.new.output) c.groups.invariant h.1 (may_share c.args.run.at_refusal c.gather-commands.result.group.items c.together-most.result c.gather-commands.ensures.few c.together-most.ensures.ends) c.gather-commands.ensures.same settled
    c.in_ok-run_group.ensures.ok (rw c.place-from.ensures at c.in_ok-run_group.ensures.counts) in
    let refused = now.refused in
    let few = now.few in
    let next = h.2.0 in
    record { room = omega (arith, refused, few, next, c.place-at.ensures) }

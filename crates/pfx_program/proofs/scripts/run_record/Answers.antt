use Rattle.std.proofs.Common.{rules, ◌≡◌, true}
use Rattle.csv.specs.Records.{fields_of}
use Rattle.pfx_program_script.specs.Records.{Takes}
use Rattle.pfx_program.specs.declared.report.AtRefusal.TheVariants.{GoOn}
use Rattle.pfx_program.proofs.PrintLemmas.{may_row}
use Rattle.pfx_program.proofs.scripts.run_record.Goals as goal

pub run_row-requires-clause-may : goal.run_row-requires-clause-may
run_row-requires-clause-may g c =
    let there : c.in_ok-next.field-0 ≡ true = search rules in
    let took : Takes c.args.script.now (fields_of c.next.new.row) c.next.new.self = rw there at c.in_ok-next.ensures.reads in
    λ verb means. may_row g.E.Engine.promise g.met.E.Engine.laws g.W.Printer.allows c.args.run.form GoOn c.args.script.now c.next.new.self (fields_of c.next.new.row) verb c.args.engine.now c.args.accepted.now
    (g.W.Printer.contents c.args.output.now) c.requires.may took means

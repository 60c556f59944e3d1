use Rattle.std.proofs.Common.{rules, ◌≡◌, Err, arith, take, drop, ◌+◌, length, subst, sym, ap}
use Rattle.std.proofs.lemmas.List.{length-take-le}
use Rattle.pfx_program.proofs.GroupLemmas.{added_more, count_small, one_accepted, one_refused, refusals_small, told_fail, told_more}
use Rattle.pfx_program.proofs.groups.put_told.Goals.{in-Ok+in_ok-put_reply-in-Ok, in-Err+in_ok-why-in-Err}
use Rattle.pfx_program.proofs.PrintLemmas.{next_split}
use Rattle.pfx_fault.specs.declared.refusals.Fault.{Fault}
use Rattle.pfx_program.specs.Answers.{refused_line}
use Rattle.pfx_program.specs.Groups.{told_line}
use Rattle.pfx_store_engine.specs.Sharing.{Told}
use Rattle.pfx_program.proofs.groups.put_told.Goals as goal

pub returns-in_err-put_reply-in-Ok-clause-err : goal.returns-in_err-put_reply-in-Ok-clause-err
returns-in_err-put_reply-in-Ok-clause-err g c =
    let is : c.from_residual.result ≡ Err c.in_err-put_reply-in-Ok.field-0.0 = search rules in
    rw is (told_fail c.args.form c.args.told.now c.loop-entry.entry-index c.entry-item.result (g.W.Printer.contents c.args.output.now) (g.W.Printer.contents c.loop-entry.output) (g.W.Printer.contents c.put_reply.new.output)
    c.in_err-put_reply-in-Ok.field-0.0 c.loop-entry-test.true c.entry-item.is c.loop-entry.invariant.written (search rules))

pub returns-in_err-why-in-Err-clause-err : goal.returns-in_err-why-in-Err-clause-err
returns-in_err-why-in-Err-clause-err g c =
    let is : c.from_residual-in_err-why-in-Err.result ≡ Err c.in_err-why-in-Err.field-0.0 = search rules in
    rw is (told_fail c.args.form c.args.told.now c.loop-entry.entry-index c.entry-item.result (g.W.Printer.contents c.args.output.now) (g.W.Printer.contents c.loop-entry.output) (g.W.Printer.contents c.refuse.new.output)
    c.in_err-why-in-Err.field-0.0 c.loop-entry-test.true c.entry-item.is c.loop-entry.invariant.written (search rules))

pub loop-entry-preserved : goal.loop-entry-preserved
loop-entry-preserved g c =
    let told = c.args.told.now in
    let i = c.loop-entry.entry-index in
    let x = c.entry-item.result in
    let kept = c.loop-entry.invariant in
    let place = kept.place in
    elim c.match-entry.branch [
      | in-Ok+in_ok-put_reply-in-Ok w ↦
          (let more = w.report-is in
          record {
            written = rw w.output-is (told_more c.args.form told i x (g.W.Printer.contents c.args.output.now) (g.W.Printer.contents c.loop-entry.output) (g.W.Printer.contents w.put_reply.new.output) c.loop-entry-test.true c.entry-item.is
                kept.written (search rules));
            place = omega (arith, place);
            added = added_more c.args.from told i x c.args.report.now c.loop-entry.report c.match-entry.report c.loop-entry-test.true c.entry-item.is kept.added
                (one_accepted (c.args.from + i + 1) x c.loop-entry.report c.match-entry.report w.in-Ok.is (ap (λ r. r.accepted) more) (ap (λ r. r.refused) more) (ap (λ r. r.first) more));
          })
      | in-Err+in_ok-why-in-Err w ↦
          (let at : c.loop-entry.at + 1 ≡ c.args.from + i + 1 = omega (arith, place) in
          record {
            written = rw w.output-is (told_more c.args.form told i x (g.W.Printer.contents c.args.output.now) (g.W.Printer.contents c.loop-entry.output) (g.W.Printer.contents w.refuse.new.output) c.loop-entry-test.true c.entry-item.is
                kept.written (search rules));
            place = omega (arith, place);
            added = rw w.report-is (added_more c.args.from told i x c.args.report.now c.loop-entry.report w.note.new.self c.loop-entry-test.true c.entry-item.is kept.added
                (one_refused (c.args.from + i + 1) x c.loop-entry.report w.note.new.self w.in-Err.is (search rules)));
          })
    ]

pub put_reply-requires : goal.put_reply-requires
put_reply-requires g c =
    let told = c.args.told.now in
    let i = c.loop-entry.entry-index in
    let x = c.entry-item.result in
    let now = g.W.Printer.contents c.loop-entry.output in
    record {
      allowed = subst (λ (y : Told). g.W.Printer.allows c.args.engine.now now (told_line c.args.form y)) c.in-Ok.is
          (c.requires.may (take i told) x (drop (i + 1) told) (next_split told i x c.loop-entry-test.true c.entry-item.is) now c.loop-entry.invariant.written);
    }

pub refuse-requires : goal.refuse-requires
refuse-requires g c =
    let told = c.args.told.now in
    let i = c.loop-entry.entry-index in
    let x = c.entry-item.result in
    let now = g.W.Printer.contents c.loop-entry.output in
    record {
      allowed = subst (λ (f : Fault). g.W.Printer.allows c.args.engine.now now (refused_line c.args.form f)) (sym c.machine_fault.ensures)
          (subst (λ (y : Told). g.W.Printer.allows c.args.engine.now now (told_line c.args.form y)) c.in-Err.is
          (c.requires.may (take i told) x (drop (i + 1) told) (next_split told i x c.loop-entry-test.true c.entry-item.is) now c.loop-entry.invariant.written));
    }

pub note-requires : goal.note-requires
note-requires g c =
    let told = c.args.told.now in
    let i = c.loop-entry.entry-index in
    let kept = c.loop-entry.invariant in
    let place = kept.place in
    let refused = kept.added.refused in
    let within = c.loop-entry-test.true in
    let long : length (take i told) ≡ i = length-take-le i told (omega (arith, within)) in
    let few = refusals_small (c.args.from + 1) (take i told) in
    let least = c.requires.few in
    record { room = omega (arith, place, refused, long, few, least) }

pub overflow_add-report : goal.overflow_add-report
overflow_add-report g c =
    let told = c.args.told.now in
    let i = c.loop-entry.entry-index in
    let kept = c.loop-entry.invariant in
    let accepted = kept.added.accepted in
    let within = c.loop-entry-test.true in
    let long : length (take i told) ≡ i = length-take-le i told (omega (arith, within)) in
    let few = count_small (take i told) in
    let room = c.requires.room in
    omega (arith, accepted, long, few, room, within)

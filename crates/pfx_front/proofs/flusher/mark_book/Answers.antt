use Rattle.std.proofs.Common.{◌≡◌, ◌≤◌, ◌+◌, ◌++◌, ◌∷◌, [], ℕ, List, length, Some, refl, sym, ap, ◌∙◌, subst}
use Rattle.std.specs.Prelude.{take}
use Rattle.std.proofs.lemmas.Grind.{merely}
use Rattle.std.proofs.lemmas.Option.{same_Some}
use Rattle.pfx_front_board.specs.Word.{records_of as records_of_batches}
use Rattle.pfx_book.specs.Notes.{Legal, Noted, commands_of, records_in}
use Rattle.pfx_book.specs.Register.{Register}
use Rattle.pfx_book.specs.declared.note.Note.TheVariants.{Marked}
use Rattle.pfx_machine.specs.Sessions.{IsAcceptable}
use Rattle.pfx_record_redo.specs.Applying.{applied}
use Rattle.pfx_record_redo.specs.Recording.{records_of}
use Rattle.pfx_front.specs.Lasting.{AreNoted}
use Rattle.pfx_front.proofs.Losses.{none_of}
use Rattle.pfx_front.proofs.Lasting.{is_last, lasting, marked_too}
use Rattle.pfx_front.proofs.Steps.{records_still}
use Rattle.pfx_front.proofs.flusher.mark_book.Goals as goal

pub new-durable-requires-clause-durable : goal.new-durable-requires-clause-durable
new-durable-requires-clause-durable g c =
    let K = g.J.Job.kind in
    let start = g.B.Named.start in
    let e = Marked c.args.mark.number c.args.mark.clock in
    let leads : applied K start (records_of_batches c.args.word) ≡ Some c.args.store.now.state =
    ap (applied K start) (c.requires.taken ∙ sym (records_still c.args.share.now (c.args.share.now ++ e ∷ []) e refl refl)) ∙ c.requires.step.state in
    c.moment_of-moment.ensures.durable c.args.word (subst (λ o. applied K o (records_of_batches c.args.word) ≡ Some c.args.store.now.state) (sym c.requires.origin) leads)

pub new-durable-requires-clause-lasting : goal.new-durable-requires-clause-lasting
new-durable-requires-clause-lasting g c =
    let K = g.J.Job.kind in
    let start = g.B.Named.start in
    let r = c.settled.new.self in
    let e = Marked c.args.mark.number c.args.mark.clock in
    let notes = c.args.share.now ++ e ∷ [] in
    let still = records_still c.args.share.now notes e refl refl in
    let commands = c.legal.ensures.commands in
    merely (lasting K g.met.J.Job.laws start g.B.Charted.image g.B.Charted.clock g.B.Charted.failures g.B.Charted.held notes c.args.store.now.file.broken c.args.store.now.state
    (g.D.Disk.view c.args.store.now.file.disk) c.requires.step c.moment_of-moment.result c.moment_of-moment.ensures.honest c.moment_of-moment.ensures.since
    r.history c.legal.ensures.legal c.legal.ensures.start (subst (IsAcceptable K start) commands c.legal.ensures.accepted) r.session.taken
    (subst (λ l. r.session.taken ≤ length l) commands c.legal.ensures.taken)
    (still ∙ c.settled.ensures.records ∙ ap (λ q. records_of K start (take q.session.taken q.session.accepted)) (sym c.settled.ensures.same.0)
    ∙ ap (λ l. records_of K start (take r.session.taken l)) commands)
    c.marked.result c.args.word
    (marked_too c.args.marking.now c.marked.result c.args.share.now c.args.mark (c.marked.ensures ∙ c.if-not-add.ensures refl) c.requires.noted)
    (c.requires.taken ∙ sym still))

pub new-durable-requires-clause-last : goal.new-durable-requires-clause-last
new-durable-requires-clause-last g c mark is =
    merely (subst (λ m. Noted m c.marked.result) (same_Some c.args.mark mark is) (subst (Noted c.args.mark) (sym (c.marked.ensures ∙ c.if-not-add.ensures refl)) (is_last c.args.marking.now c.args.mark)))

pub mark-requires-clause-number : goal.mark-requires-clause-number
mark-requires-clause-number g c = c.requires.number ∙ ap (λ n. g.B.Named.start.number + length (records_in n)) (sym c.settled.ensures.same.1)

pub mark-requires-clause-goes_on : goal.mark-requires-clause-goes_on
mark-requires-clause-goes_on g c =
    ap (λ (r : Register g.row.J.Denot). r.failure) c.settled.ensures.same.0 ∙ none_of _ c.args.share.now c.settled.ensures.failed c.requires.unfailed

pub returns-clause-noted : goal.returns-clause-noted
returns-clause-noted g c =
    let before = subst (AreNoted c.args.marking.now) (sym c.settled.ensures.same.1) c.requires.noted in
    subst (AreNoted c.add.new.self) (sym c.mark.ensures.noted) (marked_too c.args.marking.now c.add.new.self c.settled.new.share c.args.mark (c.if-not-add.ensures refl) before)

use Rattle.std.specs.Prelude.{[], ◌≡◌, Some}
use Rattle.std.proofs.Common.{◌∙◌, subst, rules, arith}
use Rattle.std.proofs.lemmas.Grind.{merely}
use Rattle.pfx_book.specs.Notes.{Noted}
use Rattle.pfx_front_board.specs.Word.{records_of}
use Rattle.pfx_record_redo.specs.Applying.{applied}
use Rattle.pfx_front.proofs.start.outfit_of.Goals as goal

pub new-durable-requires-clause-lasting : goal.new-durable-requires-clause-lasting
new-durable-requires-clause-lasting g c =
    let none : records_of c.again-word.result ≡ [] = search rules in
    let unmarked : c.new-marking.result ≡ [] = search rules in
    merely (record {
      entries = [];
      legal = tt;
      published = (0, omega arith, none);
      keeps = λ held mark is. absurd (subst (Noted mark) (c.marked.ensures ∙ unmarked) is);
    })

pub new-durable-requires-clause-durable : goal.new-durable-requires-clause-durable
new-durable-requires-clause-durable g c =
    let leads : applied g.J.Job.kind g.B.Begun.origin (records_of c.again-word.result) ≡ Some c.args.store.now.state = search rules in
    c.moment_of.ensures.durable c.again-word.result leads

use Rattle.std.proofs.Common.{◌≡◌, ◌++◌, ◌∷◌, [], ap, sym, ◌∙◌, subst, arith, rules}
use Rattle.std.proofs.lemmas.List.{append-nil}
use Rattle.left_right.specs.Handles.{published, pending}
use Rattle.std.specs.Prelude.{Some}
use Rattle.pfx_record_redo.specs.Applying.{applied}
use Rattle.pfx_record_redo.proofs.States.{applied_behind}
use Rattle.pfx_front_board.specs.Publisher.{Published}
use Rattle.pfx_front_board.specs.Word.{records_of}
use Rattle.pfx_front_board.proofs.publisher.BoardWriter+J+B+Shown+J+B+R.publish.Goals as goal

pub extend-requires : goal.extend-requires
extend-requires g c =
    let K = g.J.Job.kind in
    let o = g.B.Begun.origin in
    let batch = c.args.batch.now in
    let same = ap (λ (v : Published g.row.J.Denot). v.batches) c.self.view_is in
    let leads = subst (λ w. applied K o (records_of (w ++ batch ∷ [])) ≡ Some c.args.state.now) (sym same) c.requires.leads in
    let behind = applied_behind K o c.args.state.now (records_of (c.self.inside.word ++ batch ∷ [])) leads in
    record { room = omega (arith, behind.number, c.number-number.ensures.state.number) }

pub invariant_of-self-2 : goal.invariant_of-self-2
invariant_of-self-2 g c =
    let none : pending c.publish.new.self ≡ [] = search rules in
    let same : published c.publish.new.self ≡ c.extend.new.self = search rules in
    (none, ([], append-nil (published c.publish.new.self) ∙ same))

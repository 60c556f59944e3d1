use Rattle.std.proofs.Common.{◌≡◌, ◌+◌, ◌∙◌, ◌∷◌, ◌++◌, [], map, ap₂, sym, subst, arith}
use Rattle.std.specs.List.{All}
use Rattle.std.proofs.lemmas.List.Elements.{All-push}
use Rattle.std.proofs.lemmas.List.FromFn.{map-range_with_len_more}
use Rattle.pfx_record.specs.Records.{tasks_of}
use Rattle.pfx_replay.specs.Stated.{plain_of}
use Rattle.pfx_replay_totals.specs.Kept.{IsShare}
use Rattle.pfx_replay_totals.specs.States.{share_in}
use Rattle.pfx_replay_totals.proofs.states.slot_in.Goals as goal

pub loop-task-preserved : goal.loop-task-preserved
loop-task-preserved g c =
    let f = share_in g.J.Job.kind (plain_of c.args.state.now) (tasks_of c.args.row.now) in
    let x = c.loop-task.task in
    record {
      shares = c.in_ok-push.ensures.items ∙ ap₂ (λ ss s. ss ++ s ∷ []) c.loop-task.invariant.shares c.share_in.ensures.share ∙ sym (map-range_with_len_more f 0 x x (omega arith));
      kept = subst (All IsShare) (sym c.in_ok-push.ensures.items) (All-push IsShare c.loop-task.shares.items c.share_in.result c.loop-task.invariant.kept c.share_in.ensures.kept);
    }

use Rattle.std.proofs.Common.{◌≡◌, ◌+◌, ◌∙◌, ◌<◌, ◌∷◌, ◌++◌, [], map, length, ap, ap₂, sym, subst, arith, rules}
use Rattle.std.specs.List.{All}
use Rattle.std.proofs.lemmas.List.{map-append, get_or_default}
use Rattle.std.proofs.lemmas.List.Elements.{All-push}
use Rattle.std.proofs.lemmas.List.FromFn.{map-range_with_len_more}
use Rattle.pfx_replay_totals.specs.Adding.{begun}
use Rattle.pfx_replay_totals.specs.Figures.{figures, figures_of}
use Rattle.pfx_replay_totals.specs.Slots.{no_share, share_of, slot_of}
use Rattle.pfx_replay_totals.specs.Windows.{alone}
use Rattle.pfx_replay_totals.proofs.Gathering.{begun_is}
use Rattle.pfx_replay_totals.proofs.window.Window.begin.Goals as goal

pub loop-task-preserved : goal.loop-task-preserved
loop-task-preserved c =
    let s = slot_of c.args.slot.now in
    let x = c.loop-task.task in
    let f = figures_of (alone s) in
    let within : x < length s.shares = search rules in
    let share : c.index.result.now ≡ share_of s x = c.index.ensures ∙ get_or_default s.shares x c.index.result.now no_share within in
    let is : figures c.begin.result ≡ f x = c.begin.ensures ∙ ap (begun s.at x) share ∙ begun_is s x in
    record {
      totals = ap (map figures) c.in_ok-push.ensures.items ∙ map-append figures c.loop-task.totals.items (c.begin.result ∷ []) ∙ ap₂ (λ fs g. fs ++ g ∷ []) c.loop-task.invariant.totals is
          ∙ sym (map-range_with_len_more f 0 x x (omega arith));
      ends = subst (All (λ t. t.to ≡ s.at + 1)) (sym c.in_ok-push.ensures.items)
          (All-push (λ t. t.to ≡ s.at + 1) c.loop-task.totals.items c.begin.result c.loop-task.invariant.ends (ap (λ g. g.to) c.begin.ensures));
    }

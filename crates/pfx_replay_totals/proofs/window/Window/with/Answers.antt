use Rattle.std.proofs.Common.{◌≡◌, ◌≤◌, ◌+◌, ◌∙◌, ◌<◌, ◌∷◌, ◌++◌, [], map, length, take, get_or, ap, ap₂, sym, subst, arith, rules, length-take, refl}
use Rattle.std.specs.List.{All}
use Rattle.std.proofs.lemmas.List.{map-append, get_or_default, take_more, take_all, length-map}
use Rattle.std.proofs.lemmas.List.Elements.{All-push, All-nil}
use Rattle.pfx_replay_totals.specs.Adding.{more}
use Rattle.pfx_replay_totals.specs.Figures.{figures, figures_of}
use Rattle.pfx_replay_totals.specs.Slots.{no_share, share_of, slot_of}
use Rattle.pfx_replay_totals.specs.Windows.{alone}
use Rattle.pfx_replay_totals.proofs.Gathering.{mores, mores_end, all_more, end_more}
use Rattle.pfx_replay_totals.proofs.window.Window.with.Goals as goal

pub loop-task-init : goal.loop-task-init
loop-task-init c = record {
  totals = ap (map figures) c.in_ok-totals.ensures.items;
  ends = subst (All (λ t. t.to ≡ c.args.self.now.to + 1)) (sym c.in_ok-totals.ensures.items) (All-nil (λ t. t.to ≡ c.args.self.now.to + 1));
}

pub loop-task-preserved : goal.loop-task-preserved
loop-task-preserved c =
    let s = slot_of c.args.slot.now in
    let x = c.loop-task.task in
    let old = c.args.self.now.totals.items in
    let t = c.index.result.now in
    let within : x < length old = search rules in
    let is : figures c.with.result ≡ more (figures t) (share_of s x) = c.with.ensures ∙ ap (more (figures t)) c.share_of.ensures in
    let front = map figures (take x old) in
    let long : 0 + length front ≡ x = omega (arith, length-map (take x old) figures, length-take x old, within) in
    let next : map figures (take (x + 1) old) ≡ front ++ figures t ∷ [] = ap (map figures) (take_more old x t within ∙ ap (λ u. take x old ++ u ∷ []) (sym c.index.ensures)) ∙ map-append figures (take x old) (t ∷ []) in
    let to_was : t.to ≡ c.args.self.now.to = search (rules, c.args.self.now.ends) in
    record {
      totals = ap (map figures) c.in_ok-push.ensures.items ∙ map-append figures c.loop-task.totals.items (c.with.result ∷ []) ∙ ap₂ (λ fs g. fs ++ g ∷ []) c.loop-task.invariant.totals is
          ∙ sym (ap (mores s 0) next ∙ mores_end s 0 front (figures t) ∙ ap (λ y. mores s 0 front ++ more (figures t) (share_of s y) ∷ []) long);
      ends = subst (All (λ t. t.to ≡ c.args.self.now.to + 1)) (sym c.in_ok-push.ensures.items)
          (All-push (λ t. t.to ≡ c.args.self.now.to + 1) c.loop-task.totals.items c.with.result c.loop-task.invariant.ends (ap (λ g. g.to) c.with.ensures ∙ ap (λ n. n + 1) to_was));
    }

pub returns : goal.returns
returns c w h =
    let s = slot_of c.args.slot.now in
    let old = c.args.self.now.totals.items in
    let all : length old ≤ c.loop-task.task = search rules in
    record {
      from = h.from;
      to = ap (λ n. n + 1) (c.requires ∙ h.to) ∙ end_more w s;
      since = h.since;
      totals = c.loop-task.invariant.totals ∙ ap (λ ts. mores s 0 (map figures ts)) (take_all c.loop-task.task old all) ∙ ap (mores s 0) h.totals ∙ all_more w s;
    }

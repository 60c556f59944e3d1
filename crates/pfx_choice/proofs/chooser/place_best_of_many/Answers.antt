use Rattle.std.proofs.Common.{rules, ◌≡◌, ◌<◌, Some, arith, length}
use Rattle.std.proofs.lemmas.Fn.{always_returns_same}
use Rattle.std.proofs.lemmas.List.Elements.{All-head, All-tail}
use Rattle.pfx_choice.proofs.Picking.{ids_after, turned_round}
use Rattle.pfx_choice.proofs.chooser.place_best_of_many.Goals as goal

pub mark_best-requires : goal.mark_best-requires
mark_best-requires c =
    let s = c.select_nth_unstable_by_key-high in
    let n = length c.args.classes.now in
    let ids = ids_after n c.args.ranks.now s.result.2.now s.result.0.now s.result.1.now (turned_round c.args.ranks.now s.result.0.now s.result.2.now s.result.1.now s.ensures.permutation) c.requires.ids in
    record {
      last = All-head (λ q. q.id < n) s.result.1.now s.result.0.now ids;
      high = All-tail (λ q. q.id < n) s.result.1.now s.result.0.now ids;
    }

pub returns-then-k-gt0 : goal.returns-then-k-gt0
returns-then-k-gt0 c =
    let s = c.select_nth_unstable_by_key-high in
    let split = s.ensures.partitioned (λ r. record { 0 = r }) (always_returns_same _ (λ a r. r ≡ record { 0 = a.0.now }) _ (λ a r f k. search rules)) in
    record {
      pivot = Some s.result.1.now;
      best = record {
        low = s.result.2.now;
        high = s.result.0.now;
        same = turned_round c.args.ranks.now s.result.0.now s.result.2.now s.result.1.now s.ensures.permutation;
        size = omega (arith, s.ensures.front_len, c.if-k-gt0.true);
        split = (split.1, split.0);
      };
      long = c.mark_best.auto.classes;
      marks = c.mark_best.ensures;
    }

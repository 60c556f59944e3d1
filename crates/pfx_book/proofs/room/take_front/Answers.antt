use Rattle.std.specs.Prelude.{All, IsTrue, map}
use Rattle.std.proofs.Common.{◌≡◌, ◌<◌, ◌≤◌, ◌++◌, ◌∷◌, [], length, false, sym, ap, ◌∙◌, subst, arith, rules}
use Rattle.std.proofs.lemmas.List.{append_assoc}
use Rattle.std.specs.VecDeque.{deque_items}
use Rattle.pfx_record.specs.Records.{plain}
use Rattle.pfx_record.specs.declared.record.Record.{Record}
use Rattle.pfx_record_redo.specs.Applying.{is_common}
use Rattle.pfx_book.specs.Batching.{GoesFar, StopsAt}
use Rattle.pfx_book.proofs.Sharing.{alone_far, common_more, common_share, sixteen_far, stops_far}
use Rattle.pfx_book.proofs.Taking.{length_map}
use Rattle.pfx_book.proofs.room.take_front.Goals as goal

pub returns-in-None-clause-shared : goal.returns-in-None-clause-shared
returns-in-None-clause-shared g c = common_share c.loop-i.records.items c.loop-i.invariant.2

pub returns-clause-shared : goal.returns-clause-shared
returns-clause-shared g c = common_share c.loop-i.records.items c.loop-i.invariant.2

pub loop-i-preserved : goal.loop-i-preserved
loop-i-preserved g c =
    let x = c.in-Some-pop_common.record in
    let xs = c.loop-i.records.items in
    let split : deque_items c.loop-i.pending ≡ x ∷ deque_items c.pop_common.new.pending = c.in-Some-pop_common.ensures.split in
    let common = subst (λ (l : _). All (λ (entry : Record g.row.J.Denot). IsTrue (is_common (plain entry))) l) (sym c.push_reserved-in-Some-pop_common.ensures.items)
    (common_more xs x c.loop-i.invariant.2 c.in-Some-pop_common.ensures.common) in (
      c.loop-i.invariant.0 ∙ ap (λ l. xs ++ l) split ∙ sym (append_assoc xs (x ∷ []) (deque_items c.pop_common.new.pending))
          ∙ ap (λ l. l ++ deque_items c.pop_common.new.pending) (sym c.push_reserved-in-Some-pop_common.ensures.items),
      search rules,
      common,
      search rules,
      search rules,
    )

pub returns-then-alone-clause-far : goal.returns-then-alone-clause-far
returns-then-alone-clause-far g c =
    let x = plain c.in-Some.first in
    let rest = map plain (deque_items c.pop_front.new.self) in
    let new : is_common x ≡ false = search rules in
    let one : c.push_reserved.new.self.items ≡ c.in-Some.first ∷ [] = search rules in
    subst (λ (l : _). GoesFar (map plain l) rest) (sym one) (alone_far x rest new)

pub returns-in-None-clause-far : goal.returns-in-None-clause-far
returns-in-None-clause-far g c =
    let xs = c.loop-i.records.items in
    let rest = deque_items c.pop_common.new.pending in
    let long : length xs ≡ c.loop-i._i = c.loop-i.invariant.1 in
    let some : 1 ≤ c.loop-i._i = search rules in
    let stops : StopsAt (map plain rest) = subst (λ (l : _). StopsAt (map plain l)) c.in-None.ensures.split c.in-None.ensures.none in
    stops_far (map plain xs) (map plain rest) (omega (arith, long, some, length_map plain xs)) stops

pub returns-clause-far : goal.returns-clause-far
returns-clause-far g c =
    let xs = c.loop-i.records.items in
    let long : length xs ≡ 16 = search rules in
    sixteen_far (map plain xs) (map plain (deque_items c.loop-i.pending)) (omega (arith, long, length_map plain xs))

use Rattle.std.specs.Prelude.{Some, slice_get, slice_set, map, IsTrue, vec_capacity}
use Rattle.std.specs.VecDeque.{deque_items}
use Rattle.std.proofs.Common.{◌≡◌, ℕ, List, [], ◌∷◌, ◌++◌, ◌<◌, ◌+◌, ◌-◌, length, take, drop, refl, sym, ap, ◌∙◌, subst, arith, rules, length-append}
use Rattle.std.proofs.lemmas.List.{map-append}
use Rattle.pfx_machine.specs.Batches.{IsBatchable}
use Rattle.pfx_record.specs.Batches.{batch_fits}
use Rattle.pfx_record.specs.Records.{plain, Recorded}
use Rattle.pfx_book.specs.declared.note.Note.{Note}
use Rattle.pfx_book.specs.declared.note.Note.TheVariants.{Took}
use Rattle.pfx_book.specs.Notes.{GoesOn, IsRested, commands_of}
use Rattle.pfx_book.specs.Calls.{ReachesFar, next_records}
use Rattle.pfx_book.specs.Lines.{told}
use Rattle.pfx_book.specs.Batching.{real_for, width_behind}
use Rattle.pfx_book.specs.Kept.{Counts, IsKept}
use Rattle.pfx_book.specs.Register.{Register}
use Rattle.pfx_book.proofs.Merges.{some_is}
use Rattle.pfx_book.proofs.Keeping.{all_marked, all_taken, state_number}
use Rattle.pfx_book.proofs.Taking.{batchable_next, counts_take, enough, fits_next, goes_on, next_is, kept_take, length_map, nil_of, reaches}
use Rattle.pfx_book.proofs.book.Book.take_batch.Goals as goal

pub returns-then-is_empty-clause-err : goal.returns-then-is_empty-clause-err
returns-then-is_empty-clause-err g c =
    let s = c.self.inside in
    let K = g.J.Job.kind in
    let L = g.met.J.Job.laws in
    let B = g.B.Named.start in
    let xs = told K B [] s.history.items in
    let batch = map plain c.take_front-records.result.items in
    let rest = map plain (deque_items c.take_front-records.new.pending) in
    let split = ap (map plain) c.take_front-records.ensures.split ∙ map-append plain c.take_front-records.result.items (deque_items c.take_front-records.new.pending) in
    let h = subst (λ l. IsKept K B xs s.keeper s.passes s.state l s.taken s.marked s.clock s.failure) split c.self.invariant.0 in
    let none : length c.take_front-records.result.items ≡ 0 = search rules in
    let empty = nil_of c.take_front-records.result.items none in
    let gone = ap length (c.take_front-records.ensures.all empty) in
    let all = all_taken K B xs s.keeper s.passes s.state (batch ++ rest) s.taken s.marked s.clock s.failure h in
    let count : s.taken ≡ length (commands_of xs) = omega (arith, all, length-append batch rest, length_map plain c.take_front-records.result.items, none, length_map plain (deque_items c.take_front-records.new.pending), gone) in
    (subst (λ (v : Register g.row.J.Denot). v.session.taken ≡ length v.session.accepted) c.self.view_is count, c.self.view_is, refl)

pub overflow_sub-first : goal.overflow_sub-first
overflow_sub-first g c =
    let s = c.self.inside in
    let K = g.J.Job.kind in
    let L = g.met.J.Job.laws in
    let B = g.B.Named.start in
    let xs = told K B [] s.history.items in
    let batch = map plain c.take_front-records.result.items in
    let rest = map plain (deque_items c.take_front-records.new.pending) in
    let split = ap (map plain) c.take_front-records.ensures.split ∙ map-append plain c.take_front-records.result.items (deque_items c.take_front-records.new.pending) in
    let h = subst (λ l. IsKept K B xs s.keeper s.passes s.state l s.taken s.marked s.clock s.failure) split c.self.invariant.0 in
    let some = enough K L B xs s.keeper s.passes s.state batch rest s.taken s.marked s.clock s.failure h in
    let n : c.len-count.result ≡ length (deque_items s.pending) = search rules in
    let long = ap length split in
    let mapped = length_map plain (deque_items s.pending) in
    omega (arith, some, n, long, mapped, c.number.ensures.number)

pub overflow_add-taken : goal.overflow_add-taken
overflow_add-taken g c =
    let s = c.self.inside in
    let K = g.J.Job.kind in
    let L = g.met.J.Job.laws in
    let B = g.B.Named.start in
    let xs = told K B [] s.history.items in
    let batch = map plain c.take_front-records.result.items in
    let rest = map plain (deque_items c.take_front-records.new.pending) in
    let split = ap (map plain) c.take_front-records.ensures.split ∙ map-append plain c.take_front-records.result.items (deque_items c.take_front-records.new.pending) in
    let h = subst (λ l. IsKept K B xs s.keeper s.passes s.state l s.taken s.marked s.clock s.failure) split c.self.invariant.0 in
    let all = all_taken K B xs s.keeper s.passes s.state (batch ++ rest) s.taken s.marked s.clock s.failure h in
    let number = state_number K B xs s.keeper s.passes s.state (batch ++ rest) s.taken s.marked s.clock s.failure h in
    let more : c.len-more.result ≡ length c.take_front-records.result.items = search rules in
    omega (arith, all, number, more, c.take_front-records.ensures.few, c.number.ensures.state.number)

pub new-requires : goal.new-requires
new-requires g c =
    let s = c.self.inside in
    let K = g.J.Job.kind in
    let L = g.met.J.Job.laws in
    let B = g.B.Named.start in
    let xs = told K B [] s.history.items in
    let batch = map plain c.take_front-records.result.items in
    let rest = map plain (deque_items c.take_front-records.new.pending) in
    let split = ap (map plain) c.take_front-records.ensures.split ∙ map-append plain c.take_front-records.result.items (deque_items c.take_front-records.new.pending) in
    let h = subst (λ l. IsKept K B xs s.keeper s.passes s.state l s.taken s.marked s.clock s.failure) split c.self.invariant.0 in
    let some = enough K L B xs s.keeper s.passes s.state batch rest s.taken s.marked s.clock s.failure h in
    let n : c.len-count.result ≡ length (deque_items s.pending) = search rules in
    let long = ap length split in
    let mapped = length_map plain (deque_items s.pending) in
    let real : c.real_for-real.result ≡ real_for s.state.ledger.set.real batch = search rules in
    let share = c.take_front-records.ensures.shared in
    let same = some_is c.take_front-records.result c.in-Some.records (sym c.took_of.ensures ∙ c.in-Some.is) in
    let first = c.number.result - c.len-count.result + 1 in
    let more : 0 < length c.take_front-records.result.items = search rules in
    let taken = length_map plain c.take_front-records.result.items in
    let fit = fits_next K L B xs s.keeper s.passes s.state batch rest s.taken s.marked s.clock s.failure s.width c.real_for-real.result first s.began h c.self.invariant.2 real
    (omega (arith, some, n, long, mapped, c.number.ensures.number)) (omega (arith, more, taken)) (omega (arith, taken, c.take_front-records.ensures.few)) share in
    subst (λ v. IsTrue (batch_fits s.width c.real_for-real.result (record { first = first; records = map plain v.items }))) same fit

pub invariant_of-self-in-Some : goal.invariant_of-self-in-Some
invariant_of-self-in-Some g c =
    let s = c.self.inside in
    let K = g.J.Job.kind in
    let L = g.met.J.Job.laws in
    let B = g.B.Named.start in
    let xs = told K B [] s.history.items in
    let batch = map plain c.take_front-records.result.items in
    let rest = map plain (deque_items c.take_front-records.new.pending) in
    let split = ap (map plain) c.take_front-records.ensures.split ∙ map-append plain c.take_front-records.result.items (deque_items c.take_front-records.new.pending) in
    let h = subst (λ l. IsKept K B xs s.keeper s.passes s.state l s.taken s.marked s.clock s.failure) split c.self.invariant.0 in
    let mine = c.share.inside.token.1 in
    let at = subst (λ k. slice_get s.keeper k ≡ Some mine) c.share.invariant c.note.ensures.known in
    let first = c.number.result - c.len-count.result + 1 in
    let more : c.len-more.result ≡ length c.take_front-records.result.items = search rules in
    let count : s.taken + length batch ≡ s.taken + c.len-more.result = omega (arith, more, length_map plain c.take_front-records.result.items) in
    let width : c.width_behind-later.result ≡ width_behind s.width batch = search rules in
    let kept = kept_take K L B xs s.keeper s.passes s.state batch rest s.taken s.marked s.clock s.failure mine first c.take_front-records.result h at refl in (
      subst (λ (q : List (List (Note g.row.J.Denot)) × ℕ). IsKept K B xs q.0 s.passes s.state rest q.1 s.marked s.clock s.failure)
          (λ i. (sym (c.note.ensures.keeper ∙ ap (λ k. slice_set s.keeper k (mine ++ Took first c.take_front-records.result ∷ [])) c.share.invariant) i, count i)) kept,
      c.self.invariant.1,
      subst (λ (q : ℕ × ℕ). Counts K B (commands_of xs) s.began q.0 q.1) (λ i. (count i, sym width i))
          (counts_take K L B xs s.keeper s.passes s.state batch rest s.taken s.marked s.clock s.failure s.began s.width h c.self.invariant.2 c.take_front-records.ensures.shared),
      omega (arith, c.self.invariant.3, c.take_front-records.ensures.capacity),
    )

pub returns-in-Some-clause-taken : goal.returns-in-Some-clause-taken
returns-in-Some-clause-taken g c =
    let s = c.self.inside in
    let K = g.J.Job.kind in
    let L = g.met.J.Job.laws in
    let B = g.B.Named.start in
    let xs = told K B [] s.history.items in
    let batch = map plain c.take_front-records.result.items in
    let rest = map plain (deque_items c.take_front-records.new.pending) in
    let split = ap (map plain) c.take_front-records.ensures.split ∙ map-append plain c.take_front-records.result.items (deque_items c.take_front-records.new.pending) in
    let h = subst (λ l. IsKept K B xs s.keeper s.passes s.state l s.taken s.marked s.clock s.failure) split c.self.invariant.0 in
    let some = enough K L B xs s.keeper s.passes s.state batch rest s.taken s.marked s.clock s.failure h in
    let n : c.len-count.result ≡ length (deque_items s.pending) = search rules in
    let long = ap length split in
    let mapped = length_map plain (deque_items s.pending) in
    let real : c.real_for-real.result ≡ real_for s.state.ledger.set.real batch = search rules in
    let share = c.take_front-records.ensures.shared in
    let same = some_is c.take_front-records.result c.in-Some.records (sym c.took_of.ensures ∙ c.in-Some.is) in
    let first = c.number.result - c.len-count.result + 1 in
    let mine = c.share.inside.token.1 in
    let at = subst (λ k. slice_get s.keeper k ≡ Some mine) c.share.invariant c.note.ensures.known in
    let goes = goes_on K L B xs s.keeper s.passes s.state batch rest s.taken s.marked s.clock s.failure mine s.width c.real_for-real.result first s.began h at c.self.invariant.2 real
    (omega (arith, some, n, long, mapped, c.number.ensures.number)) in
    let records = same ∙ sym c.new.ensures.records in
    let next = next_is K L B xs s.keeper s.passes s.state batch rest s.taken s.marked s.clock s.failure h in
    let length_is = length_map plain c.take_front-records.result.items ∙ (λ i. length (records i).items) in
    record {
      event = search rules;
      noted = search rules;
      batchable = (let b = batchable_next K L B xs s.keeper s.passes s.state batch rest s.taken s.marked s.clock s.failure h share in
          subst (λ (q : ℕ × Register g.row.J.Denot). IsBatchable (take q.0 (drop q.1.session.taken q.1.session.accepted))) (λ i. (length_is i, c.self.view_is i)) b);
      far = (let f = reaches K L B xs s.keeper s.passes s.state batch rest s.taken s.marked s.clock s.failure h c.take_front-records.ensures.far in
          subst (λ (q : ℕ × Register g.row.J.Denot). ReachesFar (take q.0 (drop q.1.session.taken q.1.session.accepted)) (drop q.0 (drop q.1.session.taken q.1.session.accepted)))
          (λ i. (length_is i, c.self.view_is i)) f);
      commands = (λ i. map plain (sym records i).items) ∙ next ∙ (λ i. next_records K B (length_is i) (c.self.view_is i).session);
      rested = subst (λ (v : Register g.row.J.Denot). v.session.marked ≡ v.session.taken) c.self.view_is
          (all_marked K B xs s.keeper s.passes s.state (batch ++ rest) s.taken s.marked s.clock s.failure h mine at (subst (IsRested B.number) (sym c.share.view_is) c.requires.rested));
      next = subst (λ (q : List (Note g.row.J.Denot) × ℕ × ℕ × ℕ × List (Recorded g.row.J.Denot)). GoesOn K B q.0 q.1 q.2 q.3 q.4)
          (λ i. (c.share.view_is i, sym c.new.ensures.workers i, sym c.new.ensures.real i, sym c.new.ensures.first i, map plain (records i).items)) goes;
    }

pub returns-in-Some-clause-width : goal.returns-in-Some-clause-width
returns-in-Some-clause-width g c =
    let same = some_is c.take_front-records.result c.in-Some.records (sym c.took_of.ensures ∙ c.in-Some.is) in
    let records = same ∙ sym c.new.ensures.records in
    ap (λ v. vec_capacity v) (sym records) ∙ c.take_front-records.ensures.width

use Rattle.std.specs.Prelude.{Some, slice_get, map, take}
use Rattle.std.specs.VecDeque.{deque_items}
use Rattle.std.proofs.Common.{◌≡◌, ◌+◌, ℕ, List, [], length, sym, ap, ◌∙◌, subst}
use Rattle.pfx_record.specs.Records.{plain}
use Rattle.pfx_book.specs.declared.note.Note.{Note}
use Rattle.pfx_book.specs.declared.note.Note.TheVariants.{Marked}
use Rattle.pfx_book.specs.Notes.{Noted, AllBacked, records_in}
use Rattle.pfx_book.specs.Lines.{told}
use Rattle.pfx_book.specs.Kept.{HasFailed}
use Rattle.pfx_book.specs.Register.{Register}
use Rattle.pfx_book.proofs.Notes.{backed_entries}
use Rattle.pfx_record_redo.specs.Recording.{records_of}
use Rattle.pfx_book.proofs.Keeping.{flushed_is}
use Rattle.pfx_book.proofs.Taking.{taken_are}
use Rattle.pfx_book.proofs.book.Book.settled.Goals as goal

pub returns-clause-backed : goal.returns-clause-backed
returns-clause-backed g c =
    let s = c.self.inside in
    let K = g.J.Job.kind in
    let B = g.B.Named.start in
    let xs = told K B [] s.history.items in
    let mine = c.share.inside.token.1 in
    let h = c.self.invariant.0 in
    let at = subst (λ k. slice_get s.keeper k ≡ Some mine) c.share.invariant c.look.ensures.known in
    let known = flushed_is K B xs s.keeper s.passes s.state (map plain (deque_items s.pending)) s.taken s.marked s.clock s.failure mine h at ∙ c.share.view_is in
    let session = sym h.entries ∙ ap (λ (v : Register g.row.J.Denot). v.history) c.self.view_is in
    subst (λ (q : List (Note g.row.J.Denot) × List (ℕ × Note g.row.J.Denot)). AllBacked q.0 q.1) (λ i. (known i, session i)) (backed_entries h.flushed h.all h.is_marked.backed)

pub returns-clause-mark : goal.returns-clause-mark
returns-clause-mark g c =
    let s = c.self.inside in
    let K = g.J.Job.kind in
    let B = g.B.Named.start in
    let xs = told K B [] s.history.items in
    let mine = c.share.inside.token.1 in
    let h = c.self.invariant.0 in
    let at = subst (λ k. slice_get s.keeper k ≡ Some mine) c.share.invariant c.look.ensures.known in
    let known = flushed_is K B xs s.keeper s.passes s.state (map plain (deque_items s.pending)) s.taken s.marked s.clock s.failure mine h at ∙ c.share.view_is in
    subst (λ (q : List (Note g.row.J.Denot) × Register g.row.J.Denot). Noted (Marked (B.number + q.1.session.marked) q.1.session.marked_at) q.0) (λ i. (known i, c.self.view_is i)) h.is_marked.noted

pub returns-clause-taken : goal.returns-clause-taken
returns-clause-taken g c =
    let s = c.self.inside in
    let K = g.J.Job.kind in
    let B = g.B.Named.start in
    let xs = told K B [] s.history.items in
    let mine = c.share.inside.token.1 in
    let h = c.self.invariant.0 in
    let at = subst (λ k. slice_get s.keeper k ≡ Some mine) c.share.invariant c.look.ensures.known in
    let known = flushed_is K B xs s.keeper s.passes s.state (map plain (deque_items s.pending)) s.taken s.marked s.clock s.failure mine h at ∙ c.share.view_is in
    subst (λ (q : List (Note g.row.J.Denot) × Register g.row.J.Denot). q.1.session.taken ≡ length (records_in q.0)) (λ i. (known i, c.self.view_is i)) h.is_marked.taken_is

pub returns-clause-failed : goal.returns-clause-failed
returns-clause-failed g c =
    let s = c.self.inside in
    let K = g.J.Job.kind in
    let B = g.B.Named.start in
    let xs = told K B [] s.history.items in
    let mine = c.share.inside.token.1 in
    let h = c.self.invariant.0 in
    let at = subst (λ k. slice_get s.keeper k ≡ Some mine) c.share.invariant c.look.ensures.known in
    let known = flushed_is K B xs s.keeper s.passes s.state (map plain (deque_items s.pending)) s.taken s.marked s.clock s.failure mine h at ∙ c.share.view_is in
    subst (λ (q : List (Note g.row.J.Denot) × Register g.row.J.Denot). HasFailed q.1.failure q.0) (λ i. (known i, c.self.view_is i)) h.is_marked.failed

pub returns-clause-records : goal.returns-clause-records
returns-clause-records g c =
    let s = c.self.inside in
    let K = g.J.Job.kind in
    let B = g.B.Named.start in
    let xs = told K B [] s.history.items in
    let mine = c.share.inside.token.1 in
    let h = c.self.invariant.0 in
    let at = subst (λ k. slice_get s.keeper k ≡ Some mine) c.share.invariant c.look.ensures.known in
    let known = flushed_is K B xs s.keeper s.passes s.state (map plain (deque_items s.pending)) s.taken s.marked s.clock s.failure mine h at ∙ c.share.view_is in
    let are = taken_are K g.met.J.Job.laws B xs s.keeper s.passes s.state [] (map plain (deque_items s.pending)) s.taken s.marked s.clock s.failure h in
    subst (λ (q : List (Note g.row.J.Denot) × Register g.row.J.Denot). records_in q.0 ≡ records_of K B (take q.1.session.taken q.1.session.accepted)) (λ i. (known i, c.self.view_is i)) are

use Rattle.std.proofs.Common.{◌≡◌, ◌+◌, ℕ, List, None, refl, sym, ap, ◌∙◌, subst, inl, inr}
use Rattle.std.specs.Prelude.{◌⊎◌, ◌≢◌, map, length, take}
use Rattle.std.specs.Option.{is_some}
use Rattle.std.specs.Prelude.{Option}
use Rattle.pfx_fault.specs.declared.fields.Cause.{Cause}
use Rattle.std.proofs.lemmas.Bool.{false≢true}
use Rattle.pfx_record_redo.specs.Recording.{records_of}
use Rattle.pfx_book.specs.Kept.{HasFailed}
use Rattle.pfx_book.specs.Merging.{IsMerge}
use Rattle.pfx_book.specs.Notes.{Noted, AllBacked, answers_of}
use Rattle.pfx_book.specs.declared.note.Note.{Note}
use Rattle.pfx_book.specs.declared.note.Note.TheVariants.{Marked}
use Rattle.pfx_book.specs.Register.{Register}
use mathlib.Core.List.{IsPrefix}
use Rattle.pfx_front.specs.Closing.{AreTold, IsSeen}
use Rattle.pfx_front.proofs.Ends.{seen, stored, held, whole_still}
use Rattle.pfx_front.proofs.closing.is_ended.Goals.{else-is_none-via-then-is_none+else-not-is_settled, else-is_none-via-else-is_none}
use Rattle.pfx_front.proofs.closing.is_ended.Goals as goal

pub returns-clause-session : goal.returns-clause-session
returns-clause-session g c ended =
    let same = sym (c.settled.ensures.same.0 ∙ c.gathered.ensures.same.0) in
    record {
      legal = c.legal.ensures.legal;
      commands = c.legal.ensures.commands;
      merge =
          subst (λ (l : List (ℕ × List (Note g.row.J.Denot))). IsMerge (map (λ p. answers_of p.1) l) c.settled.new.self.history) (sym c.gathered.ensures.same.1)
          (subst (λ r. IsMerge (map (λ p. answers_of p.1) c.args.passes.now.items) r.history) same (c.if-not-gathered.ensures.merge refl));
    }

pub returns-clause-told : goal.returns-clause-told
returns-clause-told g c ended =
    let same = sym c.settled.ensures.same.0 in
    subst (λ (q : Option Cause × ℕ). AreTold q.0 q.1 c.gathered.new.passes.items)
    (λ i. (
      (c.failure-2.ensures ∙ ap (λ (r : Register g.row.J.Denot). r.failure) same) i,
      (c.marked.ensures ∙ ap (λ (r : Register g.row.J.Denot). g.B.Named.start.number + r.session.marked) same) i,
    ))
    (subst (λ (l : List (ℕ × List (Note g.row.J.Denot))). AreTold c.failure-2.result c.marked.result l) c.deref.ensures.value (c.if-not-are_told.ensures refl))

pub returns-clause-store : goal.returns-clause-store
returns-clause-store g c ended =
    let K = g.J.Job.kind in
    let start = g.B.Named.start in
    let store = g.S.BatchKeeper.kept c.args._keeper.now in
    let r = c.settled.new.self in
    let same = sym c.settled.ensures.same.0 in
    let over : (r.session.marked ≡ length r.session.accepted) ⊎ (r.failure ≢ None) =
    subst (λ q. (q.session.marked ≡ length q.session.accepted) ⊎ (q.failure ≢ None)) same
    (elim c.else-is_none.branch [
      | else-is_none-via-then-is_none+else-not-is_settled w ↦ inl (w.if-not-is_settled.ensures.0 refl)
      | else-is_none-via-else-is_none w ↦ inr (λ none. false≢true (sym (ap is_some (c.failure.ensures ∙ none)) ∙ w.if-is_none.ensures))
    ]) in
    stored K g.met.J.Job.laws start g.B.Charted.failures g.B.Charted.clock c.args.share.now (g.S.BatchKeeper.failed c.args._keeper.now) store.file.broken store.state (g.D.Disk.view store.file.disk)
    c.requires.behind
    r.session.accepted r.session.taken c.legal.ensures.start c.legal.ensures.accepted c.legal.ensures.taken
    (c.settled.ensures.records ∙ ap (λ q. records_of K start (take q.session.taken q.session.accepted)) same)
    r refl (subst (λ q. Noted (Marked (start.number + q.session.marked) q.session.marked_at) c.args.share.now) same c.settled.ensures.mark) over
    (subst (λ q. HasFailed q.failure c.args.share.now) same c.settled.ensures.failed)

pub returns-clause-images : goal.returns-clause-images
returns-clause-images g c ended honest =
    let K = g.J.Job.kind in
    let start = g.B.Named.start in
    let store = g.S.BatchKeeper.kept c.args._keeper.now in
    let r = c.settled.new.self in
    let same = sym c.settled.ensures.same.0 in
    held K g.met.J.Job.laws start g.B.Charted.failures g.B.Charted.clock c.args.share.now (g.S.BatchKeeper.failed c.args._keeper.now) store.file.broken store.state (g.D.Disk.view store.file.disk)
    c.requires.behind
    r.session.accepted r.session.taken c.legal.ensures.start c.legal.ensures.accepted c.legal.ensures.taken
    (c.settled.ensures.records ∙ ap (λ q. records_of K start (take q.session.taken q.session.accepted)) same)
    r refl (subst (λ q. AllBacked c.args.share.now q.history) same c.settled.ensures.backed) honest

pub returns-clause-whole : goal.returns-clause-whole
returns-clause-whole g c ended =
    let K = g.J.Job.kind in
    let start = g.B.Named.start in
    let store = g.S.BatchKeeper.kept c.args._keeper.now in
    let r = c.settled.new.self in
    let same = sym c.settled.ensures.same.0 in
    whole_still K g.met.J.Job.laws start g.B.Charted.failures g.B.Charted.clock c.args.share.now (g.S.BatchKeeper.failed c.args._keeper.now) store.file.broken store.state
    (g.D.Disk.view store.file.disk) c.requires.behind
    r.session.accepted r.session.taken c.legal.ensures.start c.legal.ensures.accepted c.legal.ensures.taken
    (c.settled.ensures.records ∙ ap (λ q. records_of K start (take q.session.taken q.session.accepted)) same)
    r refl (subst (λ q. HasFailed q.failure c.args.share.now) same c.settled.ensures.failed)

pub returns-clause-readers : goal.returns-clause-readers
returns-clause-readers g c ended =
    let looked = c.look_all.ensures ended in
    record {
      readers = looked.0;
      answers = looked.1;
      each = λ k was is before now.
          let K = g.J.Job.kind in
          let start = g.B.Named.start in
          let r = c.settled.new.self in
          let s = (g.S.BatchKeeper.kept c.args._keeper.now).state in
          let h = looked.2 k was is before now in
          let begins = subst (λ w. IsPrefix w c.args.publisher.now.batches) (sym c.published.ensures.shown) c.published.ensures.durable in
          let same = sym c.settled.ensures.same.0 in (
            h.0,
            λ flag. subst (IsSeen K start r s) (sym (h.1 flag))
                (seen K g.met.J.Job.laws start c.args.share.now c.args.publisher.now.batches c.published.result.now s r c.requires.shown begins c.legal.ensures.taken
                (c.settled.ensures.records ∙ ap (λ q. records_of K start (take q.session.taken q.session.accepted)) same)),
          );
    }

use Rattle.std.proofs.Common.{◌≡◌, ◌≤◌, [], refl, sym, ap, subst, ◌∙◌}
use Rattle.std.specs.Prelude.{vec_capacity}
use Rattle.pfx_front_board.specs.Publisher.{Published}
use Rattle.pfx_front_board.specs.Word.{records_of}
use Rattle.pfx_book.specs.Notes.{records_in}
use Rattle.pfx_front.specs.Keeping.{InStep, Behind}
use Rattle.pfx_book.specs.declared.note.Note.TheVariants.{Took}
use Rattle.pfx_front.specs.Lasting.{AreNoted}
use Rattle.pfx_front.specs.Showing.{AreShown, IsShown}
use Rattle.pfx_front.proofs.Lasting.{still_noted}
use Rattle.pfx_front.proofs.Steps.{step_behind, step_shown, took_shown}
use Rattle.pfx_front.proofs.flusher.flush.Goals.{in-Tend, in-Append+in-Some-commit}
use Rattle.pfx_front.proofs.flusher.flush.Goals as goal

pub home-requires : goal.home-requires
home-requires g c =
    let K = g.J.Job.kind in
    let start = g.B.Named.start in
    let store = g.S.BatchKeeper.kept c.loop.keeper in
    record {
      behind =
          subst (λ n. Behind K start g.B.Charted.failures g.B.Charted.clock n (g.S.BatchKeeper.failed c.loop.keeper) store.file.broken store.state (g.D.Disk.view store.file.disk))
          (sym c.in-End.ensures)
          (step_behind K start g.B.Charted.failures g.B.Charted.clock c.loop.share (g.S.BatchKeeper.failed c.loop.keeper) store.file.broken store.state (g.D.Disk.view store.file.disk)
          c.loop.invariant.0);
      shown =
          subst (λ n. IsShown K start n c.loop.publisher.batches store.state) (sym c.in-End.ensures)
          (step_shown K start c.loop.share c.loop.publisher.batches store.state c.loop.invariant.1 c.loop.invariant.0.state);
    }

pub next_work-requires-clause-rested : goal.next_work-requires-clause-rested
next_work-requires-clause-rested g c = c.loop.invariant.0.rested

pub commit-requires-clause-shown : goal.commit-requires-clause-shown
commit-requires-clause-shown g c =
    took_shown c.loop.share c.next_work.new.share c.loop.publisher.batches c.in-Append.batch c.in-Append.ensures.0 c.loop.invariant.1

pub commit-requires-clause-noted : goal.commit-requires-clause-noted
commit-requires-clause-noted g c = still_noted c.loop.marking c.loop.share c.next_work.new.share (Took c.in-Append.batch.first c.in-Append.batch.records) c.in-Append.ensures.0 c.loop.invariant.5

pub tend-requires : goal.tend-requires
tend-requires g c =
    let K = g.J.Job.kind in
    let start = g.B.Named.start in
    let store = g.S.BatchKeeper.kept c.match-next_work.keeper in
    record {
      step = elim c.match-next_work.branch [
        | in-Tend w ↦
            subst (λ n. InStep K start g.B.Charted.failures g.B.Charted.clock n store.file.broken store.state (g.D.Disk.view store.file.disk))
            (sym (w.share-is ∙ w.in-Tend.ensures.0))
            (subst (λ k. InStep K start g.B.Charted.failures g.B.Charted.clock c.loop.share (g.S.BatchKeeper.kept k).file.broken (g.S.BatchKeeper.kept k).state
            (g.D.Disk.view (g.S.BatchKeeper.kept k).file.disk)) (sym w.keeper-is) c.loop.invariant.0)
        | in-Append+in-Some-commit w ↦
            subst (λ n. InStep K start g.B.Charted.failures g.B.Charted.clock n store.file.broken store.state (g.D.Disk.view store.file.disk))
            (sym w.share-is)
            (subst (λ k. InStep K start g.B.Charted.failures g.B.Charted.clock w.commit.new.share (g.S.BatchKeeper.kept k).file.broken (g.S.BatchKeeper.kept k).state
            (g.D.Disk.view (g.S.BatchKeeper.kept k).file.disk)) (sym w.keeper-is) w.in-Some-commit.ensures.step)
      ];
      goes_on = elim c.match-next_work.branch [
        | in-Tend w ↦ ap g.S.BatchKeeper.failed w.keeper-is ∙ c.loop.invariant.6
        | in-Append+in-Some-commit w ↦ ap g.S.BatchKeeper.failed w.keeper-is ∙ w.in-Some-commit.ensures.goes_on
      ];
    }

pub home-requires-then-not-tend-clause-behind : goal.home-requires-then-not-tend-clause-behind
home-requires-then-not-tend-clause-behind g c = c.if-not-tend.ensures.behind refl

pub home-requires-then-not-tend-clause-shown : goal.home-requires-then-not-tend-clause-shown
home-requires-then-not-tend-clause-shown g c =
    let shown : AreShown c.match-next_work.share c.match-next_work.publisher.batches = elim c.match-next_work.branch [
      | in-Tend w ↦
          ap (λ (p : Published g.row.J.Denot). records_of p.batches) w.publisher-is ∙ c.loop.invariant.1 ∙ ap records_in (sym (w.share-is ∙ w.in-Tend.ensures.0))
      | in-Append+in-Some-commit w ↦
          ap (λ (p : Published g.row.J.Denot). records_of p.batches) w.publisher-is ∙ w.in-Some-commit.ensures.shown ∙ ap records_in (sym w.share-is)
    ] in
    step_shown g.J.Job.kind g.B.Named.start c.tend.new.share c.match-next_work.publisher.batches (g.S.BatchKeeper.kept c.tend.new.keeper).state (shown ∙ sym c.tend.ensures.notes) c.tend.ensures.leads

pub loop-preserved : goal.loop-preserved
loop-preserved g c =
    let shown : AreShown c.match-next_work.share c.match-next_work.publisher.batches = elim c.match-next_work.branch [
      | in-Tend w ↦
          ap (λ (p : Published g.row.J.Denot). records_of p.batches) w.publisher-is ∙ c.loop.invariant.1 ∙ ap records_in (sym (w.share-is ∙ w.in-Tend.ensures.0))
      | in-Append+in-Some-commit w ↦
          ap (λ (p : Published g.row.J.Denot). records_of p.batches) w.publisher-is ∙ w.in-Some-commit.ensures.shown ∙ ap records_in (sym w.share-is)
    ] in
    let room : (c.match-next_work.room.items ≡ []) × (16 ≤ vec_capacity c.match-next_work.room) = elim c.match-next_work.branch [
      | in-Tend w ↦ subst (λ v. (v.items ≡ []) × (16 ≤ vec_capacity v)) (sym w.room-is) (w.in-Tend.ensures.1, w.in-Tend.ensures.2)
      | in-Append+in-Some-commit w ↦ subst (λ v. (v.items ≡ []) × (16 ≤ vec_capacity v)) (sym w.room-is) w.in-Some-commit.ensures.room
    ] in
    let noted : AreNoted c.match-next_work.marking c.match-next_work.share = elim c.match-next_work.branch [
      | in-Tend w ↦
          subst (λ m. AreNoted m c.match-next_work.share) (sym w.marking-is) (subst (AreNoted c.loop.marking) (sym (w.share-is ∙ w.in-Tend.ensures.0)) c.loop.invariant.5)
      | in-Append+in-Some-commit w ↦
          subst (λ m. AreNoted m c.match-next_work.share) (sym w.marking-is) (subst (AreNoted w.commit.new.marking) (sym w.share-is) w.in-Some-commit.ensures.noted)
    ] in (
      c.if-not-tend.ensures.step refl,
      shown ∙ sym c.tend.ensures.notes,
      c.loop.invariant.2,
      room.0,
      room.1,
      subst (AreNoted c.match-next_work.marking) (sym (c.if-not-tend.ensures.kept refl)) noted,
      c.if-not-tend.ensures.goes_on refl,
    )

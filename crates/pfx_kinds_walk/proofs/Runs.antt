-- Whole walks.
use Rattle.std.proofs.Common.{◌≡◌, ℕ, ◌<◌, ◌∙◌, zero, suc, refl, ap, arith}
use Rattle.std.specs.Prelude.{IsTrue}
use Rattle.pfx_jobs.specs.Steps.{times}
use Rattle.pfx_jobs.proofs.FromLaws.{left-times}
use Rattle.pfx_kinds_walk.specs.Laws.{WalksDrawInOrder}
use Rattle.pfx_kinds_walk.specs.Walks.{walk_fits, drawn}
use Rattle.pfx_kinds_walk.specs.WalkKind.{walk_kind, walk_laws, walk_next}
use Rattle.pfx_kinds_walk.specs.declared.walk.Walk.{Walk}

seed-next : (left seed place : ℕ) (fits : IsTrue (walk_fits left seed place)) → 0 < left → (walk_next left seed place fits).seed ≡ drawn seed
seed-next zero seed place fits h = absurd (omega arith)
seed-next (suc n) seed place fits h = refl

pub draws-in_order : WalksDrawInOrder
draws-in_order s zero h = refl
draws-in_order s (suc n) h =
    let t : Walk = times n walk_kind.stepped s in
    let more = left-times walk_kind walk_laws s n (omega arith) in
    seed-next t.left t.seed t.place t.fits (omega (arith, more)) ∙ ap drawn (draws-in_order s n (omega arith))

use Rattle.std.proofs.Common.{sym, ◌∙◌, subst}
use Rattle.std.specs.Prelude.{Err}
use Rattle.pfx_checkpoint.specs.Found.{Reads, read_state}
use Rattle.pfx_store_version_one.proofs.Keeping.{area_long}
use Rattle.pfx_store_version_one.proofs.areas.read_area.Goals as goal

pub returns-then-bytes-state_len : goal.returns-then-bytes-state_len
returns-then-bytes-state_len g c =
    area_long g.J.Job.kind g.met.J.Job.laws c.args.segment c.args.set.now c.args.bytes.now c.is_of_its_tasks.ensures c.total-total.ensures.filled (λ same. c.if-bytes-state_len.true (same ∙ sym c.state_len.ensures))

pub returns-in-Ok : goal.returns-in-Ok
returns-in-Ok g c = sym c.in-Ok.ensures

pub returns-in-Err-Damaged : goal.returns-in-Err-Damaged
returns-in-Err-Damaged g c =
    sym (subst (λ f. Reads (read_state g.J.Job.kind 0 c.args.segment c.args.set.now c.args.bytes.now) (Err f)) c.in-Err-Damaged.field-0-is c.in-Err-Damaged.ensures)

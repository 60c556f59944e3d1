use Rattle.std.proofs.Common.{◌≡◌, sym, ◌∙◌, ap, subst}
use Rattle.std.specs.Prelude.{Some, Err}
use Rattle.pfx_checkpoint.specs.Found.{Reads}
use Rattle.pfx_checkpoint.specs.Whole.{read_whole, whole_len}
use Rattle.pfx_store_header.specs.Headers.{Header}
use Rattle.pfx_store_format.proofs.Keeping.{area_found, area_none, area_long}
use Rattle.pfx_store_format.proofs.areas.read_area.Goals as goal

pub returns-then-bytes-whole_len : goal.returns-then-bytes-whole_len
returns-then-bytes-whole_len g c =
    let h : Header = record { set = c.args.set.now; segment = c.args.segment } in
    area_long g.J.Job.kind g.met.J.Job.laws h c.args.bytes.now (λ same. c.if-bytes-whole_len.true (same ∙ (ap whole_len (sym c.real.ensures) ∙ sym c.whole_len.ensures)))

pub returns-in-Ok : goal.returns-in-Ok
returns-in-Ok g c =
    let K = g.J.Job.kind in
    let h : Header = record { set = c.args.set.now; segment = c.args.segment } in
    let found : read_whole K h.set.real h.segment c.args.bytes.now ≡ Some c.in-Ok.state = ap (λ n. read_whole K n c.args.segment c.args.bytes.now) (sym c.real-2.ensures) ∙ c.in-Ok.ensures in
    c.with_room.ensures ∙ area_found K h c.args.bytes.now c.in-Ok.state found

pub returns-in-Err-Damaged : goal.returns-in-Err-Damaged
returns-in-Err-Damaged g c =
    let K = g.J.Job.kind in
    let h : Header = record { set = c.args.set.now; segment = c.args.segment } in
    let none = subst (λ f. Reads (read_whole K c.real-2.result c.args.segment c.args.bytes.now) (Err f)) c.in-Err-Damaged.field-0-is c.in-Err-Damaged.ensures in
    area_none K h c.args.bytes.now (ap (λ n. read_whole K n c.args.segment c.args.bytes.now) (sym c.real-2.ensures) ∙ none)

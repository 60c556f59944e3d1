use Rattle.std.proofs.Common.{◌≡◌, sym, ◌∙◌, ap, ap₂, arith, subst, length, refl}
use Rattle.std.specs.Prelude.{Some, Err}
use Rattle.pfx_weights.specs.Sets.{FilledSet}
use Rattle.pfx_checkpoint.specs.Found.{number_at, read_state, Reads}
use Rattle.pfx_checkpoint.specs.Whole.{inner, whole_len}
use Rattle.pfx_checkpoint.proofs.Readings.{none_slot, only_states}
use Rattle.pfx_checkpoint.proofs.WholeBytes.{compared, failed, inner_long, no_state}
use Rattle.pfx_checkpoint.proofs.whole.read_of_set.Goals as goal

pub returns-then-from : goal.returns-then-from
returns-then-from g c =
    let bytes = c.args.bytes.now in
    let set = c.args.set.now in
    no_state g.J.Job.kind bytes c.args.segment set
    (none_slot g.J.Job.kind (number_at 16 bytes) c.args.segment set (inner set bytes) (number_at 8 (inner set bytes)) refl (omega (arith, c.if-from.true, c.number_at-from.ensures)))

pub read-requires-clause-long : goal.read-requires-clause-long
read-requires-clause-long g c = ap length (c.deref.ensures.value ∙ c.in-Ok.ensures) ∙ inner_long c.args.set.now c.args.bytes.now c.total-total.ensures.filled c.requires

pub check-requires : goal.check-requires
check-requires g c =
    let only = only_states g.J.Job.kind c.number_at-from.result c.args.segment c.args.set.now c.deref.result.now c.in-Ok-read.state c.is_of_its_tasks.ensures c.total-total.ensures.filled c.in-Ok-read.ensures in
    c.requires ∙ ap (λ (set : FilledSet). whole_len set.real) (sym only.1)

pub returns-in-Ok-read : goal.returns-in-Ok-read
returns-in-Ok-read g c =
    let K = g.J.Job.kind in
    let set = c.args.set.now in
    let bytes = c.args.bytes.now in
    let found : read_state K (number_at 16 bytes) c.args.segment set (inner set bytes) ≡ Some c.in-Ok-read.state =
    ap₂ (λ n xs. read_state K n c.args.segment set xs) (sym c.number_at-from.ensures) (sym (c.deref.ensures.value ∙ c.in-Ok.ensures)) ∙ c.in-Ok-read.ensures in
    compared K bytes c.args.segment set c.in-Ok-read.state c.check.result found c.check.ensures

pub returns : goal.returns
returns g c =
    let K = g.J.Job.kind in
    let set = c.args.set.now in
    let bytes = c.args.bytes.now in
    let same = ap₂ (λ n xs. read_state K n c.args.segment set xs) c.number_at-from.ensures (c.deref.ensures.value ∙ c.in-Ok.ensures) in
    failed K bytes c.args.segment set c.in-Err.fault (subst (λ o. Reads o (Err c.in-Err.fault)) same c.in-Err.ensures)

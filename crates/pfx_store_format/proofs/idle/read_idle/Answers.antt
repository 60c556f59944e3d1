use Rattle.std.proofs.Common.{◌≡◌, ◌+◌, ◌*◌, ◌∙◌, ap, subst, List, ℕ, drop, length-set, arith}
use Rattle.std.proofs.lemmas.List.{take_rest}
use Rattle.byteorder.specs.Endian.{little_number}
use Rattle.pfx_store_format.proofs.Resting.{IdleSoFar, idle_more, idle_is_row}
use Rattle.pfx_store_format.proofs.idle.read_idle.Goals as goal

pub loop-i-preserved : goal.loop-i-preserved
loop-i-preserved g c =
    let K = g.J.Job.kind in
    let bytes = c.args.bytes.now in
    let i = c.loop-i.i in
    let task = c.read_u16-task.result in
    let is : task ≡ little_number 2 (drop (1 + 3 * i) bytes) = c.read_u16-task.ensures ∙ ap (λ (l : List ℕ). little_number 2 l) (take_rest bytes (1 + 3 * i)) in
    let more : IdleSoFar K bytes _ (i + 1) (task + 1) = idle_more K bytes g.met.J.Job.laws c.loop-i.tasks i c.loop-i.low task c.loop-i.invariant.so_far (omega (arith, c.loop-i.invariant.long, c.loop-i-test.true, c.requires.few)) (omega (arith, c.if-from-low.false, c.from.ensures)) (omega (arith, c.read_u16-task.type_inv)) is c.if-bytes-at-ne0.false (omega (arith, c.if-bytes-idle_len.false, c.idle_len.ensures, c.loop-i-test.true)) (λ k. omega (arith, c.type_inv.bytes k)) in
    record {
      long = length-set c.loop-i.tasks i task ∙ c.loop-i.invariant.long;
      so_far = rw (c.from-low.ensures) more;
    }

pub set-requires : goal.set-requires
set-requires g c =
    idle_is_row g.J.Job.kind c.args.bytes.now c.loop-i.tasks c.args.form.workers c.loop-i.low (subst (λ (k : ℕ). IdleSoFar g.J.Job.kind c.args.bytes.now c.loop-i.tasks k c.loop-i.low) (omega (arith, c.loop-i-test.false, c.loop-i.auto.i-end)) c.loop-i.invariant.so_far) (omega (arith, c.loop-i.invariant.long, c.requires.few)) c.requires.few

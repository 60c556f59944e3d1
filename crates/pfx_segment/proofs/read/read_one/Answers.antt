use Rattle.std.proofs.Common.{◌≡◌, ◌<◌, ◌+◌, ◌++◌, ℕ, List, length, take, drop, refl, ap, ◌∙◌, arith, length-drop}
use Rattle.pfx_disk.specs.declared.gates.TheConstants.{GATE_OPEN}
use Rattle.pfx_segment.specs.Frames.{frame_len}
use Rattle.pfx_segment.proofs.FrameLemmas.{byte_is, filled, head_says}
use Rattle.pfx_segment.proofs.read.read_one.Goals as goal

pub returns-then-len-end-clause-damaged : goal.returns-then-len-end-clause-damaged
returns-then-len-end-clause-damaged g c honest =
    let x = (g.D.Disk.view c.args.disk.now).contents in
    let first = c.read.ensures.leaves honest in
    let opened = byte_is c.args.gate c.read.new.out x GATE_OPEN (c.in_ok-read.ensures.bytes honest) c.if-first.false in
    let head : c.read-2.new.out ≡ take 15 (drop c.args.gate x) = rw first.contents at (c.in_ok-read-2.ensures.bytes first.honest) in
    let says = head_says c.args.gate c.read-2.new.out x (omega (arith, c.requires.inside honest, c.if-end-gate-le-FRAME_HEAD.false)) head in
    (refl, opened, omega (arith, says, c.frame_len_at-len.ensures.value, c.if-len-end.true))

pub returns-clause-found : goal.returns-clause-found
returns-clause-found g c honest =
    let gate = c.args.gate in
    let x = (g.D.Disk.view c.args.disk.now).contents in
    let first = c.read.ensures.leaves honest in
    let second = c.read-2.ensures.leaves first.honest in
    let opened = byte_is gate c.read.new.out x GATE_OPEN (c.in_ok-read.ensures.bytes honest) c.if-first.false in
    let head : c.read-2.new.out ≡ take 15 (drop gate x) = rw first.contents at (c.in_ok-read-2.ensures.bytes first.honest) in
    let says = head_says gate c.read-2.new.out x (omega (arith, c.requires.inside honest, c.if-end-gate-le-FRAME_HEAD.false)) head in
    let fits : gate + frame_len gate x < c.args.end = omega (arith, says, c.frame_len_at-len.ensures.value, c.if-len-end.false) in
    let long = c.in_ok-frame.ensures.len ∙ c.frame_len_at-len.ensures.value ∙ says in
    let out = c.read-3.new.out in
    let read : out ≡ take (frame_len gate x) (drop gate x) =
    c.in_ok-read-3.ensures.bytes second.honest
    ∙ ap (λ (n : ℕ). take n (drop gate (g.D.Disk.view c.read-2.new.self).contents)) (c.deref_mut.ensures.len ∙ long)
    ∙ ap (λ (l : List ℕ). take (frame_len gate x) (drop gate l)) (second.contents ∙ first.contents) in
    let more = drop (length out) c.in_ok-frame.frame.items in
    (opened, fits, ap (λ (n : ℕ). take n (out ++ more)) long ∙ filled (frame_len gate x) out more (drop gate x) (omega (arith, length-drop gate x, c.requires.inside honest, says, c.frame_len_at-len.ensures.value, c.if-len-end.false)) read)

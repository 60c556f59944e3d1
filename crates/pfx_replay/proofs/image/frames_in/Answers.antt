use Rattle.std.proofs.Common.{◌≡◌, ◌≢◌, ◌<◌, ◌+◌, ◌++◌, ◌∷◌, ◌∙◌, [], Ok, Err, length, get_or, take, drop, ap, sym, refl, length-take, length-drop, arith, rules}
use Rattle.std.proofs.lemmas.List.{length_push}
use Rattle.pfx_disk.specs.declared.gates.TheConstants.{GATE_OPEN}
use Rattle.pfx_segment.specs.Frames.{frame_len}
use Rattle.pfx_segment.specs.Reading.{views}
use Rattle.pfx_segment.specs.declared.fault.ReadFault.TheVariants.{Damaged}
use Rattle.pfx_segment.proofs.FrameLemmas.{are_read, read_is}
use Rattle.pfx_replay.proofs.ReadOn.{gives_shut, gives_fault, reads_pushed}
use Rattle.pfx_replay.proofs.FrameRuns.{few}
use Rattle.pfx_replay.proofs.image.frames_in.Goals as goal

pub returns-then-image-gate : goal.returns-then-image-gate
returns-then-image-gate c =
    let image = c.args.image.now in
    let fewer : length c.walk.frames.items < c.args.end = omega (arith, c.walk.invariant.count, c.walk.invariant.order) in
    let shut : get_or image c.walk.gate 0 ≢ GATE_OPEN = c.if-image-gate.true in
    are_read c.args.end c.args.first c.args.end image (views c.walk.frames.items) c.requires.inside (gives_shut c.args.first c.args.end c.walk.gate c.walk.frames.items image fewer c.walk.invariant.read shut)

pub returns-in_default : goal.returns-in_default
returns-in_default c frames are =
    let image = c.args.image.now in
    let fewer : length c.walk.frames.items < c.args.end = omega (arith, c.walk.invariant.count, c.walk.invariant.order) in
    let opened : get_or image c.walk.gate 0 ≡ GATE_OPEN = c.if-image-gate.false in
    let past = rw c.in_default.is at c.len_at.ensures in
    let wrong = gives_fault c.args.first c.args.end c.walk.gate c.walk.frames.items image fewer c.walk.invariant.read (Damaged c.walk.gate) (refl, opened, past) in
    let n : length frames < c.args.end = (let f = few c.args.first c.args.end frames image c.requires.order are in omega (arith, f)) in
    let e : Ok frames ≡ Err c.walk.gate = sym (read_is c.args.end c.args.first c.args.end frames image are n c.requires.inside) ∙ wrong in
    absurd (let f : ⊥ = cc in f)

pub walk-preserved : goal.walk-preserved
walk-preserved c =
    let image = c.args.image.now in
    let inv = c.walk.invariant in
    let fits = rw c.in-Some.is at c.len_at.ensures in
    let opened : get_or image c.walk.gate 0 ≡ GATE_OPEN = c.if-image-gate.false in
    let pushed : c.push.new.self.items ≡ c.walk.frames.items ++ c.in_ok-frame.frame ∷ [] = search rules in
    let fewer : length c.walk.frames.items < c.args.end = omega (arith, inv.count, inv.order) in
    let part : c.in_ok-frame.frame.items ≡ take (frame_len c.walk.gate image) (drop c.walk.gate image) = c.in_ok-frame.ensures ∙ ap (λ k. take k (drop c.walk.gate image)) fits.0 in
    let inside : c.walk.gate + frame_len c.walk.gate image < c.args.end = omega (arith, fits.0, fits.1) in
    let long : length c.in_ok-frame.frame.items ≡ frame_len c.walk.gate image = omega (arith, ap length part, length-take (frame_len c.walk.gate image) (drop c.walk.gate image), length-drop c.walk.gate image, inside, c.requires.inside) in
    let same : c.in-Some.len ≡ length c.in_ok-frame.frame.items = fits.0 ∙ sym long in
    record {
      order = fits.1;
      count = omega (arith, inv.count, fits.0, ap length pushed, length_push c.walk.frames.items c.in_ok-frame.frame);
      read = reads_pushed c.args.first c.args.end c.walk.gate c.walk.frames.items image fewer inv.read c.in_ok-frame.frame c.push.new.self.items c.in-Some.len same pushed opened inside part long;
    }

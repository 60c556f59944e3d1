use Rattle.std.proofs.Common.{◌≡◌, ◌+◌, ◌-◌, ◌∙◌, ℕ, take, drop, ap, arith, rules}
use Rattle.pfx_store_recover.proofs.Replaying.{replay_end, replay_wrong, replay_on}
use Rattle.pfx_store_recover.proofs.records.replay_frames.Goals as goal

part_is : (at len : ℕ) → len ≡ at + len - at
part_is at len = omega arith

pub returns-then-not-branch : goal.returns-then-not-branch
returns-then-not-branch g c = record {
  device = search rules;
  fits = search rules;
  exact = λ frames fill.
      let K = g.F.Format.codec in
      let part = ap (λ (k : ℕ). K.apply c.frames.reached (take k (drop c.frames.at c.args.bytes.now))) (part_is c.frames.at c.len_at-len.result) in
      replay_wrong K c.args.gate c.args.state frames c.args.bytes.now c.frames.at c.frames.reached (c.frames.invariant.run frames fill) c.frames-test.true c.len_at-len.result c.len_at-len.ensures.len.whole (part ∙ c.in_ok-apply.ensures.wrong c.if-not-branch.true);
}

pub frames-preserved : goal.frames-preserved
frames-preserved g c =
    let K = g.F.Format.codec in
    let part = ap (λ (k : ℕ). K.apply c.frames.reached (take k (drop c.frames.at c.args.bytes.now))) (part_is c.frames.at c.len_at-len.result) in
    let taken = c.in_ok-apply.ensures.taken c.if-not-branch.false in
    record {
      inside = c.len_at-len.ensures.len.inside;
      fits = λ h fit. g.met.F.Format.bounds.applied h c.frames.reached _ c.apply.new.state (c.frames.invariant.fits h fit) taken;
      run = λ frames fill.
          replay_on K c.args.gate c.args.state frames c.args.bytes.now c.frames.at c.frames.reached (c.frames.invariant.run frames fill) c.frames-test.true c.len_at-len.result c.len_at-len.ensures.len.whole c.apply.new.state (part ∙ taken);
    }

pub returns : goal.returns
returns g c = record {
  device = search rules;
  fits = λ h fit. c.frames.invariant.fits h fit;
  exact = λ frames fill.
      replay_end g.F.Format.codec c.args.gate c.args.state frames c.args.bytes.now c.frames.at c.frames.reached (c.frames.invariant.run frames fill) (omega (arith, c.frames-test.false));
}

use Rattle.std.proofs.Common.{◌≡◌, ◌≤◌, length, refl, arith, rules}
use Rattle.pfx_replay.proofs.Rowing.{same_elements}
use Rattle.pfx_replay.proofs.history.are_weights.Goals as goal

pub returns : goal.returns
returns c =
    let long : length c.args.one.now ≡ length c.args.other.now = search rules in
    let all : length c.args.one.now ≤ c.loop-i.i = search rules in
    (λ yes. same_elements c.args.one.now c.args.other.now long (λ k d within. c.loop-i.invariant k d (omega (arith, within, all))), λ h. refl)

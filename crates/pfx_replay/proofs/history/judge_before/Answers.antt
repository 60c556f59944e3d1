use Rattle.std.proofs.Common.{◌∙◌, sym}
use Rattle.pfx_replay.proofs.history.judge_before.Goals as goal

pub returns-then-are_states : goal.returns-then-are_states
returns-then-are_states g c behind =
    let first = rw c.in-Agrees.is at c.in_ok-number.ensures in
    let same = c.are_states.ensures.0 c.if-are_states.true in
    record { follow = first.0; checkpoint = sym same ∙ first.1 }

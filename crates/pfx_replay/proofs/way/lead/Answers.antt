use Rattle.pfx_replay.proofs.way.lead.Goals as goal

pub returns-then-branch : goal.returns-then-branch
returns-then-branch g c = c.in_ok-lead_on.ensures.led c.if-branch.true

pub returns-else-branch : goal.returns-else-branch
returns-else-branch g c = c.in_ok-lead_on.ensures.wrong c.if-branch.false

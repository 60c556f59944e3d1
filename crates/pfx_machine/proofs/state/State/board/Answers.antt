use Rattle.pfx_machine.proofs.state.State.board.Goals as goal

pub returns-clause-number : goal.returns-clause-number
returns-clause-number g c = c.number.ensures.number

pub returns-clause-slot : goal.returns-clause-slot
returns-clause-slot g c = c.slot.ensures.slot

use Rattle.pfx_choice.proofs.kinds.sink.Given as goal

abbrev pub decreases-down : goal.decreases-down
decreases-down l = l.j

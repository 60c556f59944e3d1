use Rattle.pfx_program_notes.proofs.fractions.greatest_common_divisor.Given as goal

abbrev pub decreases-euclid : goal.decreases-euclid
decreases-euclid l = l.small

use Rattle.pfx_program_script.proofs.Quotes.{unmarked_whole, marked_whole}
use Rattle.pfx_program_script.proofs.laws.short_lines_are_whole.Goals as goal

pub returns-clause-plain : goal.returns-clause-plain
returns-clause-plain c = unmarked_whole

pub returns-clause-marked : goal.returns-clause-marked
returns-clause-marked c = marked_whole

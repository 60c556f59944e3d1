use Rattle.pfx_program_explain.proofs.Tables.{if_none, none_named}
use Rattle.pfx_program_explain.proofs.explaining.entry_named.Goals as goal

pub returns-clause-none : goal.returns-clause-none
returns-clause-none c = if_none c.entry_in-3.result (none_named c.args.word.now c.in_default.ensures.none c.in_default-entry_in.ensures.none) c.entry_in-3.ensures.none

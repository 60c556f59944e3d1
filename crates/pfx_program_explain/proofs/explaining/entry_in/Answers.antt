use Rattle.std.proofs.Common.{below_more, ap, sym, ◌∙◌, arith}
use Rattle.std.proofs.lemmas.List.{get_or_default}
use Rattle.pfx_program_explain.specs.Explaining.{names}
use Rattle.pfx_program_explain.specs.declared.entries.Entry.{Entry}
use Rattle.pfx_program_explain.proofs.Tables.{spared}
use Rattle.pfx_program_explain.proofs.explaining.entry_in.Goals as goal

pub loop-entry-preserved : goal.loop-entry-preserved
loop-entry-preserved c =
    below_more _ _ c.loop-entry.invariant (λ d.
    ap (λ (e : Entry). names c.args.word.now e.fault) (get_or_default c.args.entries.now c.loop-entry.entry-index d _ c.loop-entry-test.true) ∙ sym c.names.ensures ∙ c.if-names.false)

pub returns-clause-none : goal.returns-clause-none
returns-clause-none c = spared c.args.word.now c.args.entries.now (λ k d lt. c.loop-entry.invariant k (omega (arith, lt, c.loop-entry-test.false)) d)

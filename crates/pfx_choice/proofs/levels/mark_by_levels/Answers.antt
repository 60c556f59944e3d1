use Rattle.std.proofs.Common.{◌∙◌, sym}
use Rattle.pfx_choice.proofs.Levelling.{levels_mark, from_equal}
use Rattle.pfx_choice.proofs.levels.mark_by_levels.Goals as goal

pub returns : goal.returns
returns c = λ all.
    levels_mark c.args.ledger.now c.args.q c.mark_first.ensures.0 c.args.levels.now c.mark_first.new.levels c.total-total.ensures.ledger c.requires.levels c.mark_first.auto.levels c.mark_first.ensures.1
    (sym c.count_marked.ensures ∙ from_equal c.count_marked.result c.workers-m.result all ∙ c.workers-m.ensures)

use Rattle.std.proofs.Common.{◌∙◌, ap, if◌then◌else◌, false}
use Rattle.pfx_symbols.specs.Ranks.{rank_cmp}
use Rattle.pfx_columns.specs.Ledgers.{rank}
use Rattle.pfx_choice.specs.Choices.{order, is_contending}
use Rattle.pfx_choice.specs.PfRows.{is_greater}
use Rattle.pfx_choice.proofs.Best.{rank_above}
use Rattle.pfx_trial_machine.proofs.plain.beats.Goals as goal

pub returns-in-Contending : goal.returns-in-Contending
returns-in-Contending c =
    let g = c.args.ledger.now in
    let x = c.args.x in
    let y = c.args.y in
    c.is_above.ensures
    ∙ ap (λ r. is_greater (rank_cmp r c.rank-in-Contending.result)) c.rank.ensures
    ∙ ap (λ r. is_greater (rank_cmp (rank g y) r)) c.rank-in-Contending.ensures
    ∙ rank_above g y x c.total-total.ensures.ledger c.requires.y_within c.requires.x_within
    ∙ ap (λ k. if is_contending k then is_greater (order g y x) else false) c.in-Contending.ensures

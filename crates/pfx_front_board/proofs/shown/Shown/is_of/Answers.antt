use Rattle.std.proofs.Common.{sym, ◌∙◌}
use Rattle.pfx_front_board.proofs.Words.{begins_if, prefix_both}
use Rattle.pfx_front_board.proofs.shown.Shown.is_of.Goals as goal

pub returns-then-begins : goal.returns-then-begins
returns-then-begins g c h =
    let back = begins_if c.args.word.now c.self.inside.word c.begins-then-begins.result c.begins-then-begins.ensures.begins h in
    sym c.self.view_is ∙ prefix_both c.self.inside.word c.args.word.now c.if-begins.ensures.begins back

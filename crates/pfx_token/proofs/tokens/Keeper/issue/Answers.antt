use Rattle.std.proofs.Common.{◌∙◌, sym, ap, arith}
use Rattle.pfx_token.proofs.Moves.{makes_as}
use Rattle.pfx_token.proofs.tokens.Keeper.issue.Goals as goal

pub split_seat-seat-requires : goal.split_seat-seat-requires
split_seat-seat-requires g c =
    let i = c.self.invariant in
    (i.1 ∙ sym i.0, omega (arith, i.3), makes_as _ _ _ (ap (λ m. m.0) i.2))

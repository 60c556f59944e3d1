use Rattle.pfx_token.proofs.Moves.{begins}
use Rattle.pfx_token.proofs.tokens.UnnamedKeeper.new.Goals as goal

pub of_words-requires : goal.of_words-requires
of_words-requires g c = begins

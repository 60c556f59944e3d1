use Rattle.std.proofs.Common.{◌≡◌, replicate}
use Rattle.pfx_front_board.proofs.publisher.readers_of.Given as goal

abbrev pub invariant-loop-reader : goal.invariant-loop-reader
invariant-loop-reader g l = l.given.items ≡ replicate l._reader l.word

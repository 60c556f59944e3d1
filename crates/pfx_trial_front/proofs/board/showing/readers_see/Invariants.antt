use Rattle.std.specs.Prelude.{[]}
use Rattle.pfx_trial_front.proofs.board.showing.readers_see.Given as goal

abbrev pub ghosts-serve-B-Naming : goal.ghosts-serve-B-Naming
ghosts-serve-B-Naming g a = record { book = a.opened.seen.book }

abbrev pub ghosts-serve-B-Begun : goal.ghosts-serve-B-Begun
ghosts-serve-B-Begun g a = record { origin = a.state.value }

abbrev pub ghosts-serve-B-Charted : goal.ghosts-serve-B-Charted
ghosts-serve-B-Charted g a = record { calls = a.calls.seen.book; clock = 0; failures = 0; image = []; held = ⊥ }

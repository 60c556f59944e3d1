use Rattle.std.specs.Prelude.{[]}
use Rattle.pfx_trial_front.proofs.board.racing.told_reader_sees.Given as goal

abbrev pub ghosts-race-B-Naming : goal.ghosts-race-B-Naming
ghosts-race-B-Naming g a = record { book = a.opened.seen.book }

abbrev pub ghosts-race-B-Begun : goal.ghosts-race-B-Begun
ghosts-race-B-Begun g a = record { origin = a.state.value }

abbrev pub ghosts-race-B-Charted : goal.ghosts-race-B-Charted
ghosts-race-B-Charted g a = record { calls = a.calls.seen.book; clock = 0; failures = 0; image = []; held = ⊥ }

use Rattle.pfx_disk.specs.Disk.{IsHonest}
use Rattle.pfx_trial_front.proofs.sessions.serve_named.Given as goal

abbrev pub ghosts-serve-B-Room : goal.ghosts-serve-B-Room
ghosts-serve-B-Room g a = record { table = a.names.tokens.table.shared.table_id }

abbrev pub ghosts-serve-B-Naming : goal.ghosts-serve-B-Naming
ghosts-serve-B-Naming g a = record { book = a.names.list.seen.book }

abbrev pub ghosts-serve-B-Begun : goal.ghosts-serve-B-Begun
ghosts-serve-B-Begun g a = record { origin = a.store.state }

abbrev pub ghosts-serve-B-Named : goal.ghosts-serve-B-Named
ghosts-serve-B-Named g a = record { start = a.store.state }

abbrev pub ghosts-serve-B-Charted : goal.ghosts-serve-B-Charted
ghosts-serve-B-Charted g a = record {
  calls = a.names.calls.seen.book;
  clock = (g.D.Disk.view a.store.file.disk).clock;
  failures = (g.D.Disk.view a.store.file.disk).failures;
  image = (g.D.Disk.view a.store.file.disk).contents;
  held = IsHonest (g.D.Disk.view a.store.file.disk);
}

abbrev pub ghosts-serve-B-Since : goal.ghosts-serve-B-Since
ghosts-serve-B-Since g a = record { marks = a.names.marks.seen.book }

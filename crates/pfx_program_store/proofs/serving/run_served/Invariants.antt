use Rattle.pfx_program_store.proofs.serving.run_served.Given as goal

abbrev pub ghosts-serve-B-Room : goal.ghosts-serve-B-Room
ghosts-serve-B-Room g a = record { table = a.names.tokens.table.shared.table_id }

abbrev pub ghosts-serve-B-Naming : goal.ghosts-serve-B-Naming
ghosts-serve-B-Naming g a = record { book = a.names.list.seen.book }

abbrev pub ghosts-serve-B-Begun : goal.ghosts-serve-B-Begun
ghosts-serve-B-Begun g a = record { origin = a.store.state }

abbrev pub ghosts-serve-B-Named : goal.ghosts-serve-B-Named
ghosts-serve-B-Named g a = record { start = a.store.state }

abbrev pub ghosts-serve-B-Charted : goal.ghosts-serve-B-Charted
ghosts-serve-B-Charted g a = record {
  calls = a.names.calls.seen.book;
  clock = (g.D.Disk.view a.store.file.disk).clock;
  failures = (g.D.Disk.view a.store.file.disk).failures;
  image = g.N.Charted.image;
  held = g.N.Charted.held;
}

abbrev pub ghosts-serve-B-Since : goal.ghosts-serve-B-Since
ghosts-serve-B-Since g a = record { marks = a.names.marks.seen.book }

use Rattle.pfx_trial_book.proofs.sessions.is_right.Given as goal

abbrev pub ghosts-serve-B-Room : goal.ghosts-serve-B-Room
ghosts-serve-B-Room a = record { table = a.tokens.table.shared.table_id }

abbrev pub ghosts-serve-B-Named : goal.ghosts-serve-B-Named
ghosts-serve-B-Named a = record { start = a.state.now }

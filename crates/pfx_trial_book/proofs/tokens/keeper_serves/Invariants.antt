use Rattle.pfx_trial_book.proofs.tokens.keeper_serves.Given as goal

abbrev pub ghosts-bring_home : goal.ghosts-bring_home
ghosts-bring_home a = record { table = a.opened.table.shared.table_id }

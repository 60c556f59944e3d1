use Rattle.pfx_trial_book.proofs.past.list_grows.Given as goal

abbrev pub ghosts-grow : goal.ghosts-grow
ghosts-grow a = record { book = a.opened.seen.book }

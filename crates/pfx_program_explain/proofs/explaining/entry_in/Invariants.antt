use Rattle.std.proofs.Common.{◌≡◌, ℕ, ◌<◌, false, get_or}
use Rattle.pfx_program_explain.specs.Explaining.{names}
use Rattle.pfx_program_explain.specs.declared.entries.Entry.{Entry}
use Rattle.pfx_program_explain.proofs.explaining.entry_in.Given as goal

-- the word names none of the faults so far
abbrev pub invariant-loop-entry : goal.invariant-loop-entry
invariant-loop-entry l = (k : ℕ) → k < l.entry-index → (d : Entry) → names l.word (get_or l.entries k d).fault ≡ false

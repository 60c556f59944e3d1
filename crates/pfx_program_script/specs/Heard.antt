-- A reader of which is known whether its last answer was an error.
use Rattle.std.specs.Prelude.{ℕ, List, Option}
use Rattle.pfx_program_script.specs.declared.heard.Heard.{Heard}

-- what it has left
abbrev pub heard_left : {R : Type 0} → (R → Option (List ℕ)) → Heard R → Option (List ℕ)
heard_left rem h = rem h.input

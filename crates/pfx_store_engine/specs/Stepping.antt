-- What commands that are kept take: a step of the checkpoint in progress, and their frame.
use Rattle.std.specs.Prelude.{ℕ, ◌+◌, List, length, nat_lt, if◌then◌else◌}
use Rattle.pfx_store.specs.Groups.{frame_of}
use Rattle.pfx_machine.specs.Plain.{Plain}
use Rattle.pfx_machine.specs.declared.command.Command.{Command}
use Rattle.pfx_store_file.specs.Tending.{calls_left, calls_of, next_step}
use Rattle.pfx_store_file.specs.declared.places.Places.{Places}
use Rattle.pfx_jobs.specs.Kind.{Kind}

-- how many bytes the frame of accepted commands has, from one gate to the next
abbrev pub frame_len : {J : Type 0} → Kind J → Plain J → List (Command J) → ℕ
frame_len K s group = length (frame_of K s group)

-- how many calls of the disk commands take whose frame has n bytes: those of the checkpoint's next step, and four; if the
-- frame doesn't fit, those of all the steps to come, of a turn, and four
abbrev pub command_calls : ℕ → Places → ℕ
command_calls n places = if nat_lt (places.gate + n) places.end then calls_of (next_step places) + 4 else 10 + calls_left places

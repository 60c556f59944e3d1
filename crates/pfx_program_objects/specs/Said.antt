-- What is said of a fault, of a warning and of what a fault means, as JSON: an object a line, with its keys in alphabetical order.
use Rattle.std.specs.Prelude.{codes, ℕ, List, Option, Some, None, option_map, string_bytes}
use Rattle.serde_json.specs.Data.{Data, null, string, object, no_members, member}
use Rattle.pfx_program_explain.specs.declared.entries.Entry.{Entry}
use Rattle.pfx_program_explain.specs.declared.note.NoteLines.{NoteLines}
use Rattle.pfx_fault.specs.Refusals.{name_of, number_of, status_of}
use Rattle.pfx_fault.specs.declared.refusals.Fault.{Fault}
use Rattle.pfx_program.specs.Objects.{fault_object, number_at, text_at}

-- a text, or null where there is none
abbrev pub text_or_null : Option (List ℕ) → Data
text_or_null None = null
text_or_null (Some text) = string text

-- a note: `{"change":"..","more":null,"what":".."}`
abbrev pub note_object : NoteLines → Data
note_object n =
    object (member (codes "change") (text_or_null (option_map (λ s. string_bytes s) n.change)) (member (codes "more") (text_or_null (option_map (λ s. string_bytes s) n.more))
    (text_at (codes "what") (string_bytes n.what) no_members)))

abbrev pub note_or_null : Option NoteLines → Data
note_or_null None = null
note_or_null (Some n) = note_object n

-- why a command ended: `{"error":{"fields":{"task":2},"name":"BadWeight","number":14},"note":null}`
abbrev pub error_object : Fault → Option NoteLines → Data
error_object f note = object (member (codes "error") (fault_object f) (member (codes "note") (note_or_null note) no_members))

-- what else is wrong with a set
abbrev pub also_object : Fault → Option NoteLines → Data
also_object f note = object (member (codes "also") (fault_object f) (member (codes "note") (note_or_null note) no_members))

-- what a command that went well has passed over: `{"note":null,"warning":"a record was refused"}`
abbrev pub warning_object : List ℕ → Option NoteLines → Data
warning_object words note = object (member (codes "note") (note_or_null note) (text_at (codes "warning") words no_members))

-- what a fault means: `{"name":"BadWeight","number":14,"status":3,"text":".."}`
abbrev pub entry_object : Entry → Data
entry_object e =
    object (text_at (codes "name") (name_of e.fault) (number_at (codes "number") (number_of e.fault) (number_at (codes "status") (status_of e.fault)
    (text_at (codes "text") e.text.now no_members))))

-- Objects without a float.
use Rattle.std.proofs.Common.{◌≡◌, ℕ, List, Option, Some, None, false, refl}
use Rattle.std.specs.Prelude.{option_map, string_bytes}
use Rattle.serde_json.specs.Written.{has_float}
use Rattle.pfx_program_explain.specs.declared.entries.Entry.{Entry}
use Rattle.pfx_program_explain.specs.declared.note.NoteLines.{NoteLines}
use Rattle.pfx_fault.specs.declared.refusals.Fault.{Fault}
use Rattle.pfx_program.proofs.ObjectLemmas.{fault_whole}
use Rattle.pfx_program_objects.specs.Said.{text_or_null, note_object, note_or_null, error_object, also_object, warning_object, entry_object}

text_whole : (text : Option (List ℕ)) → has_float (text_or_null text) ≡ false
text_whole None = refl
text_whole (Some t) = refl

note_whole : (note : Option NoteLines) → has_float (note_or_null note) ≡ false
note_whole None = refl
note_whole (Some n) = rw (text_whole (option_map (λ s. string_bytes s) n.change), text_whole (option_map (λ s. string_bytes s) n.more)) refl

pub error_whole : (f : Fault) (note : Option NoteLines) → has_float (error_object f note) ≡ false
error_whole f note = rw (fault_whole f, note_whole note) refl

pub also_whole : (f : Fault) (note : Option NoteLines) → has_float (also_object f note) ≡ false
also_whole f note = rw (fault_whole f, note_whole note) refl

pub warning_whole : (words : List ℕ) (note : Option NoteLines) → has_float (warning_object words note) ≡ false
warning_whole words note = rw (note_whole note) refl

pub entry_whole : (e : Entry) → has_float (entry_object e) ≡ false
entry_whole e = refl

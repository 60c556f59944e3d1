-- Tasks one after the other.
use Rattle.std.proofs.Common.{◌≡◌, ℕ, ◌+◌, ◌<◌, length, get_or, drop, List, [], ◌∷◌, ◌++◌, Option, Some, None, option_map, map, not, ◌&&◌, string_bytes, refl, ap, inl, inr}
use Rattle.std.proofs.lemmas.List.{append_assoc, drop_more}
use Rattle.std.proofs.lemmas.Bool.{cases_Bool}
use Rattle.std.proofs.lemmas.List.Folds.{list_all-map}
use Rattle.std.specs.List.{list_all}
use Rattle.std.proofs.lemmas.Str.{IsUtf8-from_is_utf8, is_utf8-from_IsUtf8}
use Rattle.std.specs.Str.{IsUtf8, is_utf8, bytes_eq}
use Rattle.pfx_program_set.specs.declared.set.NamedTask.{NamedTask}
use Rattle.pfx_fault.specs.declared.refusals.Fault.{Fault}
use Rattle.pfx_fault.specs.declared.refusals.Fault.TheVariants as fault
use Rattle.pfx_program_set.specs.Reading.{IsOfText, ReadFails}
use Rattle.pfx_program_set.specs.Views.{task_view}
use Rattle.toml.specs.Data.{Members}
use Rattle.toml.specs.Parse.{parse_document}
use Rattle.pfx_program_set.specs.SetFile.{FileTask, before, are_distinct, set_in, set_of_bytes}

-- some tasks and then others, if those are there
abbrev pub with_front : List FileTask → Option (List FileTask) → Option (List FileTask)
with_front ts rest = option_map (λ more. ts ++ more) rest

pub with_front-nil : (o : Option (List FileTask)) → with_front [] o ≡ o
with_front-nil None = refl
with_front-nil (Some ts) = refl

pub with_front-before : (ts : List FileTask) (t : FileTask) (o : Option (List FileTask)) → with_front ts (before (Some t) o) ≡ with_front (ts ++ t ∷ []) o
with_front-before ts t None = refl
with_front-before ts t (Some more) = rw append_assoc refl

-- what bytes that are a document say
pub set_of_bytes-document : (bytes : List ℕ) (table : Members) → IsUtf8 bytes → parse_document bytes ≡ Some table → set_of_bytes bytes ≡ set_in table
unfolding set_of_bytes
set_of_bytes-document bytes table text parsed = rw (is_utf8-from_IsUtf8 bytes text, parsed) refl

-- other bytes are no set
pub set_of_bytes-none : (bytes : List ℕ) → (IsUtf8 bytes → parse_document bytes ≡ None) → set_of_bytes bytes ≡ None
unfolding set_of_bytes
set_of_bytes-none bytes none =
    elim (cases_Bool (is_utf8 bytes)) [
      | inl text ↦ rw (text, none (IsUtf8-from_is_utf8 bytes text)) refl
      | inr other ↦ rw other refl
    ]

-- the tasks from a place on: the task there has a name of its own, and those after it too
pub are_distinct-drop : (tasks : List NamedTask) (i : ℕ) (t : NamedTask) → i < length tasks
    → are_distinct (map task_view (drop i tasks)) ≡ (list_all (λ u. not (bytes_eq (string_bytes (get_or tasks i t).name) (string_bytes u.name))) (drop (i + 1) tasks) && are_distinct (map task_view (drop (i + 1) tasks)))
are_distinct-drop tasks i t within =
    rw (drop_more tasks i t within) (ap (λ b. b && are_distinct (map task_view (drop (i + 1) tasks)))
    (list_all-map (λ (u : FileTask). not (bytes_eq (string_bytes (get_or tasks i t).name) u.name)) task_view (drop (i + 1) tasks)))

-- a fault of the text is why no set was taken from the bytes, where BadSet comes only for bytes that are none
pub read_fails : (bytes : List ℕ) (e : Fault) → IsOfText e → (e ≡ fault.BadSet → set_of_bytes bytes ≡ None) → ReadFails bytes e
read_fails bytes fault.BadSet h none = none refl
read_fails bytes fault.NoMemory h none = tt
read_fails bytes other h none = absurd h

-- What a record of a script asks for.
use Rattle.std.specs.Prelude.{codes, ℕ, Bool, ◌==◌, ◌&&◌, nat_le, if◌then◌else◌, List, [], length, Option, Some, None, option_map, option_and_then, is_some, unwrap_or}
use Rattle.std.specs.List.{list_all}
use Rattle.std.specs.Str.{is_utf8, bytes_eq}
use Rattle.csv.specs.Records.{field_at}
use Rattle.pfx_kinds_decimal.specs.Numerals.{number_in}
use Rattle.pfx_program_script.specs.Weights.{number_within, weights_in}
use Rattle.pfx_program_script.specs.declared.verbs.Verb.{Verb}
use Rattle.pfx_program_script.specs.declared.verbs.Verb.TheVariants as verb

-- a verb with its fields
pub data Said : Type 0 where
  submit : ℕ → List ℕ → ℕ → List ℕ → Said
  slot : ℕ → Said
  withdraw : ℕ → Said
  settle : Said
  status : Said
  show : Option ℕ → Said
  reweigh : ℕ → List ℕ → Said

-- the verb that a value of the code is
abbrev pub said_by : Verb → Said
said_by (verb.Submit task kind goal text) = submit task kind.now goal text.now
said_by (verb.Slot count) = slot count
said_by (verb.Withdraw task) = withdraw task
said_by verb.Settle = settle
said_by verb.Status = status
said_by (verb.Show task) = show task
said_by (verb.Reweigh workers weights) = reweigh workers weights.now

-- the field at a place
abbrev pub field : List (List ℕ) → ℕ → List ℕ
field row i = unwrap_or (field_at row i) []

abbrev pub is_empty : List ℕ → Bool
is_empty text = length text == 0

-- a task: 1 to 5 digits, at most 65,535
abbrev pub task_in : List ℕ → Option ℕ
task_in text = option_and_then (λ t. if nat_le t 65535 then Some t else None) (number_in 5 text)

-- a goal: 1 to 10 digits, or 0 if the field is empty
abbrev pub goal_in : List ℕ → Option ℕ
goal_in text = if is_empty text then Some 0 else number_in 10 text

-- a count of slots: 1 to 1,048,576 in at most 10 digits, or 1 if the field is empty
abbrev pub count_in : List ℕ → Option ℕ
count_in text = if is_empty text then Some 1 else option_and_then (λ n. if nat_le 1 n && nat_le n 1048576 then Some n else None) (number_in 10 text)

-- a job for a task, if both numbers are there
abbrev pub submitted : Option ℕ → List ℕ → Option ℕ → List ℕ → Option Said
submitted (Some task) kind (Some goal) text = Some (submit task kind goal text)
submitted (Some task) kind None text = None
submitted None kind goal text = None

abbrev pub submit_by : List ℕ → List ℕ → List ℕ → List ℕ → Option Said
submit_by task kind goal text = submitted (task_in task) kind (goal_in goal) text

-- the fields that a verb doesn't use are empty
abbrev pub slot_by : List ℕ → List ℕ → List ℕ → List ℕ → Option Said
slot_by task kind count text = if is_empty task && (is_empty kind && is_empty text) then option_map slot (count_in count) else None

abbrev pub withdraw_by : List ℕ → List ℕ → List ℕ → List ℕ → Option Said
withdraw_by task kind goal text = if is_empty kind && (is_empty goal && is_empty text) then option_map withdraw (task_in task) else None

-- what jobs have computed: that of a task, or of each if the field is empty
abbrev pub show_by : List ℕ → List ℕ → List ℕ → List ℕ → Option Said
show_by task kind goal text =
    if is_empty kind && (is_empty goal && is_empty text)
    then (if is_empty task then Some (show None) else option_map (λ t. show (Some t)) (task_in task))
    else None

-- new weights, and how many workers: 1 to 10 digits
abbrev pub reweigh_by : List ℕ → List ℕ → List ℕ → List ℕ → Option Said
reweigh_by task kind workers text =
    if is_empty task && (is_empty kind && is_some (weights_in text)) then option_map (λ m. reweigh m text) (number_within workers) else None

abbrev pub are_empty : List ℕ → List ℕ → List ℕ → List ℕ → Bool
are_empty task kind goal text = is_empty task && (is_empty kind && (is_empty goal && is_empty text))

-- the verb of a word and four fields
abbrev pub verb_by : List ℕ → List ℕ → List ℕ → List ℕ → List ℕ → Option Said
verb_by word task kind goal text =
    if bytes_eq word (codes "submit") then submit_by task kind goal text
    else (if bytes_eq word (codes "slot") then slot_by task kind goal text
    else (if bytes_eq word (codes "withdraw") then withdraw_by task kind goal text
    else (if bytes_eq word (codes "settle") && are_empty task kind goal text then Some settle
    else (if bytes_eq word (codes "status") && are_empty task kind goal text then Some status
    else (if bytes_eq word (codes "show") then show_by task kind goal text
    else (if bytes_eq word (codes "reweigh") then reweigh_by task kind goal text
    else None))))))

-- the verb of a record: five fields, each of them text
unfoldable pub verb_of : List (List ℕ) → Option Said
verb_of row =
    if (length row == 5) && list_all is_utf8 row
    then verb_by (field row 0) (field row 1) (field row 2) (field row 3) (field row 4)
    else None

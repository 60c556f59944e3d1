-- The text of a verdict, and its line.
use Rattle.std.specs.Prelude.{codes, ℕ, List, ◌++◌}
use Rattle.std.specs.Fmt.{decimal}
use Rattle.serde_json.specs.Data.{Data, unsigned, string, object, Members, no_members, member}
use Rattle.serde_json.specs.Data as json
use Rattle.pfx_replay.specs.declared.verdict.Difference.{Difference}
use Rattle.pfx_replay.specs.declared.verdict.Difference.TheVariants.{Row, State, Answer, Checkpoint}
use Rattle.pfx_replay.specs.declared.verdict.Verdict.{Verdict}
use Rattle.pfx_replay.specs.declared.verdict.Verdict.TheVariants.{Agrees, Differs}

-- what differs, by a word
abbrev pub difference_name : Difference → List ℕ
difference_name Row = codes "Row"
difference_name State = codes "State"
difference_name Answer = codes "Answer"
difference_name Checkpoint = codes "Checkpoint"

-- as `agrees 6`, or as `differs 3 State`
abbrev pub verdict_text : Verdict → List ℕ
verdict_text (Agrees number) = codes "agrees " ++ decimal number
verdict_text (Differs number what) = codes "differs " ++ decimal number ++ codes " " ++ difference_name what

-- as an object: `{"agrees":6}`, or as `{"differs":{"number":3,"what":"State"}}`
abbrev pub count_at : List ℕ → ℕ → Members → Members
count_at key n rest = member key (json.number (unsigned n)) rest

abbrev pub difference_object : ℕ → Difference → Data
difference_object n what = object (count_at (codes "number") n (member (codes "what") (string (difference_name what)) no_members))

abbrev pub verdict_object : Verdict → Data
verdict_object (Agrees number) = object (count_at (codes "agrees") number no_members)
verdict_object (Differs number what) = object (member (codes "differs") (difference_object number what) no_members)

-- as a line of text
abbrev pub verdict_line : Verdict → List ℕ
verdict_line verdict = verdict_text verdict ++ codes "\n"

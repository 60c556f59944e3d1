-- What is said of a store that was migrated.
use Rattle.std.specs.Prelude.{codes, ℕ, List, ◌++◌}
use Rattle.std.specs.Fmt.{decimal}
use Rattle.serde_json.specs.Data.{Data, unsigned, object, no_members, member}
use Rattle.serde_json.specs.Data as json

-- as `migrated 4`, and a line feed
abbrev pub migrated_text : ℕ → List ℕ
migrated_text number = codes "migrated " ++ decimal number ++ codes "\n"

-- as an object: `{"migrated":4}`
abbrev pub migrated_object : ℕ → Data
migrated_object number = object (member (codes "migrated") (json.number (unsigned number)) no_members)

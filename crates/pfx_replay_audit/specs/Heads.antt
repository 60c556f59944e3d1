-- What is said of a log's last head.
use Rattle.std.specs.Prelude.{codes, ℕ, List, ◌++◌}
use Rattle.std.specs.Fmt.{decimal}
use Rattle.hex.specs.Hex.{encode_lower}
use Rattle.serde_json.specs.Data.{Data, unsigned, string, object, no_members, member}
use Rattle.serde_json.specs.Data as json

-- as `head 3772 9f86..`, and a line feed
abbrev pub head_line : ℕ → List ℕ → List ℕ
head_line number digits = codes "head " ++ decimal number ++ codes " " ++ digits ++ codes "\n"

abbrev pub head_text : ℕ → List ℕ → List ℕ
head_text number head = head_line number (encode_lower head)

-- as an object: `{"head":"9f86..","number":3772}`
abbrev pub head_object : ℕ → List ℕ → Data
head_object number head = object (member (codes "head") (string (encode_lower head)) (member (codes "number") (json.number (unsigned number)) no_members))

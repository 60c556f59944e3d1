-- What each run that ends has: a beginning of the first text left, an output that nothing was added to, and records.
use Rattle.std.proofs.Common.{◌≡◌, ℕ, List, [], ◌∷◌, ◌++◌, Option, Some, None, IfSome, refl, sym, append-nil}
use Rattle.std.specs.Io.KnownBytes.{Appends}
use Rattle.pfx_program.specs.Running.{first_text}
use Rattle.pfx_program.specs.Script.{Run, Step, taken}
use Rattle.pfx_program.specs.declared.report.AtRefusal.{AtRefusal}
use Rattle.pfx_program_script.specs.Records.{Fields}

-- a beginning of the first text of steps is one of the first text of more
pub begun : (tried rest : List Step) (front back : List ℕ) → first_text tried ≡ front ++ back → (more : List ℕ) × (first_text (tried ++ rest) ≡ front ++ more)
begun [] rest [] back h = (first_text rest, refl)
begun [] rest (c ∷ front) back h = cc
begun (x ∷ tried) rest front back h = (back, h)

pub nothing_more : (was : Option (List ℕ)) → Appends was was []
nothing_more None = tt
nothing_more (Some xs) = sym (append-nil xs)

pub known_rest : (p : AtRefusal) (r : Run) (left : Option (List Fields)) → (records : List Fields) × IfSome left (λ all. taken p r all ≡ records)
known_rest p r None = ([], tt)
known_rest p r (Some all) = (taken p r all, refl)

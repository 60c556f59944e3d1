-- What a watcher is told of.
use Rattle.std.specs.Prelude.{◌≡◌, ⊤, List, [], ◌∷◌, ◌++◌}
use Rattle.pfx_jobs.specs.Kind.{Kind}
use Rattle.pfx_machine.specs.Plain.{Plain}
use Rattle.pfx_record.specs.Records.{Recorded}
use Rattle.pfx_replay.specs.declared.judged.Judged.{Judged}
use Rattle.pfx_replay.specs.declared.judged.Judged.TheVariants.{Agrees, Differs}
use Rattle.pfx_replay_audit.specs.Marks.{behind}

-- this was told, if all records agree
abbrev pub IfAgrees : {J : Type 0} → Judged J → Type 0 → Type 0
IfAgrees (Agrees t) told = told
IfAgrees (Differs n what) told = ⊤

-- nothing is said of what it was told
abbrev pub untold : {J : Type 0} → Plain J → List (Recorded J) → Type 0
untold s read = ⊤

-- parts of records, one behind the other
abbrev pub joined : {J : Type 0} → List (List (Recorded J)) → List (Recorded J)
joined [] = []
joined (part ∷ parts) = part ++ joined parts

module _ {J W : Type 0} (K : Kind J) (sees : W → Plain J → List (Recorded J) → W → Type 0) where
  -- it was told of parts of a history, one behind the other, from a state on
  abbrev pub AreTold : W → Plain J → List (List (Recorded J)) → W → Type 0
  AreTold old s [] new = old ≡ new
  AreTold old s (part ∷ parts) new = (mid : W) × sees old s part mid × AreTold mid (behind K s part) parts new

  -- it was told of these records behind a state: in parts, each once, in their order, and of nothing else
  pub record Told (old new : W) (s : Plain J) (read : List (Recorded J)) : Type 0 where
    pub parts : List (List (Recorded J))
    pub whole : read ≡ joined parts
    pub are : AreTold old s parts new

-- What a read of the next record leaves of a script.
use Rattle.std.proofs.Common.{◌≡◌, ◌+◌, ℕ, List, [], ◌∷◌, length, Bool, true, false, if◌then◌else◌, Option, Some, None, IfSome, option_map, refl, sym, ap, ◌∙◌, inl, arith}
use Rattle.csv.specs.Reading.{ReadsNext, ReadRecord, ExplainsRead, source_of, pending_of, records_from, default_config}
use Rattle.csv.specs.declared.parser.State.{State}
use Rattle.csv.specs.declared.reader.Reader.{Reader}
use Rattle.csv.specs.declared.error.ErrorKind.{ErrorKind}
use Rattle.csv.specs.declared.error.ErrorKind.TheVariants as kind
use Rattle.pfx_program_script.specs.Records.{Fields, Records, records_left, Reports, ReadFails}
use Rattle.pfx_fault.specs.declared.refusals.Fault.{Fault}
use Rattle.pfx_fault.specs.declared.refusals.Fault.TheVariants as fault
use Rattle.pfx_program_script.proofs.Texts.{verb_of-no_text}
use Rattle.pfx_program_script.proofs.NextRecords.{next_record-found, next_record-not_found, records_from-some, records_from-none, records_from-same}

-- the records of the bytes that are left, if these are known
abbrev rows_of : State → Option (List ℕ) → Option (List Fields)
rows_of s known = option_map (λ y. records_from default_config (length y + 1) s y) known

-- the first record that was left is the one that was taken, and the others are left
took : (s s2 : State) (known after : Option (List ℕ)) (fields : Fields) → ReadsNext default_config s known after true fields s2
    → IfSome (rows_of s known) (λ rows. (rest : List Fields) × (rows ≡ fields ∷ rest) × (rows_of s2 after ≡ Some rest))
took s s2 None after fields r = tt
took s s2 (Some y) after fields r =
    let (z, left, next) = next_record-found default_config s s2 y after fields r in
    let (m, more, covers) = records_from-some default_config (length y + 1) s y (fields, s2, z) (inl (omega arith)) next in (
      records_from default_config (length z + 1) s2 z,
      more ∙ ap (λ rows. fields ∷ rows) (records_from-same default_config m (length z + 1) s2 z covers (inl (omega arith))),
      ap (rows_of s2) left,
    )

found_none : (s s2 : State) (known after : Option (List ℕ)) (fields : Fields) → ReadsNext default_config s known after false fields s2 → IfSome (rows_of s known) (λ rows. rows ≡ [])
found_none s s2 None after fields r = tt
found_none s s2 (Some y) after fields r = records_from-none default_config (length y + 1) s y (next_record-not_found default_config s s2 y after fields r)

pub takes : {R : Type 0} (rem : R → Option (List ℕ)) (a b : Reader R) (fields : Fields) → a.config ≡ default_config → ReadRecord rem a b true fields
    → IfSome (records_left rem a) (λ rows. (rest : List Fields) × (rows ≡ fields ∷ rest) × (records_left rem b ≡ Some rest))
takes rem a b fields config r = rw r.1 (took a.state b.state (source_of rem a) (pending_of (rem b.rdr) b) fields (rw config at r.0))

pub takes_none : {R : Type 0} (rem : R → Option (List ℕ)) (a b : Reader R) (fields : Fields) → a.config ≡ default_config → ReadRecord rem a b false fields
    → IfSome (records_left rem a) (λ rows. rows ≡ [])
takes_none rem a b fields config r = found_none a.state b.state (source_of rem a) (pending_of (rem b.rdr) b) fields (rw config at r.0)

pub if_some : {A : Type 0} (o : Option A) (P Q : A → Type 0) → IfSome o P → ((x : A) → P x → Q x) → IfSome o Q
if_some None P Q h f = tt
if_some (Some x) P Q h f = f x h

-- whichever of the two it is
io_fails : (old : Records) (broken : Bool) → ReadFails old (if broken then fault.InputFailed else fault.NoMemory)
io_fails old true = tt
io_fails old false = tt

-- `csv` refused the read
pub refuses : {R : Type 0} (rem : R → Option (List ℕ)) (a b : Reader R) (old : Records) (e : ErrorKind) (broken : Bool) (f : Fault) → a.config ≡ default_config → a.flexible ≡ true
    → old.left ≡ records_left rem a → ExplainsRead rem a b true e → Reports e broken (old.place + 1) f → ReadFails old f
refuses rem a b old (kind.Io why) broken f config flexible is explained same = rw same (io_fails old broken)
refuses rem a b old kind.OutOfMemory broken f config flexible is explained same = rw same tt
refuses rem a b old (kind.UnequalLengths pos expected len) broken f config flexible is explained same = let never : true ≡ false = sym flexible ∙ explained.0 in absurd (cc)
refuses rem a b old (kind.Utf8 pos err) broken f config flexible is (text, fields, took_it, other) same =
    let read = took a.state b.state (source_of rem a) (pending_of (rem b.rdr) b) fields (rw config at took_it) in
    rw (same, is) (refl, if_some (records_left rem a) _ _ read (λ rows (rest, rows_are, left). (fields, rest, rows_are, verb_of-no_text fields other)))
refuses rem a b old (kind.Serialize why) broken f config flexible is explained same = absurd explained
refuses rem a b old (kind.Deserialize pos err) broken f config flexible is explained same = absurd explained

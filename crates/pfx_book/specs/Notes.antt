-- What notes say: of a session, of what the flusher took, and of what it marked.
use Rattle.std.specs.Prelude.{◌≡◌, ◌⊎◌, ℕ, ◌+◌, ◌≤◌, ◌^◌, max, List, [], ◌∷◌, ◌++◌, length, map, Option, None, Some, option_map, ⊤, Bool, true, false, nat_le}
use Rattle.std.specs.Prelude.{if◌then◌else◌}
use Rattle.std.specs.Global.{Vec}
use Rattle.pfx_jobs.specs.Kind.{Kind}
use Rattle.pfx_machine.specs.Plain.{Plain}
use Rattle.pfx_machine.specs.Outcome.{outcome}
use Rattle.pfx_machine.specs.Refusals.{refusal, reply}
use Rattle.pfx_machine.specs.declared.command.Command.{Command}
use Rattle.pfx_record.specs.declared.record.Record.{Record}
use Rattle.pfx_record.specs.Records.{plain, Recorded}
use Rattle.pfx_record_redo.specs.Applying.{applied}
use Rattle.pfx_book.specs.Batching.{real_for}
use Rattle.pfx_book.specs.declared.faults.BookFault.{BookFault}
use Rattle.pfx_book.specs.declared.faults.BookFault.TheVariants.{SessionFull, Machine}
use Rattle.pfx_book.specs.declared.note.Loss.{Loss}
use Rattle.pfx_book.specs.declared.note.Note.{Note}
use Rattle.pfx_book.specs.declared.note.Note.TheVariants.{Accepted, Refused, Receipt, Lost, Took, Marked, Failed}

-- it is one of these
abbrev pub Noted : {A : Type 0} → A → List A → Type 0
Noted x [] = ⊥
Noted x (y ∷ ys) = (y ≡ x) ⊎ Noted x ys

module _ {J : Type 0} where
  -- the command that an entry accepts
  abbrev pub added : Note J → List (Command J)
  added (Accepted n c r) = c ∷ []
  added other = []

  -- the accepted commands of a session, whose entries have their passes' numbers
  abbrev pub commands_of : List (ℕ × Note J) → List (Command J)
  commands_of [] = []
  commands_of (x ∷ xs) = added x.1 ++ commands_of xs

  -- the receipt that an entry gives: its number and its mark's clock
  abbrev pub receipt_in : Note J → List (ℕ × ℕ)
  receipt_in (Receipt n clock) = (n, clock) ∷ []
  receipt_in other = []

  -- the receipts of a session, the last one first
  abbrev pub receipts_of : List (ℕ × Note J) → List (ℕ × ℕ)
  receipts_of [] = []
  receipts_of (x ∷ xs) = receipts_of xs ++ receipt_in x.1

  -- why a command is refused in a state; a session that is full refuses all
  abbrev pub refused_at : Bool → Kind J → Plain J → Command J → Option BookFault
  refused_at true K s c = Some SessionFull
  refused_at false K s c = option_map Machine (refusal K s c)

  -- why a command is refused after these: a session has at most 2^20 accepted commands
  abbrev pub refused_in : Kind J → Plain J → List (Command J) → Command J → Option BookFault
  refused_in K B H c = refused_at (nat_le (2 ^ 20) (length H)) K (outcome K B H) c

  -- the note is right after these commands: of a session, or of a client that was told of a failure
  abbrev pub Fits : Kind J → Plain J → List (Command J) → Note J → Type 0
  Fits K B H (Accepted n c r) = (n ≡ (outcome K B H).number + 1) × ((refused_in K B H c ≡ None) × (r ≡ reply (outcome K B H) c))
  Fits K B H (Refused n c f) = (n ≡ (outcome K B H).number) × (refused_in K B H c ≡ Some f)
  Fits K B H (Receipt n clock) = n ≤ (outcome K B H).number
  Fits K B H (Lost loss) = ⊤
  Fits K B H other = ⊥

  -- each note is right at its place
  abbrev pub Legal : Kind J → Plain J → List (Command J) → List (ℕ × Note J) → Type 0
  Legal K B H [] = ⊤
  Legal K B H (x ∷ xs) = Fits K B H x.1 × Legal K B (H ++ added x.1) xs

  -- the number of an accepted command
  abbrev pub number_in : Note J → ℕ
  number_in (Accepted n c r) = n
  number_in other = 0

  -- the greatest number that was accepted, 0 if none was
  abbrev pub greatest : List (Note J) → ℕ
  greatest [] = 0
  greatest (x ∷ xs) = max (number_in x) (greatest xs)

  -- what a client was told of it that the flusher had given up, the first time
  abbrev pub lost_or : Note J → Option Loss → Option Loss
  lost_or (Lost loss) rest = Some loss
  lost_or other rest = rest

  abbrev pub lost_in : List (Note J) → Option Loss
  lost_in [] = None
  lost_in (x ∷ xs) = lost_or x (lost_in xs)

  -- the records that a note says were taken
  abbrev pub taken_in : Note J → List (Recorded J)
  taken_in (Took n records) = map plain records.items
  taken_in other = []

  -- the records that the flusher's notes say it took
  abbrev pub records_in : List (Note J) → List (Recorded J)
  records_in [] = []
  records_in (x ∷ xs) = taken_in x ++ records_in xs

  -- the vector of a note, if it has one
  abbrev pub took_in : Note J → Option (Vec (Record J))
  took_in (Took n records) = Some records
  took_in other = None

  -- what a note of a pass rests on among the flusher's: a receipt on a mark no lower, with its clock; a loss on the failure
  abbrev pub Backed : List (Note J) → Note J → Type 0
  Backed notes (Receipt n clock) = (m : ℕ) × (n ≤ m) × Noted (Marked m clock) notes
  Backed notes (Lost loss) = Noted (Failed loss.cause) notes
  Backed notes other = ⊤

  abbrev pub AllBacked : List (Note J) → List (ℕ × Note J) → Type 0
  AllBacked notes [] = ⊤
  AllBacked notes (x ∷ xs) = Backed notes x.1 × AllBacked notes xs

  -- a mark is noted of all that was taken, since some clock
  abbrev pub IsRested : ℕ → List (Note J) → Type 0
  IsRested first notes = (clock : ℕ) × Noted (Marked (first + length (records_in notes)) clock) notes

  -- these records may come next after the notes: where the noted ones lead to a state, they are of its set, say of no task that it
  -- is real unless they are of new weights, begin after its number, and lead on
  abbrev pub GoesOn : Kind J → Plain J → List (Note J) → ℕ → ℕ → ℕ → List (Recorded J) → Type 0
  GoesOn K start notes workers real first records = (t : Plain J) → applied K start (records_in notes) ≡ Some t →
      (workers ≡ t.ledger.set.workers) × (real ≡ real_for t.ledger.set.real records) × (first ≡ t.number + 1) × ((u : Plain J) × (applied K t records ≡ Some u))

  -- a session has no losses: these are for the clients alone
  abbrev pub is_entry : Note J → Bool
  is_entry (Lost loss) = false
  is_entry other = true

  abbrev pub entries_of : List (ℕ × Note J) → List (ℕ × Note J)
  entries_of [] = []
  entries_of (x ∷ xs) = if is_entry x.1 then x ∷ entries_of xs else entries_of xs

  -- a client's notes without losses
  abbrev pub answers_of : List (Note J) → List (Note J)
  answers_of [] = []
  answers_of (x ∷ xs) = if is_entry x then x ∷ answers_of xs else answers_of xs

  -- the session of a single pass, by its notes: their entries, each with the number of the first pass
  abbrev pub alone : List (Note J) → List (ℕ × Note J)
  alone notes = map (λ e. (1, e)) (answers_of notes)

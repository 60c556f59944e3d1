-- The batch that the bytes of a frame are.
use Rattle.std.specs.Prelude.{ℕ, zero, suc, ◌==◌, ◌&&◌, if◌then◌else◌, List, [], ◌∷◌, length, take, drop, slice_index, Option, Some, None}
use Rattle.std.specs.Str.{bytes_eq}
use Rattle.byteorder.specs.Endian.{little_number}
use Rattle.pfx_checkpoint.specs.Whole.{if_some}
use Rattle.pfx_jobs.specs.Kind.{Kind}
use Rattle.pfx_record.specs.Batches.{PlainBatch, batch_bytes, batch_fits}
use Rattle.pfx_record.specs.Records.{Recorded, submitted, ran, withdrawn, reweighed, place_bytes, record_bytes}
use Rattle.pfx_record.specs.declared.record.Place.{Place}
use Rattle.pfx_weights.specs.Bytes.{weights_of}

-- the flag of a place and the state after it, at the front of these bytes
abbrev pub state_at : {J : Type 0} → Kind J → List ℕ → Option (Option J)
state_at K [] = None
state_at K (flag ∷ bytes) = if flag == 0 then Some None else if_some (K.decoded (take 128 bytes)) (λ s. Some (Some s))

-- a place at the front of these bytes
abbrev pub place_at : {J : Type 0} → Kind J → List ℕ → Option (Place J)
place_at K bytes = if_some (state_at K (drop 2 bytes)) (λ state. Some (record { task = little_number 2 bytes; state = state }))

-- a row of so many places there
abbrev pub row_at : {J : Type 0} → Kind J → ℕ → List ℕ → Option (List (Place J))
row_at K zero bytes = Some []
row_at K (suc n) bytes = if_some (place_at K bytes)
    (λ place. if_some (row_at K n (drop (length (place_bytes K place)) bytes)) (λ row. Some (place ∷ row)))

-- a record there, by its tag, of rows of so many places and weights of so many real tasks
abbrev pub record_at : {J : Type 0} → Kind J → ℕ → ℕ → List ℕ → Option (Recorded J)
record_at K workers real [] = None
record_at K workers real (tag ∷ bytes) =
    if tag == 1 then if_some (K.decoded (take 128 (drop 2 bytes))) (λ s. Some (submitted (little_number 2 bytes) s))
    else (if tag == 2 then if_some (row_at K workers bytes) (λ row. Some (ran row))
    else (if tag == 3 then Some (withdrawn (little_number 2 bytes))
    else Some (reweighed (slice_index bytes 0) (weights_of real (drop 1 bytes)))))

-- so many records there
abbrev pub records_at : {J : Type 0} → Kind J → ℕ → ℕ → ℕ → List ℕ → Option (List (Recorded J))
records_at K workers real zero bytes = Some []
records_at K workers real (suc n) bytes = if_some (record_at K workers real bytes)
    (λ done. if_some (records_at K workers real n (drop (length (record_bytes K done)) bytes)) (λ records. Some (done ∷ records)))

-- the number of a frame's first command
abbrev pub first_in : List ℕ → ℕ
first_in frame = little_number 8 (drop 5 frame)

-- how many commands a frame has
abbrev pub count_in : List ℕ → ℕ
count_in frame = little_number 2 (drop 13 frame)

-- the batch that the bytes begin, with these records
abbrev pub begun : {J : Type 0} → List ℕ → List (Recorded J) → PlainBatch J
begun frame records = record { first = first_in frame; records = records }

-- the batch, if it has a spelling, and these very bytes are it
abbrev pub checked : {J : Type 0} → Kind J → ℕ → ℕ → List ℕ → List (Recorded J) → Option (PlainBatch J)
checked K workers real frame records =
    if batch_fits workers real (begun frame records) && bytes_eq frame (batch_bytes K (begun frame records))
    then Some (begun frame records) else None

-- the batch that these bytes are, of rows of so many tasks, and of weights for so many real ones
unfoldable pub batch_in : {J : Type 0} → Kind J → ℕ → ℕ → List ℕ → Option (PlainBatch J)
batch_in K workers real frame = if_some (records_at K workers real (count_in frame) (drop 15 frame)) (checked K workers real frame)

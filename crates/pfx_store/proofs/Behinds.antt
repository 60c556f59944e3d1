-- What stands behind the gate of a spelled frame.
use Rattle.std.specs.Prelude.{◌≡◌, ℕ, ◌+◌, ◌-◌, ◌<◌, ◌^◌, List, [], ◌∷◌, ◌++◌, length, take, drop, Bool, true, false, Option, Some, None, IsTrue, IsFalse, refl}
use Rattle.std.proofs.Common.{sym, ◌∙◌, ap, arith, length-append}
use Rattle.std.proofs.lemmas.List.{length-drop, take_all}
use Rattle.std.proofs.lemmas.Option.{none-some}
use Rattle.byteorder.specs.Endian.{little_number}
use Rattle.pfx_disk.specs.declared.gates.TheConstants.{GATE_OPEN}
use Rattle.pfx_jobs.specs.Kind.{Kind, Laws}
use Rattle.pfx_record.specs.Batches.{PlainBatch, all_fit, batch_bytes, batch_fits, counts_fit}
use Rattle.pfx_record.specs.Numbers.{number_bytes}
use Rattle.pfx_record.specs.Records.{form_of, records_bytes}
use Rattle.pfx_record.proofs.Bodies.{records_len, short_batch}
use Rattle.pfx_record.proofs.Heads.{counts_of, parts_of}
use Rattle.pfx_record.proofs.Rising.{both}
use Rattle.pfx_segment.specs.Frames.{IsFrame, number_4}
use Rattle.pfx_store_format.proofs.Batches.{head_there, number_there, split_batch}
use Rattle.pfx_store.specs.Files.{behind_of}
use Rattle.pfx_store.specs.Standing.{IsBehind}

module _ {J : Type 0} (K : Kind J) (L : Laws K) (batch : PlainBatch J) where
  -- the head behind the gate, and the records
  abbrev rest : List ℕ
  rest = ((number_bytes 4 (length (records_bytes K batch.records)) ++ number_bytes 8 batch.first) ++ number_bytes 2 (length batch.records)) ++ records_bytes K batch.records

  opens : batch_bytes K batch ≡ GATE_OPEN ∷ rest
  opens = split_batch K L batch

  -- four bytes can tell its length
  pub few_bytes : (workers real : ℕ) → IsTrue (batch_fits workers real batch) → length (batch_bytes K batch) < 2 ^ 32
  few_bytes workers real fits =
      let parts = both (counts_fit workers batch.first (length batch.records)) (all_fit (form_of workers real (length batch.records)) batch.records) fits in
      let counts = counts_of workers batch.first (length batch.records) parts.0 in
      let short = short_batch K L workers real batch.first batch.records fits in
      omega (arith, short.whole, short.number, records_len K L (form_of workers real (length batch.records)) batch.records counts.few_workers parts.1)

  frame_is : (workers real : ℕ) → IsTrue (batch_fits workers real batch) → length (batch_bytes K batch) < 2 ^ 32 → IsFrame (GATE_OPEN ∷ rest)
  frame_is workers real fits short =
      let head = head_there K L workers real batch fits in
      let long = head.long in
      let len = length (records_bytes K batch.records) in
      let places = parts_of (batch_bytes K batch) len batch.first (length batch.records) (record { rest = records_bytes K batch.records; is = split_batch K L batch }) in
      let read : little_number 4 (drop 1 (batch_bytes K batch)) ≡ len = ap (little_number 4) places.len_at.is ∙ number_there 4 len places.len_at.rest (omega (arith, long, short)) in
      let there : little_number 4 rest ≡ len = ap (λ l. little_number 4 (drop 1 l)) (sym opens) ∙ read in
      let whole : length (GATE_OPEN ∷ rest) ≡ 15 + len = ap length (sym opens) ∙ long in
      record {
        gate = refl;
        whole = whole ∙ (let same : number_4 1 (GATE_OPEN ∷ rest) ≡ little_number 4 rest = omega arith in omega (arith, same, there));
      }

  pub behind_is : (workers real : ℕ) (frame : List ℕ) → IsTrue (batch_fits workers real batch) → length (batch_bytes K batch) < 2 ^ 32 → frame ≡ batch_bytes K batch ++ 0 ∷ [] → IsBehind (batch_bytes K batch) (take (length frame - 1) (drop 1 frame))
  behind_is workers real frame fits short is =
      let spelled : frame ≡ GATE_OPEN ∷ (rest ++ 0 ∷ []) = is ∙ ap (λ l. l ++ 0 ∷ []) opens in
      let split : take (length frame - 1) (drop 1 frame) ≡ rest ++ 0 ∷ [] = ap (λ l. take (length l - 1) (drop 1 l)) spelled ∙ take_all _ (rest ++ 0 ∷ []) (omega arith) in
      (rest, opens, record { split = split; frame = frame_is workers real fits short })

-- records that lead somewhere are taken over
pub taken_by : {A : Type 0} (b : Bool) (o : Option A) (new t : A) → (IsTrue b → o ≡ Some new) → (IsFalse b → o ≡ None) → o ≡ Some t → o ≡ Some new
taken_by true o new t taken wrong right = taken refl
taken_by false o new t taken wrong right = absurd (none-some t (sym (wrong refl) ∙ right))

-- what stands behind the gate of a frame, with a closed gate behind it, is as long as the frame, and is some bytes
pub behind_len : (frame bytes : List ℕ) → IsBehind frame bytes → length bytes ≡ length frame
behind_len frame bytes is = omega (arith, ap length is.1, ap length is.2.split, length-append is.0 (0 ∷ []))

pub behind_some : (frame bytes : List ℕ) → IsBehind frame bytes → 0 < length bytes
behind_some frame bytes is = omega (arith, ap length is.2.split, length-append is.0 (0 ∷ []))

-- what is written behind the gate is as long as the frame
pub behind_long : {J : Type 0} (K : Kind J) (L : Laws K) (batch : PlainBatch J) → length (behind_of (batch_bytes K batch)) ≡ length (batch_bytes K batch)
behind_long K L batch = let long = ap length (opens K L batch) in
    omega (arith, long, length-append (drop 1 (batch_bytes K batch)) (0 ∷ []), length-drop 1 (batch_bytes K batch))

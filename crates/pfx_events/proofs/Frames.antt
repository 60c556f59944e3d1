-- The frame of an acceptable batch: it leads from a state to the batch's outcome, and has room in an empty segment.
use Rattle.std.specs.Prelude.{◌≡◌, ◌⊎◌, ℕ, ◌+◌, ◌*◌, ◌^◌, ◌<◌, ◌≤◌, List, [], ◌∷◌, ◌++◌, length, drop, slice_index, Some, None, IsTrue, refl, take, ◌-◌}
use Rattle.std.proofs.Common.{sym, ◌∙◌, ap, subst, arith, inl, inr, length-append}
use Rattle.std.proofs.Math.Nat.{le-max_right}
use Rattle.std.proofs.lemmas.List.{get_or_at}
use Rattle.byteorder.specs.Endian.{little_number}
use Rattle.pfx_disk.specs.declared.gates.TheConstants.{GATE_OPEN}
use Rattle.pfx_record_redo.specs.Recording.{records_of}
use Rattle.pfx_store_format.specs.Format.{format}
use Rattle.pfx_store_format.specs.Frames.{state_after}
use Rattle.pfx_store_format.proofs.Batches.{number_there}
use Rattle.byteorder.specs.Numbers.{little_from-take}
use Rattle.pfx_jobs.specs.Kind.{Kind, Laws}
use Rattle.pfx_machine.specs.Batches.{AreCommon, IsBatchable}
use Rattle.pfx_machine.specs.Plain.{Plain, IsState}
use Rattle.pfx_machine.specs.Refusals.{refusal}
use Rattle.pfx_machine.specs.Reweighing.{reweigh_fault}
use Rattle.pfx_machine.specs.Outcome.{outcome}
use Rattle.pfx_machine.specs.Sessions.{IsAcceptable}
use Rattle.pfx_machine.specs.declared.command.Command.{Command}
use Rattle.pfx_machine.specs.declared.command.Command.TheVariants.{Submit, Slot, Withdraw, Reweigh}
use Rattle.pfx_machine.proofs.Compose.{outcome-none}
use Rattle.pfx_machine.proofs.Keeping.{below_limit}
use Rattle.pfx_machine.proofs.Reweighs.{accepted_set}
use Rattle.pfx_record.specs.Batches.{PlainBatch, batch_bytes, batch_fits}
use Rattle.pfx_record.specs.Numbers.{number_bytes}
use Rattle.pfx_record.specs.Records.{records_bytes}
use Rattle.pfx_record.proofs.Again.{length-number_bytes}
use Rattle.pfx_store.proofs.Behinds.{behind_is}
use Rattle.pfx_store.proofs.Grouping as grouping
use Rattle.pfx_store.specs.Standing.{IsBehind}
use Rattle.pfx_record.proofs.Bodies.{Short, short_batch}
use Rattle.pfx_segment.specs.Frames.{IsFrame}
use Rattle.pfx_store_file.specs.Holding.{IsStart}
use Rattle.pfx_store.specs.Files.{behind_of, start_of}
use Rattle.pfx_events.specs.Store.{frame_of}

-- a batch is of common commands, or of a Reweigh alone
common_or_new : {J : Type 0} (H : List (Command J)) → IsBatchable H → AreCommon H ⊎ ((m : ℕ) × (weights : List (ℕ × ℕ)) × (H ≡ Reweigh m weights ∷ []))
common_or_new [] may = inl tt
common_or_new (Submit task job ∷ []) may = inl (tt, tt)
common_or_new (Withdraw task ∷ []) may = inl (tt, tt)
common_or_new (Slot ∷ []) may = inl (tt, tt)
common_or_new (Reweigh m weights ∷ []) may = inr (m, weights, refl)
common_or_new (c ∷ d ∷ H) may = inl may

-- a Reweigh that is accepted leaves room for the record of its weights
new_room : {J : Type 0} (K : Kind J) (s : Plain J) (m : ℕ) (weights : List (ℕ × ℕ)) → IsAcceptable K s (Reweigh m weights ∷ []) → 27 + 8 * s.ledger.set.real ≤ s.segment
new_room K s m weights all =
    let accepted : refusal K s (Reweigh m weights) ≡ None = ap (λ t. refusal K t (Reweigh m weights)) (sym (outcome-none K s)) ∙ all.0 in
    let new = accepted_set s m weights (below_limit s.number (reweigh_fault s m weights) accepted).1 in
    omega (arith, new.room, le-max_right (41 + 2096 * m) (27 + 8 * s.ledger.set.real))

module _ {J : Type 0} (K : Kind J) (L : Laws K) (s : Plain J) (H : List (Command J)) (some : 0 < length H) (few : length H ≤ 16) (may : IsBatchable H) (state : IsState s) (all : IsAcceptable K s H) where
  abbrev batch : PlainBatch J
  batch = record { first = s.number + 1; records = records_of K s H }

  abbrev workers : ℕ
  workers = s.ledger.set.workers

  abbrev real : ℕ
  real = s.ledger.set.real

  batch_fits_here : IsTrue (batch_fits s.ledger.set.workers s.ledger.set.real (record { first = s.number + 1; records = records_of K s H }))
  batch_fits_here = grouping.group_fits K L s H state all some few may

  pub frame_led : state_after K s (frame_of K s H) ≡ Some (outcome K s H)
  frame_led = grouping.batch_led K L s H state all some few may

  -- its length, and that it is one frame
  short : Short K L workers real batch.first batch.records
  short = short_batch K L workers real batch.first batch.records batch_fits_here

  few_bytes : length (batch_bytes K (record { first = s.number + 1; records = records_of K s H })) < 2 ^ 32
  few_bytes =
      let whole = short.whole in
      let m = state.ledger.set.workers.1 in
      let n = state.ledger.set.real.1 in
      elim short.body [
        | inl rows ↦ omega (arith, rows, whole, m)
        | inr new ↦ omega (arith, new, whole, n)
      ]

  spelled_so : IsBehind (batch_bytes K batch) (take (length (batch_bytes K batch ++ 0 ∷ []) - 1) (drop 1 (batch_bytes K batch ++ 0 ∷ [])))
  spelled_so = behind_is K L batch workers real (batch_bytes K batch ++ 0 ∷ []) batch_fits_here few_bytes refl

  pub opens_here : frame_of K s H ≡ GATE_OPEN ∷ drop 1 (frame_of K s H)
  opens_here = spelled_so.1 ∙ ap (λ l. GATE_OPEN ∷ drop 1 l) (sym spelled_so.1)

  common_len : AreCommon H → length (records_bytes K (records_of K s H)) ≤ 16 + 2096 * workers
  common_len common =
      let rows = short_batch K L workers 0 batch.first batch.records (grouping.common_batch_fits K L s H state all some few 0 common) in
      elim rows.body [
        | inl low ↦ low
        | inr low ↦ omega (arith, low)
      ]

  -- it has room in an empty segment, behind the number and with the next gate behind it
  pub frame_room : 41 + 2096 * s.ledger.set.workers ≤ s.segment → length (behind_of (frame_of K s H)) + 9 < s.segment
  frame_room least =
      let one = ap length opens_here in
      let long : length (behind_of (frame_of K s H)) ≡ 15 + length (records_bytes K (records_of K s H)) = omega (arith, one, short.whole, length-append (drop 1 (frame_of K s H)) (0 ∷ [])) in
      elim (common_or_new H may) [
        | inl common ↦ omega (arith, long, common_len common, least)
        | inr new ↦
            let room = new_room K s new.0 new.1 (subst (λ G. IsAcceptable K s G) new.2 all) in
            elim short.body [
              | inl rows ↦ omega (arith, long, rows, least)
              | inr most ↦ omega (arith, long, most, room)
            ]
      ]

  pub frame_there : IsFrame (GATE_OPEN ∷ drop 1 (frame_of K s H))
  frame_there = subst IsFrame (sym spelled_so.1 ∙ opens_here) spelled_so.2.frame

-- the bytes behind the gate of a segment
pub start_is : {J : Type 0} (K : Kind J) (s : Plain J) → IsState s → IsStart (format K) (s.number + 1) (start_of s)
start_is K s state = record {
  long = omega (arith, length-append (number_bytes 8 (s.number + 1)) (0 ∷ []), length-number_bytes 8 (s.number + 1));
  number = little_from-take 0 8 8 (start_of s) (omega arith) ∙ number_there_here;
  closed = closed_here (number_bytes 8 (s.number + 1)) (length-number_bytes 8 (s.number + 1));
}
  where
    number_there_here : little_number 8 (number_bytes 8 (s.number + 1) ++ 0 ∷ []) ≡ s.number + 1
    number_there_here = let n = state.number in number_there 8 (s.number + 1) (0 ∷ []) (omega (arith, n))

    closed_here : (xs : List ℕ) → length xs ≡ 8 → slice_index (xs ++ 0 ∷ []) 8 ≡ 0
    closed_here xs long = get_or_at xs 0 [] 0 8 long

-- An append of a store, be it of a batch or of new weights, in each world whose store it is.
use Rattle.std.specs.Prelude.{◌≡◌, ◌≤◌, ◌⊎◌, ℕ, ◌+◌, List, [], ◌∷◌, ◌++◌, Some, Result, OnOk, IsErrOf, length, refl}
use Rattle.std.proofs.Common.{subst, inl, inr, ⊎_elim}
use Rattle.pfx_disk.specs.CallsMade.{HasMade, HasBrokenOff, HasKeptTo, LeavesAtMost}
use Rattle.pfx_disk.specs.Disk.{View, IsHonest}
use Rattle.pfx_disk.specs.Stop.{Act}
use Rattle.pfx_store_format.specs.Format.{format}
use Rattle.pfx_jobs.specs.Kind.{Kind, Laws}
use Rattle.pfx_machine.specs.Outcome.{outcome}
use Rattle.pfx_machine.specs.Plain.{Plain, IsState}
use Rattle.pfx_machine.specs.Sessions.{IsAcceptable}
use Rattle.pfx_machine.specs.declared.command.Command.{Command}
use Rattle.pfx_record.specs.Batches.{PlainBatch, batch_bytes}
use Rattle.pfx_record_redo.specs.Applying.{applied}
use Rattle.pfx_store.specs.Files.{HasFile, appending, appended}
use Rattle.pfx_store.specs.Stores.{PlainStore}
use Rattle.pfx_store.specs.Working.{Commits, Makes}
use Rattle.pfx_store.specs.declared.appending.Mark.{Mark}
use Rattle.pfx_store_file.specs.Holding.{Survives}
use Rattle.pfx_store_file.specs.declared.faults.StoreFault.{StoreFault}
use Rattle.pfx_store_file.specs.declared.faults.StoreFault.TheVariants.{Device}
use Rattle.pfx_events_world.specs.Events.{Event, Stop, Take, CanRun, MayHappen, happens, next_of, run}
use Rattle.pfx_events_world.specs.World.{World, state_at}
use Rattle.pfx_events.specs.Batches.{frames_of, joined, AreSmall, KeepsBatches}
use Rattle.pfx_events.specs.Store.{store_of}
use Rattle.pfx_events.specs.Ties.{Carries, IsIn, IsTied, through, broken_off}
use Rattle.pfx_events.proofs.Batching.{batches_survive, frames_survive, front_grown, small_grown, length_frames}
use Rattle.pfx_events.proofs.Reaching.{reached_on}
use Rattle.pfx_events.proofs.Tying.{all_made, broke, kept_state, within, same_calls, same_file, taken_state, frames_grown, frames_led, on_ok_both, on_ok_all, on_ok_then}

module _ {D J : Type 0} (K : Kind J) (L : Laws K) (view : D → View) (old new : PlainStore D J) (batch : PlainBatch J) (result : Result Mark StoreFault) where
  abbrev a : View
  a = view old.file.disk

  abbrev b : View
  b = view new.file.disk

  -- The calls of the disk, where the flusher takes the batch's commands.
  module _ (acts : Makes view old new result K (λ f. appending K f old.state (batch_bytes K batch)) (λ f. appended K f old.state (batch_bytes K batch)) (OnOk result))
      (B : Plain J) (w : World (store_of K)) (n : ℕ) (may : MayHappen (store_of K) B w (Take n)) where
    abbrev s : Plain J
    s = state_at (store_of K) B w.book.accepted w.book.taken

    abbrev H : List (Command J)
    H = next_of (store_of K) w n

    abbrev calls : List Act
    calls = (store_of K).calls w.place s H

    abbrev events : List (Event J)
    events = Take n ∷ through calls

    module _ (is : IsIn K w old.file.places old.spelled a) (same : old.state ≡ s) (carries : Carries K old.state H batch) (honest : IsHonest a) where
      pub takes : OnOk result (CanRun (store_of K) B w events × IsIn K (run (store_of K) B w events) new.file.places new.spelled b)
      takes = on_ok_both result (acts.made w.place is.has honest) (acts.file w.place is.has honest) (λ made has.
          let r = all_made K B (happens (store_of K) B w (Take n)) calls refl may.0.goes_on a b is.after
          (subst (λ l. HasMade l a b) (same_calls K w.place old.state s H batch same carries) made) new.file.places new.spelled
          (subst (λ f. HasFile K f new.file.places new.spelled) (same_file K w.place old.state s H batch same carries) has) in
          ((may, r.0), r.1))

      pub breaks_off : IsErrOf result Device → (gone : List Act) × CanRun (store_of K) B w (Take n ∷ broken_off gone)
          × LeavesAtMost b (run (store_of K) B w (Take n ∷ broken_off gone)).start (run (store_of K) B w (Take n ∷ broken_off gone)).done
      breaks_off failed =
          let r = broke K B (happens (store_of K) B w (Take n)) calls refl may.0.goes_on a b is.after
          (subst (λ l. HasBrokenOff l a b) (same_calls K w.place old.state s H batch same carries) (acts.broken_off w.place is.has honest failed)) in
          (r.0, (may, r.1), r.2)

    module _ (tied : IsTied K view B w old) (carries : Carries K old.state H batch) where
      pub onward : OnOk result (applied K old.state batch.records ≡ Some new.state) → (IsHonest a → IsHonest b) → OnOk result (CanRun (store_of K) B w events × IsTied K view B (run (store_of K) B w events) new)
      onward moved stays =
          let v = happens (store_of K) B w (Take n) in
          let is = tied.there in
          on_ok_all result (acts.made w.place is.has tied.honest) (acts.file w.place is.has tied.honest) moved (λ made has led.
          let r = all_made K B v calls refl may.0.goes_on a b is.after
          (subst (λ l. HasMade l a b) (same_calls K w.place old.state s H batch tied.state carries) made) new.file.places new.spelled
          (subst (λ f. HasFile K f new.file.places new.spelled) (same_file K w.place old.state s H batch tied.state carries) has) in (
            (may, r.0),
            record {
              reached = reached_on (store_of K) B w events tied.reached (may, r.0);
              there = r.1;
              state = kept_state K B v calls refl may.0.goes_on a b is.after new.state (taken_state K L B w n old.state new.state batch tied.reached may tied.state carries led);
              honest = stays tied.honest;
            },
          ))

      pub stopped_within : (d : ℕ) → (image : List ℕ) → d ≤ a.clock → b.since d image
          → a.since d image ⊎ ((gone : List Act) × CanRun (store_of K) B w (Take n ∷ through gone) × MayHappen (store_of K) B (run (store_of K) B w (Take n ∷ through gone)) (Stop image))
      stopped_within d image past left =
          let is = tied.there in
          ⊎_elim inl (λ m. inr (m.0, (may, m.1), m.2)) (within K B (happens (store_of K) B w (Take n)) calls refl may.0.goes_on a b is.after
          (subst (λ l. HasKeptTo l a b) (same_calls K w.place old.state s H batch tied.state carries) (acts.between w.place is.has tied.honest)) d image past left)

  -- Said of lists of batches, the last of which is this one.
  module _ (commits : IsHonest a → Commits K old.state (batch_bytes K batch) result a b) (start : Plain J) (batches : List (List (Command J))) (G : List (Command J)) (state : IsState start)
      (all : IsAcceptable K start (joined (batches ++ G ∷ []))) (small : AreSmall (batches ++ G ∷ [])) (at : old.state ≡ outcome K start (joined batches)) (carries : Carries K old.state G batch) (honest : IsHonest a) where
    front : IsAcceptable K start (joined batches)
    front = front_grown K L start batches G all

    few : AreSmall batches
    few = small_grown K L batches G small

    pub keeps : (d n : ℕ) → d ≤ a.clock → ((image : List ℕ) → a.since d image → KeepsBatches K start batches n image) → (image : List ℕ) → b.since d image → KeepsBatches K start (batches ++ G ∷ []) n image
    keeps d n past before image left =
        batches_survive K L start (batches ++ G ∷ []) n image state all small
        (subst (λ l. Survives (format K) start l n image) (frames_grown K L start start old.state batches G batch at carries)
        ((commits honest).keeps start (frames_of K start batches) (frames_led K L start start old.state batches state front few at) d n past
        (λ i l. frames_survive K L start batches n i state front few (before i l)) image left))

    pub acknowledged : OnOk result ((image : List ℕ) → b.since b.clock image → KeepsBatches K start (batches ++ G ∷ []) (length batches + 1) image)
    acknowledged =
        on_ok_then result ((commits honest).acknowledged start (frames_of K start batches) (frames_led K L start start old.state batches state front few at)) (λ each image since.
        batches_survive K L start (batches ++ G ∷ []) (length batches + 1) image state all small
        (subst (λ k. Survives (format K) start (frames_of K start (batches ++ G ∷ [])) (k + 1) image) (length_frames K L start batches)
        (subst (λ l. Survives (format K) start l (length (frames_of K start batches) + 1) image) (frames_grown K L start start old.state batches G batch at carries) (each image since))))

-- Records and frames of lists of commands, in parts.
use Rattle.std.specs.Prelude.{◌≡◌, ℕ, List, [], ◌∷◌, ◌++◌, length, refl}
use Rattle.std.proofs.Common.{sym, ◌∙◌, ap, subst, arith, append_assoc, append-nil}
use Rattle.pfx_store_format.specs.Format.{format}
use Rattle.pfx_jobs.specs.Kind.{Kind, Laws}
use Rattle.pfx_machine.specs.Plain.{Plain, IsState}
use Rattle.pfx_machine.specs.Outcome.{outcome}
use Rattle.pfx_machine.specs.Sessions.{AllAccepted, IsAcceptable}
use Rattle.pfx_machine.specs.declared.command.Command.{Command}
use Rattle.pfx_store_file.specs.Holding.{Survives}
use Rattle.pfx_events_world.proofs.Machine.{front_accepted}
use Rattle.pfx_events.specs.Batches.{frames_of, joined, AreSmall, KeepsBatches}
use Rattle.pfx_store.proofs.Grouping.{to_frames, to_groups}
pub use Rattle.pfx_store.proofs.Grouping.{first_frames_lead, frames_lead, frames_there, records_split}
pub use Rattle.pfx_store.proofs.Grouping.{frames_snoc as frames_grow}

module _ {J : Type 0} (K : Kind J) (L : Laws K) where
  pub length_frames : (s : Plain J) (batches : List (List (Command J))) → length (frames_of K s batches) ≡ length batches
  length_frames s [] = refl
  length_frames s (batch ∷ batches) = omega (arith, length_frames (outcome K s batch) batches)

  -- what survives of the frames is what survives of the batches
  pub batches_survive : (s : Plain J) (batches : List (List (Command J))) (n : ℕ) (image : List ℕ) → IsState s → IsAcceptable K s (joined batches) → AreSmall batches →
      Survives (format K) s (frames_of K s batches) n image → KeepsBatches K s batches n image
  batches_survive s batches n image state all small v = to_groups K L s batches state all small n image v

  pub frames_survive : (s : Plain J) (batches : List (List (Command J))) (n : ℕ) (image : List ℕ) → IsState s → IsAcceptable K s (joined batches) → AreSmall batches →
      KeepsBatches K s batches n image → Survives (format K) s (frames_of K s batches) n image
  frames_survive s batches n image state all small v = to_frames K L s batches state all small n image v

  -- one batch more
  joined_grow : (batches : List (List (Command J))) (batch : List (Command J)) → joined (batches ++ batch ∷ []) ≡ joined batches ++ batch
  joined_grow [] batch = append-nil batch
  joined_grow (first ∷ batches) batch = ap (λ l. first ++ l) (joined_grow batches batch) ∙ sym (append_assoc first (joined batches) batch)

  pub front_grown : (s : Plain J) (batches : List (List (Command J))) (batch : List (Command J)) → IsAcceptable K s (joined (batches ++ batch ∷ [])) → IsAcceptable K s (joined batches)
  front_grown s batches batch all = front_accepted K s [] (joined batches) batch (subst (λ l. AllAccepted K s [] l) (joined_grow batches batch) all)

  pub small_grown : (batches : List (List (Command J))) (batch : List (Command J)) → AreSmall (batches ++ batch ∷ []) → AreSmall batches
  small_grown [] batch small = tt
  small_grown (first ∷ batches) batch small = (small.0, small.1, small.2, small_grown batches batch small.3)

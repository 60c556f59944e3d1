-- What was taken is the accepted commands, in groups.
use Rattle.std.proofs.Common.{◌≡◌, ℕ, zero, suc, ◌+◌, ◌≤◌, List, [], ◌∷◌, ◌++◌, length, map, take, drop, refl, sym, ap, ◌∙◌, subst, arith, append_assoc, append-nil, length-append}
use Rattle.std.proofs.lemmas.List.{take-append-drop, length-take-le, length-map}
use Rattle.pfx_jobs.specs.Kind.{Kind, Laws}
use Rattle.pfx_machine.specs.Plain.{Plain, IsState}
use Rattle.pfx_machine.specs.Outcome.{outcome}
use Rattle.pfx_machine.specs.Refusals.{refusal}
use Rattle.pfx_machine.specs.Sessions.{AllAccepted, IsAcceptable}
use Rattle.pfx_machine.specs.declared.command.Command.{Command}
use Rattle.pfx_machine.proofs.Compose.{outcome-outcome}
use Rattle.pfx_machine.proofs.Keeping.{prefix_is_state}
use Rattle.pfx_record.specs.Batches.{batch_bytes}
use Rattle.pfx_record.specs.Records.{plain}
use Rattle.pfx_record_redo.specs.Recording.{records_of}
use Rattle.pfx_book_slot.proofs.Placed.{take_own}
use Rattle.pfx_store.specs.Groups.{joined, AreSmall}
use Rattle.pfx_store.specs.Groups as groups
use Rattle.pfx_store.proofs.Grouping.{length-records, records_split}
use Rattle.pfx_book.specs.declared.note.Note.{Note}
use Rattle.pfx_book.specs.declared.note.Note.TheVariants.{Accepted, Refused, Receipt, Lost, Took, Marked, Failed}
use Rattle.pfx_book.specs.Batching.{MayShare}
use Rattle.pfx_book.specs.Notes.{records_in}
use Rattle.pfx_book.proofs.Notes.{number_is}
use Rattle.pfx_book.proofs.Sharing.{batchable}
use Rattle.pfx_front.specs.Keeping.{frames_of, AreCounted}

drop_own : {A : Type 0} (xs rest : List A) → drop (length xs) (xs ++ rest) ≡ rest
drop_own [] rest = refl
drop_own (x ∷ xs) rest = drop_own xs rest

pub take_joined : {J : Type 0} (k : ℕ) (gs : List (List (Command J))) → joined (take k gs) ++ joined (drop k gs) ≡ joined gs
take_joined zero gs = refl
take_joined (suc k) [] = refl
take_joined (suc k) (group ∷ gs) = append_assoc group (joined (take k gs)) (joined (drop k gs)) ∙ ap (λ l. group ++ l) (take_joined k gs)

module _ {J : Type 0} (K : Kind J) where
  pub front_accepted : (s : Plain J) (before H G : List (Command J)) → AllAccepted K s before (H ++ G) → AllAccepted K s before H
  front_accepted s before [] G all = tt
  front_accepted s before (c ∷ H) G all = (all.0, front_accepted s (before ++ c ∷ []) H G all.1)

  behind_accepted : (s : Plain J) (before H G : List (Command J)) → AllAccepted K s before (H ++ G) → AllAccepted K s (before ++ H) G
  behind_accepted s before [] G all = subst (λ l. AllAccepted K s l G) (sym (append-nil before)) all
  behind_accepted s before (c ∷ H) G all = subst (λ l. AllAccepted K s l G) (append_assoc before (c ∷ []) H) (behind_accepted s (before ++ c ∷ []) H G all.1)

  none_of : (s : Plain J) (H : List (Command J)) → [] ≡ records_of K s H → H ≡ []
  none_of s [] same = refl
  none_of s (c ∷ H) same = absurd (let none = ap length same in omega (arith, none))

  module _ (L : Laws K) where
    from_there : (s : Plain J) (H mid G : List (Command J)) → AllAccepted K s (H ++ mid) G → AllAccepted K (outcome K s H) mid G
    from_there s H mid [] all = tt
    from_there s H mid (c ∷ G) all = (
      ap (λ t. refusal K t c) (outcome-outcome K L s H mid) ∙ all.0,
      from_there s H (mid ++ c ∷ []) G (subst (λ l. AllAccepted K s l G) (append_assoc H mid (c ∷ [])) all.1),
    )

    behind_there : (s : Plain J) (H G : List (Command J)) → IsAcceptable K s (H ++ G) → IsAcceptable K (outcome K s H) G
    behind_there s H G all = from_there s H [] G (subst (λ l. AllAccepted K s l G) (sym (append-nil H)) (behind_accepted s [] H G all))

    -- the noted batches are groups of these commands
    pub record IsGrouped (s : Plain J) (notes : List (Note J)) (H : List (Command J)) : Type 0 where
      pub gs : List (List (Command J))
      pub frames : frames_of K notes ≡ groups.frames_of K s gs
      pub all : joined gs ≡ H
      pub small : AreSmall gs

    skip : (s : Plain J) (x : Note J) (xs : List (Note J)) (H : List (Command J)) → frames_of K (x ∷ xs) ≡ frames_of K xs → IsGrouped s xs H → IsGrouped s (x ∷ xs) H
    skip s x xs H same h = record { gs = h.gs; frames = same ∙ h.frames; all = h.all; small = h.small }

    fewer : (n : ℕ) (xs : List (Note J)) → AreCounted (n + 0) xs → AreCounted n xs
    fewer n xs h = subst (λ k. AreCounted k xs) (omega arith) h

    pub grouped : (s : Plain J) (notes : List (Note J)) (H : List (Command J)) → IsState s → IsAcceptable K s H → records_in notes ≡ records_of K s H → AreCounted s.number notes → IsGrouped s notes H
    grouped s [] H state ok same counted = record { gs = []; frames = refl; all = sym (none_of s H same); small = tt }
    grouped s (Took first records ∷ xs) H state ok same counted =
        let n : ℕ = length records.items in
        let front : List (Command J) = take n H in
        let rest : List (Command J) = drop n H in
        let parts : front ++ rest ≡ H = take-append-drop n H in
        let enough : n ≤ length H = (
        let long = ap length same in let split = length-append (map plain records.items) (records_in xs) in let mapped = length-map records.items plain in let all = length-records K s H in
        omega (arith, long, split, mapped, all)) in
        let long : length front ≡ n = length-take-le n H enough in
        let split : map plain records.items ++ records_in xs ≡ records_of K s front ++ records_of K (outcome K s front) rest =
        same ∙ ap (records_of K s) (sym parts) ∙ records_split K L s front rest in
        let first_long : length (map plain records.items) ≡ length (records_of K s front) = length-map records.items plain ∙ sym long ∙ sym (length-records K s front) in
        let here : map plain records.items ≡ records_of K s front =
        sym (take_own (length (map plain records.items)) (map plain records.items) (records_in xs) refl)
        ∙ ap (take (length (map plain records.items))) split
        ∙ take_own (length (map plain records.items)) (records_of K s front) (records_of K (outcome K s front) rest) (sym first_long) in
        let there : records_in xs ≡ records_of K (outcome K s front) rest =
        sym (drop_own (map plain records.items) (records_in xs)) ∙ ap (drop (length (map plain records.items))) split
        ∙ ap (λ k. drop k (records_of K s front ++ records_of K (outcome K s front) rest)) first_long
        ∙ drop_own (records_of K s front) (records_of K (outcome K s front) rest) in
        let accepted : IsAcceptable K s (front ++ rest) = subst (AllAccepted K s []) (sym parts) ok in
        let number : s.number + length (map plain records.items) ≡ (outcome K s front).number = (
        let at = number_is K s front in let mapped = length-map records.items plain in omega (arith, at, mapped, long)) in
        let r = grouped (outcome K s front) xs rest (prefix_is_state K L s state front rest accepted) (behind_there s front rest accepted) there (subst (λ k. AreCounted k xs) number counted.1) in
        let small = counted.0 in record {
          gs = front ∷ r.gs;
          frames = λ i. batch_bytes K (record { first = small.0 i; records = here i }) ∷ r.frames i;
          all = ap (λ l. front ++ l) r.all ∙ parts;
          small = (omega (arith, small.1, long), omega (arith, small.2, long), batchable K s front (subst MayShare here small.3), r.small);
        }
    grouped s (Accepted n c r ∷ xs) H state ok same counted = skip s (Accepted n c r) xs H refl (grouped s xs H state ok same (fewer s.number xs counted.1))
    grouped s (Refused n c f ∷ xs) H state ok same counted = skip s (Refused n c f) xs H refl (grouped s xs H state ok same (fewer s.number xs counted.1))
    grouped s (Receipt n d ∷ xs) H state ok same counted = skip s (Receipt n d) xs H refl (grouped s xs H state ok same (fewer s.number xs counted.1))
    grouped s (Lost cause ∷ xs) H state ok same counted = skip s (Lost cause) xs H refl (grouped s xs H state ok same (fewer s.number xs counted.1))
    grouped s (Marked n d ∷ xs) H state ok same counted = skip s (Marked n d) xs H refl (grouped s xs H state ok same (fewer s.number xs counted.1))
    grouped s (Failed cause ∷ xs) H state ok same counted = skip s (Failed cause) xs H refl (grouped s xs H state ok same (fewer s.number xs counted.1))

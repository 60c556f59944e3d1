-- Slots that are run one after the other before they are kept.
use Rattle.std.specs.Prelude.{◌≡◌, ◌↔◌, ◌≤◌, ℕ, suc, Ok, Err, Bool, true, false, List, [], ◌∷◌, ◌++◌, length, map, None, IsTrue}
use Rattle.std.proofs.Common.{sym, ap, ◌∙◌, subst, refl, inl, inr, arith}
use Rattle.std.proofs.lemmas.List.{length-map}
use Rattle.pfx_record_redo.specs.Recording.{record_of}
use Rattle.pfx_store.specs.Groups.{AreRecordsOf}
use Rattle.pfx_store.proofs.Grouping.{records_split}
use Rattle.pfx_machine.specs.Plain.{Plain}
use Rattle.pfx_machine.specs.Outcome.{outcome}
use Rattle.pfx_machine.specs.Faults.{no_memory}
use Rattle.pfx_machine.specs.Refusals.{IsFaultOf, refusal}
use Rattle.pfx_machine.specs.Refusals.{reply}
use Rattle.pfx_machine.specs.Runs.{answer_by}
use Rattle.pfx_machine.specs.declared.command.Command.{Command}
use Rattle.pfx_machine.specs.declared.command.Command.TheVariants.{Submit, Slot, Withdraw, Reweigh}
use Rattle.pfx_machine.specs.Batches.{AreCommon, IsCommon}
use Rattle.pfx_machine.specs.declared.command.Reply.{Reply}
use Rattle.pfx_machine.specs.declared.faults.MachineFault.{MachineFault}
use Rattle.pfx_machine.proofs.SessionLemmas.{acceptable-snoc}
use Rattle.pfx_store_engine.specs.Promises.{slots_for}
use Rattle.pfx_store_engine.specs.Sharing.{IsChange, Told, accepted_of}
use Rattle.pfx_store_engine.proofs.Slots.{length_slots, slots_more}
use Rattle.pfx_record.specs.Records as recorded
use Rattle.pfx_store_engine.specs.Executing.{Fills}
use Rattle.pfx_store_engine.specs.Surviving.{AreRun}
use Rattle.pfx_store_engine.proofs.Keeps.{length_of}
use Rattle.pfx_jobs.specs.Kind.{Kind, Laws}

pub none_recorded : {J : Type 0} (K : Kind J) (s : Plain J) → AreRecordsOf K s [] []
none_recorded K s = record { accepted = tt; common = tt; of = refl }

-- a command that gives a task a job or takes one away is no Reweigh
pub change_common : {J : Type 0} (c : Command J) → IsChange c → IsCommon c
change_common (Submit x job) change = tt
change_common (Withdraw x) change = tt
change_common Slot change = tt
change_common (Reweigh workers weights) change = absurd change

common_snoc : {J : Type 0} (G : List (Command J)) (c : Command J) → AreCommon G → IsCommon c → AreCommon (G ++ c ∷ [])
common_snoc [] c all one = (one, tt)
common_snoc (d ∷ G) c all one = (all.0, common_snoc G c all.1 one)

-- one Slot more
pub recorded_more : {J : Type 0} (K : Kind J) (L : Laws K) (s : Plain J) (said : List (ℕ × Reply)) (x : ℕ × Reply) (records : List (recorded.Recorded J)) (done : recorded.Recorded J) → AreRecordsOf K s (slots_for said) records
    → refusal K (outcome K s (slots_for said)) Slot ≡ None → done ≡ record_of K (outcome K s (slots_for said)) Slot → AreRecordsOf K s (slots_for (said ++ x ∷ [])) (records ++ done ∷ [])
recorded_more {J = J} K L s said x records done is accepted kept =
    subst (λ (G : List (Command J)). AreRecordsOf K s G (records ++ done ∷ [])) (sym (slots_more said x)) (record {
      accepted = acceptable-snoc K s (slots_for said) Slot is.accepted accepted;
      common = common_snoc (slots_for said) Slot is.common tt;
      of = (λ i. is.of i ++ kept i ∷ []) ∙ sym (records_split K L s (slots_for said) (Slot ∷ []));
    })

-- one command more, all but a Reweigh
pub recorded_snoc : {J : Type 0} (K : Kind J) (L : Laws K) (s : Plain J) (G : List (Command J)) (c : Command J) (records : List (recorded.Recorded J)) (done : recorded.Recorded J) → AreRecordsOf K s G records
    → IsCommon c → refusal K (outcome K s G) c ≡ None → done ≡ record_of K (outcome K s G) c → AreRecordsOf K s (G ++ c ∷ []) (records ++ done ∷ [])
recorded_snoc K L s G c records done is common accepted kept = record {
  accepted = acceptable-snoc K s G c is.accepted accepted;
  common = common_snoc G c is.common common;
  of = (λ i. is.of i ++ kept i ∷ []) ∙ sym (records_split K L s G (c ∷ []));
}

-- no records are those of no command
pub no_records : {J : Type 0} (K : Kind J) (s : Plain J) (G : List (Command J)) (records : List (recorded.Recorded J)) → AreRecordsOf K s G records → length records ≡ 0 → G ≡ []
no_records K s [] records h none = refl
no_records K s (c ∷ G) records h none = absurd (let long : suc (length G) ≡ length records = length_of K s (c ∷ G) records h in omega (arith, long, none))

-- no more commands are accepted than there are
pub accepted_few : {J : Type 0} (H : List (Command J)) (told : List Told) → length (accepted_of H told) ≤ length H
accepted_few [] told = omega arith
accepted_few (c ∷ H) [] = omega arith
accepted_few (c ∷ H) (Ok x ∷ told) = let rest = accepted_few H told in omega (arith, rest)
accepted_few (c ∷ H) (Err f ∷ told) = let rest = accepted_few H told in omega (arith, rest)

-- as many records as commands that were accepted
pub records_long : {J : Type 0} (K : Kind J) {R : Type 0} (view : R → recorded.Recorded J) (s : Plain J) (G : List (Command J)) (records : List R) → AreRecordsOf K s G (map view records) → length records ≡ length G
records_long K view s G records h = sym (length-map records view) ∙ sym (length_of K s G (map view records) h)

-- as many records as Slots
pub run_long : {J : Type 0} (K : Kind J) {R : Type 0} (view : R → recorded.Recorded J) (s new : Plain J) (count : ℕ) (said : List (ℕ × Reply)) (records : List R) → AreRun K s count said (map view records) new → length records ≡ length said
run_long {J = J} K view s new count said records h = sym (length-map records view) ∙ sym (length_of K s (slots_for said) (map view records) h.recorded) ∙ length_slots J said

-- the next Slot is refused, or there is no memory for it
pub ends_early : {J : Type 0} (K : Kind J) (count : ℕ) (said : List (ℕ × Reply)) (t : Plain J) (f : MachineFault) (starved : Bool) → IsFaultOf K t Slot f → (IsTrue starved ↔ (f ≡ no_memory)) → Fills K count said t starved
ends_early K count said t f true fault is = inr (inr refl)
ends_early K count said t f false fault is = inr (inl (f, ap (answer_by (reply t Slot)) (fault.1 (λ same. let never : false ≡ true = is.1 same in absurd (cc)))))

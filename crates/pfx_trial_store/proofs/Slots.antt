-- Records of one slot more, and batches without new weights.
use Rattle.std.specs.Prelude.{◌≡◌, ℕ, All, List, [], ◌∷◌, ◌++◌, length, map, Some, None, IsTrue, refl}
use Rattle.std.proofs.Common.{sym, ◌∙◌, ap, subst}
use Rattle.std.proofs.lemmas.List.{map-append}
use Rattle.pfx_record_redo.specs.Applying.{applied, is_common}
use Rattle.pfx_record_redo.specs.Recording.{record_of, records_of}
use Rattle.pfx_record_redo.proofs.Commons.{form_common}
use Rattle.pfx_record_redo.proofs.States.{common_behind}
use Rattle.pfx_jobs.specs.Kind.{Kind, Laws}
use Rattle.pfx_store.specs.Groups.{AreRecordsOf}
use Rattle.pfx_store.proofs.Grouping.{records_split}
use Rattle.pfx_machine.specs.Batches.{AreCommon, IsCommon}
use Rattle.pfx_machine.specs.Plain.{Plain}
use Rattle.pfx_machine.specs.Outcome.{outcome}
use Rattle.pfx_machine.specs.Refusals.{refusal}
use Rattle.pfx_machine.specs.declared.command.Command.{Command}
use Rattle.pfx_machine.proofs.SessionLemmas.{acceptable-snoc}
use Rattle.pfx_record.specs.Batches.{all_fit, batch_fits, batch_of, counts_fit}
use Rattle.pfx_record.specs.Records.{form_of, plain, record_fits}
use Rattle.pfx_record.specs.declared.record.Record.{Record}
use Rattle.pfx_record.proofs.Rising.{both}
use Rattle.pfx_weights.proofs.Tests.{all_from}

common_more : {J : Type 0} (H : List (Command J)) (c : Command J) → AreCommon H → IsCommon c → AreCommon (H ++ c ∷ [])
common_more [] c all one = (one, tt)
common_more (d ∷ H) c all one = (all.0, common_more H c all.1 one)

pub records_more : {J : Type 0} (K : Kind J) (L : Laws K) (s t : Plain J) (H : List (Command J)) (c : Command J) (records : List (Record J)) (entry : Record J) → AreRecordsOf K s H (map plain records) → IsCommon c → t ≡ outcome K s H → refusal K t c ≡ None → plain entry ≡ record_of K t c
    → AreRecordsOf K s (H ++ c ∷ []) (map plain (records ++ entry ∷ []))
records_more K L s t H c records entry are common at accepted is = record {
  accepted = acceptable-snoc K s H c are.accepted (subst (λ (r : Plain _). refusal K r c ≡ None) at accepted);
  common = common_more H c are.common common;
  of = map-append plain records (entry ∷ []) ∙ (ap (λ l. l ++ plain entry ∷ []) are.of
      ∙ (ap (λ e. records_of K s H ++ e ∷ []) (is ∙ ap (λ (r : Plain _). record_of K r c) at) ∙ sym (records_split K L s H (c ∷ []))));
}

pub records_none : {J : Type 0} (K : Kind J) (s : Plain J) → AreRecordsOf K s [] []
records_none K s = record { accepted = tt; common = tt; of = refl }

-- a batch that says of no task that it is real has no new weights
pub none_new : {J : Type 0} (workers real first : ℕ) (records : List (Record J)) → IsTrue (batch_fits workers real (batch_of first records)) → real ≡ 0 → All (λ done. IsTrue (is_common done)) (map plain records)
none_new workers real first records fits none =
    let dones = map plain records in
    let form = form_of workers real (length dones) in
    all_from (record_fits form) (λ done. IsTrue (is_common done)) (λ done fit. form_common form done none fit) dones (both (counts_fit workers first (length dones)) (all_fit form dones) fits).1

-- and leaves the set in force
pub set_stays : {J : Type 0} (K : Kind J) (s t : Plain J) (workers real first : ℕ) (records : List (Record J)) → IsTrue (batch_fits workers real (batch_of first records)) → real ≡ 0 → applied K s (map plain records) ≡ Some t → t.ledger.set ≡ s.ledger.set
set_stays K s t workers real first records fits none led = (common_behind K s t (map plain records) (none_new workers real first records fits none) led).set

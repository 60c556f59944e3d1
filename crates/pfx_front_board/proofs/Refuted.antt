-- Worked rows: for each field of what a stop leaves, an image and batches of which it doesn't hold. A definition that says less lets them pass, and
-- its row fails.
use Rattle.std.proofs.Common.{◌≡◌, ℕ, List, [], ◌∷◌, None, true, false, refl, sym, ap, ◌∙◌}
use Rattle.std.specs.Prelude.{Bool, Result, Ok, Err}
use Rattle.std.proofs.lemmas.Bool.{false≢true}
use Rattle.std.proofs.lemmas.Option.{none-some}
use Rattle.pfx_store_header.specs.Headers.{read_header}
use Rattle.pfx_jobs.specs.Kind.{Kind}
use Rattle.pfx_machine.specs.Plain.{Plain}
use Rattle.pfx_record.specs.Records.{withdrawn}
use Rattle.pfx_record.specs.declared.batch.Batch.{Batch}
use Rattle.pfx_store_image.specs.Recovery.{found, recovered}
use Rattle.pfx_record_redo.specs.Applying.{applied}
use Rattle.pfx_front_board.specs.Lasting.{Recovers}
use Rattle.pfx_front_board.specs.Word.{records_of}

-- whether something was found
abbrev pub is_ok : {A E : Type 0} → Result A E → Bool
is_ok (Ok x) = true
is_ok (Err e) = false

module _ {J : Type 0} (K : Kind J) (origin : Plain J) where
  -- no state is found in an empty file
  nothing_found : (batches : List (Batch J)) → Recovers K origin batches [] → ⊥
  unfolding recovered found read_header
  nothing_found batches h = false≢true (ap is_ok h.recovered)

  -- a job that isn't there can't be taken away, so the batches lead nowhere
  leads_nowhere : (batches : List (Batch J)) (image : List ℕ) → origin.jobs ≡ [] → records_of batches ≡ withdrawn 0 ∷ [] → Recovers K origin batches image → ⊥
  leads_nowhere batches image none are h =
      let nowhere : applied K (record { number = origin.number; from = origin.from; ledger = origin.ledger; jobs = []; segment = origin.segment }) (withdrawn 0 ∷ []) ≡ None = refl in
      none-some h.state (sym nowhere ∙ (λ i. applied K (record { number = origin.number; from = origin.from; ledger = origin.ledger; jobs = sym none i; segment = origin.segment }) (sym are i)) ∙ h.leads)

-- Where a frame leads, by what was read of it.
use Rattle.std.specs.Prelude.{◌≡◌, ◌≢◌, ℕ, List, [], ◌∷◌, ◌++◌, length, Option, Some, None, refl}
use Rattle.std.proofs.Common.{sym, ◌∙◌, ap, arith, append-nil, length-append}
use Rattle.pfx_record_redo.specs.Applying.{applied}
use Rattle.pfx_checkpoint.specs.Whole.{if_some}
use Rattle.pfx_jobs.specs.Kind.{Kind, Laws}
use Rattle.pfx_machine.specs.Plain.{Plain}
use Rattle.pfx_record.specs.Batches.{PlainBatch, batch_bytes}
use Rattle.pfx_record.specs.Reading.{IsBatch, NoBatch}
use Rattle.pfx_record.proofs.Bodies.{one_batch}
use Rattle.pfx_store_format.specs.Batches.{batch_in}
use Rattle.pfx_store_format.specs.Frames.{number_after, state_after}
use Rattle.pfx_store_format.proofs.Batches.{batch_spelled, batch_there}
use Rattle.pfx_store_format.proofs.Nexts.{after_is}

nothing : {A B : Type 0} (o : Option A) → if_some {B = B} o (λ a. None) ≡ None
nothing None = refl
nothing (Some a) = refl

pub none_of : {A : Type 0} (o : Option A) → ((a : A) → o ≡ Some a → ⊥) → o ≡ None
none_of None h = refl
none_of (Some a) h = absurd (h a refl)

module _ {J : Type 0} (K : Kind J) (s : Plain J) (frame : List ℕ) where
  pub no_number : number_after s.number frame ≡ None → None ≡ state_after K s frame
  unfolding state_after
  no_number h = sym (ap (λ o. if_some o (λ last. if_some (batch_in K s.ledger.set.workers s.ledger.set.real frame) (λ batch. applied K s batch.records))) h)

  pub none_found : batch_in K s.ledger.set.workers s.ledger.set.real frame ≡ None → None ≡ state_after K s frame
  unfolding state_after
  none_found h = sym (ap (λ o. if_some (number_after s.number frame) (λ last. if_some o (λ batch. applied K s batch.records))) h ∙ nothing (number_after s.number frame))

  -- where no batch that is found leads on, the frame doesn't
  pub leads_none : ((batch : PlainBatch J) → batch_in K s.ledger.set.workers s.ledger.set.real frame ≡ Some batch → applied K s batch.records ≡ None) → None ≡ state_after K s frame
  unfolding state_after
  leads_none wrong = sym (ap (λ o. if_some (number_after s.number frame) (λ last. o)) (each (batch_in K s.ledger.set.workers s.ledger.set.real frame) refl) ∙ nothing (number_after s.number frame))
    where
      each : (o : Option (PlainBatch J)) → batch_in K s.ledger.set.workers s.ledger.set.real frame ≡ o → if_some o (λ batch. applied K s batch.records) ≡ None
      each None found = refl
      each (Some batch) found = wrong batch found

  module _ (L : Laws K) where
    pub no_batch : NoBatch K s.ledger.set.workers s.ledger.set.real frame → None ≡ state_after K s frame
    no_batch h = none_found (none_of _ (λ batch found.
        let spelled = batch_spelled K L s.ledger.set.workers s.ledger.set.real frame batch found in
        h batch spelled.0 (record { rest = []; is = spelled.1 ∙ sym (append-nil (batch_bytes K batch)) })))

    -- a batch that is shorter than the frame: then the frame is none
    pub too_long : (batch : PlainBatch J) (taken : ℕ) → IsBatch K s.ledger.set.workers s.ledger.set.real frame batch taken → taken ≢ length frame → None ≡ state_after K s frame
    too_long batch taken h other = none_found (none_of _ (λ found is.
        let spelled = batch_spelled K L s.ledger.set.workers s.ledger.set.real frame found is in
        let same = one_batch K L s.ledger.set.workers s.ledger.set.real frame batch found h.fits spelled.0 h.begins (record { rest = []; is = spelled.1 ∙ sym (append-nil (batch_bytes K found)) }) in
        other (h.long ∙ ap length (sym (spelled.1 ∙ ap (batch_bytes K) same)))))

    whole : (batch : PlainBatch J) (taken : ℕ) → IsBatch K s.ledger.set.workers s.ledger.set.real frame batch taken → taken ≡ length frame → batch_in K s.ledger.set.workers s.ledger.set.real frame ≡ Some batch
    whole batch taken h same =
        let none : length h.begins.rest ≡ 0 = (let long = ap length h.begins.is ∙ length-append (batch_bytes K batch) h.begins.rest in omega (arith, h.long, same, long)) in
        let is : frame ≡ batch_bytes K batch = h.begins.is ∙ (ap (λ l. batch_bytes K batch ++ l) (empty h.begins.rest none) ∙ append-nil (batch_bytes K batch)) in
        ap (batch_in K s.ledger.set.workers s.ledger.set.real) is ∙ batch_there K L s.ledger.set.workers s.ledger.set.real batch h.fits
      where
        empty : (l : List ℕ) → length l ≡ 0 → l ≡ []
        empty [] h = refl
        empty (x ∷ l) h = absurd (omega (arith, h))

    pub leads : (t : Plain J) (last : ℕ) (batch : PlainBatch J) (taken : ℕ) → number_after s.number frame ≡ Some last → IsBatch K s.ledger.set.workers s.ledger.set.real frame batch taken → taken ≡ length frame → applied K s batch.records ≡ Some t → Some t ≡ state_after K s frame
    leads t last batch taken number h same done = sym (after_is K s frame t last batch number (whole batch taken h same) done)

    pub leads_nowhere : (batch : PlainBatch J) (taken : ℕ) → IsBatch K s.ledger.set.workers s.ledger.set.real frame batch taken → taken ≡ length frame → applied K s batch.records ≡ None → None ≡ state_after K s frame
    unfolding state_after
    leads_nowhere batch taken h same done =
        sym (ap (λ o. if_some (number_after s.number frame) (λ last. if_some o (λ batch. applied K s batch.records))) (whole batch taken h same)
        ∙ (ap (λ o. if_some (number_after s.number frame) (λ last. o)) done ∙ nothing (number_after s.number frame)))

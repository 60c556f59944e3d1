-- A record more after those that lead to a state.
use Rattle.std.proofs.Common.{◌≡◌, Bool, true, false, List, [], ◌∷◌, ◌++◌, map, refl, ap, sym, ◌∙◌, subst}
use Rattle.std.proofs.lemmas.Option.{none-some}
use Rattle.std.specs.Bool.{IsTrue}
use Rattle.std.specs.Prelude.{Some, None, if◌then◌else◌}
use Rattle.pfx_jobs.specs.Kind.{Kind}
use Rattle.pfx_machine.specs.Plain as machine
use Rattle.pfx_record.specs.Records.{Recorded, plain}
use Rattle.pfx_record.specs.declared.batch.Batch.{Batch}
use Rattle.pfx_record.specs.declared.record.Record.{Record}
use Rattle.pfx_record_redo.specs.Applying.{after_record, applied, is_right}
use Rattle.pfx_front_board.specs.Word.{records_of}
use Rattle.pfx_front_board.proofs.Words.{records_more}

module _ {J : Type 0} where
  one_more : (K : Kind J) (s t : machine.Plain J) (d e : Recorded J) (rs : List (Recorded J)) (b : Bool) → is_right K s e ≡ b
      → (if b then applied K (after_record s e) rs else None) ≡ Some t
      → (applied K (after_record s e) rs ≡ Some t → applied K (after_record s e) (rs ++ d ∷ []) ≡ Some (after_record t d))
      → applied K s (e ∷ (rs ++ d ∷ [])) ≡ Some (after_record t d)
  one_more K s t d e rs true is h rest = rw is (rest h)
  one_more K s t d e rs false is h rest = absurd (none-some t h)

  applied_more : (K : Kind J) (s t : machine.Plain J) (rs : List (Recorded J)) (d : Recorded J) → applied K s rs ≡ Some t → IsTrue (is_right K t d)
      → applied K s (rs ++ d ∷ []) ≡ Some (after_record t d)
  applied_more K s t [] d h right =
      let same : s ≡ t = ap (λ o. elim o [ Some x ↦ x | None ↦ s ]) h in
      let last : applied K t (d ∷ []) ≡ Some (after_record t d) = rw right refl in
      subst (λ u. applied K u (d ∷ []) ≡ Some (after_record t d)) (sym same) last
  applied_more K s t (e ∷ rs) d h right = one_more K s t d e rs (is_right K s e) refl h (λ f. applied_more K (after_record s e) t rs d f right)

  -- a batch of one record more
  pub batch_more : (K : Kind J) (o s t : machine.Plain J) (batches : List (Batch J)) (b : Batch J) (entry : Record J)
      → applied K o (records_of batches) ≡ Some s → b.records.items ≡ entry ∷ [] → IsTrue (is_right K s (plain entry)) → t ≡ after_record s (plain entry)
      → applied K o (records_of (batches ++ b ∷ [])) ≡ Some t
  batch_more K o s t batches b entry h one right new =
      let more = applied_more K o s (records_of batches) (plain entry) h right in
      let recs = records_more batches b ∙ ap (λ items. records_of batches ++ map plain items) one in
      ap (applied K o) recs ∙ (more ∙ ap Some (sym new))

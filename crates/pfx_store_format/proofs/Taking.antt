-- Records that are taken over one by one, and where the frame leads that has them.
use Rattle.std.proofs.Common.{◌≡◌, ◌≢◌, ◌≤◌, ◌<◌, inl, inr, ℕ, ◌+◌, List, [], ◌∷◌, ◌++◌, length, drop, cond, Bool, true, false, Some, None, Result, Ok, Err, IfOk, refl, sym, ◌∙◌, ap, arith, append-nil}
use Rattle.std.proofs.lemmas.List.{length_push}
use Rattle.std.proofs.lemmas.Option.{none-some}
use Rattle.std.specs.Bool.{IsTrue}
use Rattle.pfx_record_redo.specs.Applying.{after_record, applied, is_right}
use Rattle.pfx_jobs.specs.Kind.{Kind, Laws}
use Rattle.pfx_machine.specs.Plain as machine
use Rattle.pfx_record.specs.Batches.{PlainBatch, all_fit, batch_bytes}
use Rattle.pfx_record.specs.Begins.{Begins}
use Rattle.pfx_record.specs.Reading.{IsHead, IsRecord, NoRecord, body_of}
use Rattle.pfx_record.specs.Records.{Recorded, form_of, records_bytes}
use Rattle.pfx_record.specs.declared.faults.FramePart.TheVariants.{Record}
use Rattle.pfx_record.specs.declared.form.Form.{Form}
use Rattle.pfx_record.proofs.Bodies.{SoFar, so_far_begins, so_far_more, so_far_inside, stop_short, stop_over, all_read, no_head, no_records, is_batch, same_as, goes}
use Rattle.pfx_store_format.specs.Frames.{number_after, state_after}
use Rattle.pfx_store_format.specs.Taking.{AreTaken, AreWrong}
use Rattle.pfx_store_format.proofs.Batches.{batch_spelled, head_there, some_same}
use Rattle.pfx_store_format.proofs.Leading.{leads, leads_none, no_batch, none_found, none_of}

-- what follows from what is known of a value
pub on_ok : {T E : Type 0} {P Q : T → Type 0} (r : Result T E) → IfOk r P → ((t : T) → P t → Q t) → IfOk r Q
on_ok (Ok t) known follows = follows t known
on_ok (Err e) known follows = tt

module _ {J : Type 0} (K : Kind J) where
  -- one record more
  applied_push : (s t : machine.Plain J) (read : List (Recorded J)) (next : Recorded J) → applied K s read ≡ Some t → applied K s (read ++ next ∷ []) ≡ applied K t (next ∷ [])
  applied_push s t [] next is = ap (λ a. applied K a (next ∷ [])) (some_same s t is)
  applied_push s t (first ∷ read) next is = by (is_right K s first) (λ h. applied_push (after_record s first) t read next h) is
    where
      by : (b : Bool) → (applied K (after_record s first) read ≡ Some t → applied K (after_record s first) (read ++ next ∷ []) ≡ applied K t (next ∷ []))
          → cond b (applied K (after_record s first) read) None ≡ Some t → cond b (applied K (after_record s first) (read ++ next ∷ [])) None ≡ applied K t (next ∷ [])
      by true more h = more h
      by false more h = absurd (none-some t h)

  applied_none : (s : machine.Plain J) (read more : List (Recorded J)) → applied K s read ≡ None → applied K s (read ++ more) ≡ None
  applied_none s [] more is = absurd (none-some s (sym is))
  applied_none s (first ∷ read) more is = by (is_right K s first) (λ h. applied_none (after_record s first) read more h) is
    where
      by : (b : Bool) → (applied K (after_record s first) read ≡ None → applied K (after_record s first) (read ++ more) ≡ None)
          → cond b (applied K (after_record s first) read) None ≡ None → cond b (applied K (after_record s first) (read ++ more)) None ≡ None
      by true on h = on h
      by false on h = refl

  module _ (L : Laws K) (form : Form) (body : List ℕ) (s : machine.Plain J) where
    -- the records so far, which lead to this state
    pub record TakenSoFar (at n : ℕ) (t : machine.Plain J) : Type 0 where
      pub read : List (Recorded J)
      pub so_far : SoFar K L form body read at
      pub number : length read ≡ n
      pub leads : applied K s read ≡ Some t

    pub taken_none : TakenSoFar 0 0 s
    taken_none = record { read = []; so_far = so_far_begins K L form body; number = refl; leads = refl }

    module _ (at n count : ℕ) (t : machine.Plain J) (now : TakenSoFar at n t) where
      pub taken_inside : at ≤ length body
      taken_inside = so_far_inside K L form body now.read at now.so_far

      pub none_next : n < count → NoRecord K form (drop at body) → AreWrong K form body count s
      none_next more none = inl (15 + at, Record, stop_short K L form body now.read at count now.so_far (omega (arith, now.number, more)) none)

      pub wrong_next : (next : Recorded J) (taken : ℕ) → n < count → IsRecord K form (drop at body) next taken → is_right K t next ≡ false → AreWrong K form body count s
      wrong_next next taken more is wrong =
          let so_far = so_far_more K L form body now.read at next taken now.so_far is in
          inr (
            now.read ++ next ∷ [],
            so_far.fit,
            so_far.stands,
            omega (arith, now.number, more, length_push now.read next),
            applied_push s t now.read next now.leads ∙ ap (λ b. cond b (applied K (after_record t next) []) None) wrong,
          )

      pub taken_more : (next : Recorded J) (taken : ℕ) (then : machine.Plain J) → IsRecord K form (drop at body) next taken → is_right K t next ≡ true → then ≡ after_record t next → TakenSoFar (at + taken) (n + 1) then
      taken_more next taken then is right after = record {
        read = now.read ++ next ∷ [];
        so_far = so_far_more K L form body now.read at next taken now.so_far is;
        number = omega (arith, now.number, length_push now.read next);
        leads = applied_push s t now.read next now.leads ∙ ap (λ b. cond b (applied K (after_record t next) []) None) right ∙ ap Some (sym after);
      }

      pub taken_over : n ≡ count → at < length body → AreWrong K form body count s
      taken_over all over = inl (15 + at, Record, stop_over K L form body now.read at count now.so_far (now.number ∙ all) over)

      pub taken_all : n ≡ count → length body ≤ at → AreTaken K form body count s t
      taken_all all end = (now.read, all_read K L form body now.read at count now.so_far (now.number ∙ all) end, now.leads)

  module _ (L : Laws K) (s : machine.Plain J) (frame : List ℕ) where
    abbrev rows : ℕ
    rows = s.ledger.set.workers

    abbrev real : ℕ
    real = s.ledger.set.real

    pub no_head_there : ((len first count : ℕ) → IsHead rows frame len first count → ⊥) → None ≡ state_after K s frame
    no_head_there none = no_batch K s frame L (no_head K L rows real frame none)

    module _ (len first count : ℕ) (head : IsHead rows frame len first count) where
      spells : (batch : PlainBatch J) → frame ≡ batch_bytes K batch → Begins frame (batch_bytes K batch)
      spells batch is = record { rest = []; is = is ∙ sym (append-nil (batch_bytes K batch)) }

      pub other_len : 15 + len ≢ length frame → None ≡ state_after K s frame
      other_len other = none_found K s frame (none_of _ (λ batch found.
          let spelled = batch_spelled K L rows real frame batch found in
          let long = (head_there K L rows real batch spelled.0).long in
          let lens = (same_as K L rows real frame len first count head batch spelled.0 (spells batch spelled.1)).0 in
          other (omega (arith, ap length spelled.1, long, lens))))

      pub wrong_there : AreWrong K (form_of rows real count) (body_of len frame) count s → None ≡ state_after K s frame
      wrong_there wrong = elim wrong [
        | inl stop ↦ no_batch K s frame L (no_records K L rows real frame len first count head stop.0 stop.1 stop.2)
        | inr bad ↦ by bad.0 bad.1 bad.2 bad.3 bad.4
      ]
        where
          by : (read : List (Recorded J)) → IsTrue (all_fit (form_of rows real count) read) → Begins (body_of len frame) (records_bytes K read) → length read ≤ count → applied K s read ≡ None → None ≡ state_after K s frame
          by read fit begins few none = leads_none K s frame (λ batch found.
              let spelled = batch_spelled K L rows real frame batch found in
              let more = goes K L rows real frame len first count head read batch spelled.0 (spells batch spelled.1) fit begins few in
              ap (λ (l : List (Recorded J)). applied K s l) more.1 ∙ applied_none s read more.0 none)

      pub taken_there : (t : machine.Plain J) (last : ℕ) → number_after s.number frame ≡ Some last → 15 + len ≡ length frame → AreTaken K (form_of rows real count) (body_of len frame) count s t → Some t ≡ state_after K s frame
      taken_there t last number same taken = leads K s frame L t last _ (15 + len) number (is_batch K L rows real frame len first count head taken.0 taken.1) same taken.2

-- The records that hold no row.
use Rattle.std.proofs.Common.{◌≡◌, ◌≢◌, ◌≤◌, ◌<◌, ℕ, ◌^◌, List, ◌∷◌, ◌++◌, length, get_or, drop, sym, ◌∙◌, subst, arith, length-append}
use Rattle.std.proofs.lemmas.List.{drop-drop}
use Rattle.std.proofs.lemmas.Bool.{lt-ltb}
use Rattle.pfx_jobs.specs.Kind.{Kind, Laws}
use Rattle.pfx_record.specs.Begins.{Begins}
use Rattle.pfx_record.specs.Numbers.{number_bytes}
use Rattle.pfx_record.specs.Records.{submitted, ran, withdrawn, reweighed}
use Rattle.pfx_record.specs.declared.form.Form.{Form}
use Rattle.pfx_record.specs.Reading.{IsRecord, NoRecord}
use Rattle.pfx_record.proofs.Again.{length-number_bytes}
use Rattle.pfx_record.proofs.Fronts.{begins_behind, begins_with, begins_head, begins_tail, begins_cons, begins_len}

module _ {J : Type 0} (K : Kind J) (L : Laws K) (bytes : List ℕ) where
  other_tag : (tag : ℕ) → get_or bytes 0 0 ≡ tag → (other : ℕ) (rest : List ℕ) → other ≢ tag → Begins bytes (other ∷ rest) → ⊥
  other_tag tag is other rest differs b = differs (sym (begins_head bytes other rest b) ∙ is)

  -- if the tag is that of a job given
  pub submit_only : get_or bytes 0 0 ≡ 1 → ((s : J) → 131 ≤ length bytes → Begins (drop 3 bytes) (K.spelling s) → ⊥) → (form : Form) → NoRecord K form bytes
  submit_only tag none form (ran row) fits b = absurd (omega (arith, tag, begins_head bytes 2 _ b))
  submit_only tag none form (withdrawn task) fits b = absurd (omega (arith, tag, begins_head bytes 3 _ b))
  submit_only tag none form (reweighed workers weights) fits b = absurd (omega (arith, tag, begins_head bytes 4 _ b))
  submit_only tag none form (submitted task job) fits b =
      none job (omega (arith, begins_len bytes _ b, length-append (number_bytes 2 task) (K.spelling job), length-number_bytes 2 task, L.long job))
      (subst (λ (l : List ℕ). Begins l (K.spelling job)) (drop-drop 2 1 bytes) (begins_behind 2 (drop 1 bytes) (number_bytes 2 task) (K.spelling job) (length-number_bytes 2 task) (begins_tail bytes 1 _ b)))

  pub submit_is : (task : ℕ) (job : J) → 0 < length bytes → get_or bytes 0 0 ≡ 1 → task < 2 ^ 16 → Begins (drop 1 bytes) (number_bytes 2 task) → Begins (drop 3 bytes) (K.spelling job) → (form : Form) → IsRecord K form bytes (submitted task job) 131
  submit_is task job some tag small number state form = record {
    fits = lt-ltb task (2 ^ 16) small;
    begins = begins_cons bytes 1 (number_bytes 2 task ++ K.spelling job) some tag (begins_with 2 (drop 1 bytes) (number_bytes 2 task) (K.spelling job) (length-number_bytes 2 task) number
        (subst (λ (l : List ℕ). Begins l (K.spelling job)) (sym (drop-drop 2 1 bytes)) state));
    long = omega (arith, length-append (number_bytes 2 task) (K.spelling job), length-number_bytes 2 task, L.long job);
  }

  -- if the tag is that of a job taken away
  pub withdraw_only : get_or bytes 0 0 ≡ 3 → length bytes < 3 → (form : Form) → NoRecord K form bytes
  withdraw_only tag short form (ran row) fits b = omega (arith, tag, begins_head bytes 2 _ b)
  withdraw_only tag short form (submitted task job) fits b = omega (arith, tag, begins_head bytes 1 _ b)
  withdraw_only tag short form (reweighed workers weights) fits b = omega (arith, tag, begins_head bytes 4 _ b)
  withdraw_only tag short form (withdrawn task) fits b = omega (arith, short, begins_len bytes _ b, length-number_bytes 2 task)

  pub withdraw_is : (task : ℕ) → 0 < length bytes → get_or bytes 0 0 ≡ 3 → task < 2 ^ 16 → Begins (drop 1 bytes) (number_bytes 2 task) → (form : Form) → IsRecord K form bytes (withdrawn task) 3
  withdraw_is task some tag small number form = record {
    fits = lt-ltb task (2 ^ 16) small;
    begins = begins_cons bytes 3 (number_bytes 2 task) some tag number;
    long = omega (arith, length-number_bytes 2 task);
  }

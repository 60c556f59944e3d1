-- A row as it is read, place by place.
use Rattle.std.proofs.Common.{◌≡◌, ◌≤◌, ◌<◌, ℕ, ◌+◌, ◌^◌, ◌==◌, List, [], ◌∷◌, ◌++◌, length, get_or, drop, refl, sym, ◌∙◌, ap, subst, arith, append-nil, length-append, length-drop, eqb-true, eq-eqb}
use Rattle.std.specs.Bool.{IsTrue}
use Rattle.std.proofs.lemmas.List.{map-append, drop-drop}
use Rattle.pfx_jobs.specs.Kind.{Kind, Laws}
use Rattle.pfx_record.specs.Begins.{Begins}
use Rattle.pfx_record.specs.Records.{Recorded, submitted, ran, withdrawn, reweighed, rises_from, tasks_of, place_bytes, row_bytes, record_bytes, record_fits}
use Rattle.pfx_record.specs.declared.form.Form.{Form}
use Rattle.pfx_record.specs.declared.record.Place.{Place}
use Rattle.pfx_record.proofs.Rising.{both, of_both, next_from, rises, rises-push, next-push, rises-behind}
use Rattle.pfx_record.proofs.Fronts.{Each, goes_on, joined-push, begins_left, begins_join, begins_head, begins_tail, begins_cons, begins_len}
use Rattle.pfx_record.proofs.Spellings.{same_place}

abbrev pub IsSmall : {J : Type 0} → Place J → Type 0
IsSmall place = place.task < 2 ^ 16

pub small_tasks : {J : Type 0} (low : ℕ) (row : List (Place J)) → IsTrue (rises_from low (tasks_of row)) → Each IsSmall row
small_tasks low [] h = tt
small_tasks low (place ∷ row) h = let r = rises low place.task (tasks_of row) h in (r.small, small_tasks (place.task + 1) row r.others)

module _ {J : Type 0} (K : Kind J) where
  -- what was read of a row behind its tag
  pub record RowSoFar (bytes : List ℕ) (row : List (Place J)) (at low : ℕ) : Type 0 where
    pub stands : Begins (drop 1 bytes) (row_bytes K row)
    pub place : at ≡ 1 + length (row_bytes K row)
    pub rising : IsTrue (rises_from 0 (tasks_of row))
    pub next : low ≡ next_from 0 (tasks_of row)

  pub row_begins : (bytes : List ℕ) → RowSoFar bytes [] 1 0
  row_begins bytes = record { stands = record { rest = drop 1 bytes; is = refl }; place = refl; rising = refl; next = refl }

  pub row_inside : (bytes : List ℕ) (row : List (Place J)) (at low : ℕ) → 0 < length bytes → RowSoFar bytes row at low → at ≤ length bytes
  row_inside bytes row at low some so_far = omega (arith, so_far.place, begins_len (drop 1 bytes) (row_bytes K row) so_far.stands, length-drop 1 bytes)

  pub row_more : (bytes : List ℕ) (row : List (Place J)) (at low : ℕ) (place : Place J) (n : ℕ) → RowSoFar bytes row at low
      → low ≤ place.task → place.task < 2 ^ 16 → Begins (drop at bytes) (place_bytes K place) → n ≡ length (place_bytes K place) → RowSoFar bytes (row ++ place ∷ []) (at + n) (place.task + 1)
  row_more bytes row at low place n so_far above small stands long =
      let whole : row_bytes K (row ++ place ∷ []) ≡ row_bytes K row ++ place_bytes K place = joined-push (place_bytes K) row place in
      let tasks : tasks_of (row ++ place ∷ []) ≡ tasks_of row ++ place.task ∷ [] = map-append (λ (p : Place J). p.task) row (place ∷ []) in
      let there : drop at bytes ≡ drop (length (row_bytes K row)) (drop 1 bytes) = ap (λ (k : ℕ). drop k bytes) so_far.place ∙ sym (drop-drop (length (row_bytes K row)) 1 bytes) in
      record {
        stands = subst (λ (l : List ℕ). Begins (drop 1 bytes) l) (sym whole)
            (begins_join (drop 1 bytes) (row_bytes K row) (place_bytes K place) so_far.stands (subst (λ (l : List ℕ). Begins l (place_bytes K place)) there stands));
        place = omega (arith, so_far.place, long, ap length whole, length-append (row_bytes K row) (place_bytes K place));
        rising = subst (λ (l : List ℕ). IsTrue (rises_from 0 l)) (sym tasks) (rises-push 0 (tasks_of row) place.task so_far.rising (omega (arith, above, so_far.next)) small);
        next = sym (ap (λ (l : List ℕ). next_from 0 l) tasks ∙ next-push 0 (tasks_of row) place.task);
      }

  -- no place goes on from here
  abbrev pub NoPlace : ℕ → List ℕ → Type 0
  NoPlace low bytes = (place : Place J) → low ≤ place.task → place.task < 2 ^ 16 → Begins bytes (place_bytes K place) → ⊥

  -- the whole row
  pub row_fits : (bytes : List ℕ) (row : List (Place J)) (at low : ℕ) (form : Form) → RowSoFar bytes row at low → length row ≡ form.workers → IsTrue (record_fits form (ran row))
  row_fits bytes row at low form so_far long = of_both (length row == form.workers) _ (eq-eqb (length row) form.workers long) so_far.rising

  pub row_stands : (bytes : List ℕ) (row : List (Place J)) (at low : ℕ) → RowSoFar bytes row at low → 0 < length bytes → get_or bytes 0 0 ≡ 2 → Begins bytes (record_bytes K (ran row))
  row_stands bytes row at low so_far some tag = begins_cons bytes 2 (row_bytes K row) some tag so_far.stands

module _ {J : Type 0} (K : Kind J) (L : Laws K) where
  no_longer_row : (bytes : List ℕ) (row : List (Place J)) (at low : ℕ) (whole : List (Place J)) → RowSoFar K bytes row at low → NoPlace K low (drop at bytes) → length row < length whole
      → IsTrue (rises_from 0 (tasks_of whole)) → Begins (drop 1 bytes) (row_bytes K whole) → ⊥
  no_longer_row bytes row at low whole so_far none short rising begins =
      let more = goes_on (place_bytes K) IsSmall (same_place K L) (drop 1 bytes) row whole (small_tasks 0 row so_far.rising) (small_tasks 0 whole rising) (omega (arith, short)) so_far.stands begins in
      last more.0 more.1 more.2
    where
      there : drop (length (row_bytes K row)) (drop 1 bytes) ≡ drop at bytes
      there = drop-drop (length (row_bytes K row)) 1 bytes ∙ ap (λ (k : ℕ). drop k bytes) (sym so_far.place)

      last : (zs : List (Place J)) → whole ≡ row ++ zs → Begins (drop (length (row_bytes K row)) (drop 1 bytes)) (row_bytes K zs) → ⊥
      last [] is behind = absurd (omega (arith, short, ap length (is ∙ append-nil row)))
      last (z ∷ zs) is behind =
          let tasks : tasks_of whole ≡ tasks_of row ++ z.task ∷ tasks_of zs = ap tasks_of is ∙ map-append (λ (p : Place J). p.task) row (z ∷ zs) in
          let rest = rises-behind 0 (tasks_of row) (z.task ∷ tasks_of zs) (subst (λ (l : List ℕ). IsTrue (rises_from 0 l)) tasks rising) in
          let r = rises (next_from 0 (tasks_of row)) z.task (tasks_of zs) rest in
          none z (omega (arith, r.above, so_far.next)) r.small (subst (λ (l : List ℕ). Begins l (place_bytes K z)) there (begins_left _ (place_bytes K z) (row_bytes K zs) behind))

  -- no row of so many tasks stands there
  pub no_row : (bytes : List ℕ) (row : List (Place J)) (at low : ℕ) (form : Form) → RowSoFar K bytes row at low → NoPlace K low (drop at bytes) → length row < form.workers → get_or bytes 0 0 ≡ 2
      → (r : Recorded J) → IsTrue (record_fits form r) → Begins bytes (record_bytes K r) → ⊥
  no_row bytes row at low form so_far none short tag (submitted task job) fits begins = omega (arith, tag, begins_head bytes 1 _ begins)
  no_row bytes row at low form so_far none short tag (withdrawn task) fits begins = omega (arith, tag, begins_head bytes 3 _ begins)
  no_row bytes row at low form so_far none short tag (reweighed workers weights) fits begins = omega (arith, tag, begins_head bytes 4 _ begins)
  no_row bytes row at low form so_far none short tag (ran whole) fits begins =
      let parts = both (length whole == form.workers) (rises_from 0 (tasks_of whole)) fits in
      no_longer_row bytes row at low whole so_far none (omega (arith, short, eqb-true (length whole) form.workers parts.0)) parts.1 (begins_tail bytes 2 (row_bytes K whole) begins)

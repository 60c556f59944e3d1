-- Rows without states, as they are read and taken over.
use Rattle.std.proofs.Common.{◌≡◌, ◌≤◌, ◌<◌, ℕ, ◌+◌, ◌*◌, ◌^◌, ◌==◌, ◌&&◌, nat_lt, not, cond, Bool, true, false, List, [], ◌∷◌, ◌++◌, All, length, get_or, set, take, drop, slice_get, Option, None, refl, sym, ◌∙◌, ap, subst, arith, eq-eqb, length-drop}
use Rattle.std.specs.Bool.{IsTrue}
use Rattle.std.specs.List.{list_all}
use Rattle.std.proofs.lemmas.Bool.{lt-ltb}
use Rattle.std.proofs.lemmas.List.{get_or-drop, length-map, length-take-le, map-append, take_more_set}
use Rattle.std.proofs.lemmas.List.Elements.{All-head, All-tail}
use Rattle.byteorder.specs.Endian.{little_number}
use Rattle.pfx_weights.specs.Rows.{is_in, IsFullRow, IsRow}
use Rattle.pfx_columns.specs.Ledgers.{IsFair, IsLedger, after, total}
use Rattle.pfx_machine.specs.Jobs.{is_busy}
use Rattle.pfx_record_redo.specs.Applying.{form_at, is_flagged}
use Rattle.pfx_record_redo.proofs.Effects.{after-ran}
use Rattle.pfx_record_redo.proofs.Rightness.{row_right}
use Rattle.pfx_record_redo.proofs.Rows.{row_is}
use Rattle.pfx_jobs.specs.Kind.{Kind, Laws}
use Rattle.pfx_machine.specs.Plain as machine
use Rattle.pfx_record.specs.Begins.{Begins}
use Rattle.pfx_record.specs.Effect.{instead_of, jobs_from, state_in}
use Rattle.pfx_record.specs.Numbers.{number_bytes}
use Rattle.pfx_record.specs.Reading.{IsRecord}
use Rattle.pfx_record.specs.Records.{ran, record_fits, rises_from, tasks_of}
use Rattle.pfx_record.specs.declared.form.Form.{Form}
use Rattle.pfx_record.specs.declared.record.Place.{Place}
use Rattle.pfx_record.proofs.Again.{begins_number}
use Rattle.pfx_record.proofs.Places.{length_without, without_state}
use Rattle.pfx_record.proofs.Rising.{both, of_both}
use Rattle.pfx_record.proofs.Rows.{RowSoFar, row_begins, row_more, row_fits, row_stands}
use Rattle.pfx_store_format.specs.Idle.{idle, idle_len, IsPassed}

pub idle_tasks : (J : Type 0) (tasks : List ℕ) → tasks_of (idle {J = J} tasks) ≡ tasks
idle_tasks J [] = refl
idle_tasks J (x ∷ xs) = ap (λ (l : List ℕ). x ∷ l) (idle_tasks J xs)

idle_long : (J : Type 0) (tasks : List ℕ) → length (idle {J = J} tasks) ≡ length tasks
idle_long J tasks = length-map tasks (λ (x : ℕ). one x)
  where
    one : ℕ → Place J
    one x = record { task = x; state = None }

passed_by : {J : Type 0} (b : Bool) (o : Option J) → o ≡ None → cond b None o ≡ None
passed_by true o is = refl
passed_by false o is = is

no_state_in : (J : Type 0) (tasks : List ℕ) (x : ℕ) → state_in (idle {J = J} tasks) x ≡ None
no_state_in J [] x = refl
no_state_in J (t ∷ ts) x = passed_by (t == x) (state_in (idle {J = J} ts) x) (no_state_in J ts x)

idle_jobs : {J : Type 0} (tasks : List ℕ) (i : ℕ) (jobs : List (Option J)) → jobs_from (ran (idle tasks)) i jobs ≡ jobs
idle_jobs tasks i [] = refl
idle_jobs {J} tasks i (job ∷ jobs) =
    ap (λ (o : Option J). instead_of o job ∷ jobs_from (ran (idle tasks)) (i + 1) jobs) (no_state_in J tasks i)
    ∙ ap (λ (l : List (Option J)). job ∷ l) (idle_jobs tasks (i + 1) jobs)

module _ {J : Type 0} (K : Kind J) where
  idle_flags : (n : ℕ) (jobs : List (Option J)) (tasks : List ℕ) → All (λ x. x < n) tasks → IsTrue (list_all (λ task. not (is_busy K (slice_get jobs task))) tasks)
      → IsTrue (list_all (λ place. nat_lt place.task n && is_flagged K jobs place) (idle tasks))
  idle_flags n jobs [] below free = refl
  idle_flags n jobs (x ∷ xs) below free =
      let parts = both (not (is_busy K (slice_get jobs x))) (list_all (λ task. not (is_busy K (slice_get jobs task))) xs) free in
      of_both _ _ (of_both _ _ (lt-ltb x n (All-head (λ (k : ℕ). k < n) x xs below)) parts.0) (idle_flags n jobs xs (All-tail (λ (k : ℕ). k < n) x xs below) parts.1)

  -- a row that was read and passed
  pub idle_passed : (form : Form) (bytes : List ℕ) (s t u : machine.Plain J) (row : List ℕ) → IsRecord K form bytes (ran (idle row)) (idle_len form.workers)
      → IsLedger s.ledger → s.number + 1 < 2 ^ 48 → IsTrue (list_all (λ task. not (is_busy K (slice_get s.jobs task))) row)
      → IsFullRow s.ledger.set.workers (total s.ledger) row → machine.whole s + 1 < 2 ^ 40 → IsFair (after s.ledger (is_in row))
      → t ≡ record s { ledger = after s.ledger (is_in row) } → u ≡ record t { number = t.number + 1 } → IsPassed K form bytes s u
  idle_passed form bytes s t u row stands ledger below free full less fair passed counted =
      let tasks : tasks_of (idle {J = J} row) ≡ row = idle_tasks J row in
      let rising : IsTrue (rises_from 0 (tasks_of (idle {J = J} row))) = (both _ _ stands.fits).1 in
      let fits : IsTrue (record_fits (form_at s) (ran (idle {J = J} row))) = of_both _ _ (eq-eqb (length (idle {J = J} row)) s.ledger.set.workers (idle_long J row ∙ full.full)) rising in
      record {
        row = row;
        stands = stands;
        right = sym (row_right K s (idle row) ledger below fits (idle_flags (total s.ledger) s.jobs row full.below free)
            (subst (IsFullRow s.ledger.set.workers (total s.ledger)) (sym tasks) full) less (subst (λ (r : List ℕ). IsFair (after s.ledger (is_in r))) (sym tasks) fair));
        leads = counted ∙ ap (λ (v : machine.Plain J). record v { number = v.number + 1 }) passed ∙ sym (after-ran s (idle row)
            ∙ ap (λ (r : List ℕ). record { number = s.number + 1; from = s.from; ledger = after s.ledger (is_in r); jobs = jobs_from (ran (idle row)) 0 s.jobs; segment = s.segment }) tasks
            ∙ ap (λ (l : List (Option J)). record { number = s.number + 1; from = s.from; ledger = after s.ledger (is_in row); jobs = l; segment = s.segment }) (idle_jobs row 0 s.jobs));
      }

  module _ (bytes : List ℕ) where
    -- so many tasks of the row were read
    abbrev pub IdleSoFar : List ℕ → ℕ → ℕ → Type 0
    IdleSoFar tasks i low = RowSoFar K bytes (idle (take i tasks)) (1 + 3 * i) low

    pub idle_begins : (tasks : List ℕ) → IdleSoFar tasks 0 0
    idle_begins tasks = row_begins K bytes

    pub idle_more : (L : Laws K) (tasks : List ℕ) (i low task : ℕ) → IdleSoFar tasks i low → i < length tasks → low ≤ task → task < 2 ^ 16
        → task ≡ little_number 2 (drop (1 + 3 * i) bytes) → get_or bytes (1 + 3 * i + 2) 0 ≡ 0 → 1 + 3 * i + 3 ≤ length bytes → ((k : ℕ) → get_or bytes k 0 < 256)
        → IdleSoFar (set tasks i task) (i + 1) (task + 1)
    idle_more L tasks i low task so_far short above small is flag inside fit =
        let at = 1 + 3 * i in
        let number : Begins (drop at bytes) (number_bytes 2 task) = begins_number 2 (drop at bytes) task (omega (arith, inside, length-drop at bytes)) (λ k. omega (arith, fit (at + k), get_or-drop at bytes k 0)) is in
        let more = row_more K bytes (idle (take i tasks)) at low (one task) 3 so_far above small (without_state K L bytes at task number (omega (arith, inside)) flag) (length_without K L bytes at task) in
        let row : idle (take i tasks) ++ one task ∷ [] ≡ idle (take (i + 1) (set tasks i task)) = sym (map-append one (take i tasks) (task ∷ [])) ∙ ap (λ (l : List ℕ). idle l) (sym (take_more_set tasks i task short)) in
        subst (λ (k : ℕ). RowSoFar K bytes (idle (take (i + 1) (set tasks i task))) k (task + 1)) (omega arith)
        (subst (λ (l : List (Place J)). RowSoFar K bytes l (at + 3) (task + 1)) row more)
      where
        one : ℕ → Place J
        one x = record { task = x; state = None }

    module _ (tasks : List ℕ) (n low : ℕ) (so_far : IdleSoFar tasks n low) (long : n ≤ length tasks) where
      pub idle_is_row : n ≤ 64 → IsRow (take n tasks)
      idle_is_row few = row_is (take n tasks) (take n tasks) refl (omega (arith, few, length-take-le n tasks long)) (subst (λ (l : List ℕ). IsTrue (rises_from 0 l)) (idle_tasks J (take n tasks)) so_far.rising)

      pub idle_stands : (form : Form) → n ≡ form.workers → 0 < length bytes → get_or bytes 0 0 ≡ 2 → IsRecord K form bytes (ran (idle (take n tasks))) (idle_len form.workers)
      idle_stands form all some tag = record {
        fits = row_fits K bytes (idle (take n tasks)) (1 + 3 * n) low form so_far (idle_long J (take n tasks) ∙ length-take-le n tasks long ∙ all);
        begins = row_stands K bytes (idle (take n tasks)) (1 + 3 * n) low so_far some tag;
        long = omega (arith, so_far.place, all);
      }

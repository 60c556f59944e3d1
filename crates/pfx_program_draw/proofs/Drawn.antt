-- The lags that are drawn are the ledgers' own.
use Rattle.std.proofs.Common.{◌≡◌, ◌<◌, ◌≤◌, ℕ, zero, suc, ◌+◌, ◌-◌, ◌*◌, Bool, true, false, List, [], ◌∷◌, length, get_or, take, refl, sym, ap, ap₂, ◌∙◌, add-one, arith}
use Rattle.std.specs.Prelude.{◌==◌, ◌&&◌, nat_lt}
use Rattle.std.proofs.lemmas.Bool.{lt-ltb}
use Rattle.std.proofs.lemmas.List.{get_or-map, length-map, length-take-le}
use Rattle.std.proofs.lemmas.List.Sums.{count_by_more_yes, count_by_more_no}
use Rattle.pfx_weights.specs.Rows.{is_in, one, Schedule}
use Rattle.pfx_columns.specs.Ledgers.{Ledger, IsLedger, task, total}
use Rattle.pfx_choice.specs.Plans.{past, times_in, allocs_past}
use Rattle.pfx_program_draw.specs.Bars.{has}
use Rattle.pfx_program_draw.specs.Drawing.{marks_of}
use Rattle.pfx_program_draw.specs.Lags.{runs_in}
use Rattle.pfx_program_draw.specs.Laws.{DrawsLagOf}

one_is : (b : Bool) → (one b == 1) ≡ b
one_is true = refl
one_is false = refl

has_is : (rows : Schedule) (x i : ℕ) → i < length rows → has (marks_of rows x) 1 i ≡ is_in (get_or rows i []) x
has_is rows x i below =
    let mark = λ (row : List ℕ). one (is_in row x) in
    let at : get_or (marks_of rows x) i 0 ≡ one (is_in (get_or rows i []) x) = get_or-map mark rows i [] 0 below in
    let long : length (marks_of rows x) ≡ length rows = length-map rows mark in
    let there : nat_lt i (length (marks_of rows x)) ≡ true = lt-ltb i (length (marks_of rows x)) (omega (arith, long, below)) in
    ap₂ (λ (a : Bool) (n : ℕ). a && (n == 1)) there at ∙ one_is (is_in (get_or rows i []) x)

none_yet : (rows : Schedule) (x : ℕ) → times_in (take 0 rows) x ≡ 0
none_yet [] x = refl
none_yet (row ∷ rows) x = refl

-- one slot more
more_runs : (rows : Schedule) (x i : ℕ) → i < length rows → runs_in (marks_of rows x) i ≡ times_in (take i rows) x → runs_in (marks_of rows x) (suc i) ≡ times_in (take (suc i) rows) x
more_runs rows x i below so_far = by (is_in (get_or rows i []) x) refl
  where
    step : (b : Bool) → is_in (get_or rows i []) x ≡ b → runs_in (marks_of rows x) (suc i) ≡ times_in (take i rows) x + one b
    step b e = ap₂ (λ (n : ℕ) (a : Bool). n + one a) so_far (has_is rows x i below ∙ e)

    next : (n : ℕ) → n ≡ suc i → times_in (take n rows) x ≡ times_in (take (suc i) rows) x
    next n e = ap (λ (k : ℕ). times_in (take k rows) x) e

    by : (b : Bool) → is_in (get_or rows i []) x ≡ b → runs_in (marks_of rows x) (suc i) ≡ times_in (take (suc i) rows) x
    by true e = step true e ∙ sym (count_by_more_yes (λ row. is_in row x) rows i [] below e) ∙ next (i + 1) (add-one i)
    by false e =
        let none : times_in (take i rows) x + 0 ≡ times_in (take i rows) x = omega arith in
        step false e ∙ none ∙ sym (count_by_more_no (λ row. is_in row x) rows i [] below e) ∙ next (i + 1) (add-one i)

-- the marks count as the rows do
runs_are : (rows : Schedule) (x i : ℕ) → i ≤ length rows → runs_in (marks_of rows x) i ≡ times_in (take i rows) x
runs_are rows x zero h = sym (none_yet rows x)
runs_are rows x (suc i) h = more_runs rows x i (omega (arith, h)) (runs_are rows x i (omega (arith, h)))

-- the allocations behind rows
alloc_at : (rows : Schedule) (y : ℕ) (allocs : List ℕ) (x : ℕ) → x < length allocs → get_or (allocs_past rows y allocs) x 0 ≡ get_or allocs x 0 + times_in rows (y + x)
alloc_at rows y [] x h = absurd (omega (arith, h))
alloc_at rows y (a ∷ allocs) zero h = ap (λ (k : ℕ). a + times_in rows k) (omega arith)
alloc_at rows y (a ∷ allocs) (suc x) h =
    alloc_at rows (y + 1) allocs x (omega (arith, h)) ∙ ap (λ (k : ℕ). get_or allocs x 0 + times_in rows k) (omega arith)

pub drawn_lag : (g : Ledger) (rows : Schedule) (x i : ℕ) → x < total g → IsLedger g → i ≤ length rows → DrawsLagOf g rows x i (past g (take i rows))
drawn_lag g rows x i within ledger h =
    let here : x < length g.allocs = (let same = ledger.length in omega (arith, within, same)) in
    let zero_on : 0 + x ≡ x = omega arith in
    let alloc : (task (past g (take i rows)) x).alloc ≡ (task g x).alloc + runs_in (marks_of rows x) i =
    alloc_at (take i rows) 0 g.allocs x here ∙ ap (λ (k : ℕ). (task g x).alloc + times_in (take i rows) k) zero_on ∙ ap (λ (k : ℕ). (task g x).alloc + k) (sym (runs_are rows x i h)) in
    let slot : (past g (take i rows)).slot ≡ g.slot + i = ap (λ (k : ℕ). g.slot + k) (length-take-le i rows h) in
    record {
      behind = ap₂ (λ (s a : ℕ). (task g x).e * s - (task g x).p * a) (sym slot) (sym alloc);
      ahead = ap₂ (λ (s a : ℕ). (task g x).p * a - (task g x).e * s) (sym slot) (sym alloc);
    }

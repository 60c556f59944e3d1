use Rattle.std.proofs.Common.{◌≡◌, ◌∙◌, ◌<◌, ◌≤◌, ◌+◌, ◌^◌, ◌∷◌, ℕ, true, false, ◌&&◌, List, sym, ap, ap₂, arith, length, drop, get_or, refl, rules}
use Rattle.std.proofs.lemmas.Bool.{lt-leb, le-leb, lt-ltb, eq-eqb}
use Rattle.std.proofs.lemmas.List.{drop_more, at_drop_all}
use Rattle.pfx_record.specs.Records.{rises_from, tasks_of}
use Rattle.pfx_record.specs.declared.record.Place.{Place}
use Rattle.pfx_record.proofs.batch.row_fits.Goals as goal

stops : (low task : ℕ) (tasks : List ℕ) → task < low → rises_from low (task ∷ tasks) ≡ false
stops low task tasks below = rw (lt-leb low task below) refl

goes_on : (low task : ℕ) (tasks : List ℕ) → low ≤ task → task < 2 ^ 16 → rises_from low (task ∷ tasks) ≡ rises_from (task + 1) tasks
goes_on low task tasks above small = rw (le-leb low task above, lt-ltb task (2 ^ 16) small) refl

-- the tasks from a place on
from_here : {J : Type 0} (row : List (Place J)) (i : ℕ) (place : Place J) → i < length row → place ≡ get_or row i place → tasks_of (drop i row) ≡ place.task ∷ tasks_of (drop (i + 1) row)
from_here row i place below is = ap tasks_of (drop_more row i place below) ∙ ap (λ (p : Place _). p.task ∷ tasks_of (drop (i + 1) row)) (sym is)

pub returns-then-from-low : goal.returns-then-from-low
returns-then-from-low g c =
    let row = c.args.row.now in
    let low = c.loop-place.low in
    let here = from_here row c.loop-place.place-index c.place-item.result c.loop-place-test.true c.place-item.is in
    let all : rises_from 0 (tasks_of row) ≡ false = c.loop-place.invariant ∙ ap (rises_from low) here ∙ stops low c.place-item.result.task _ (omega (arith, c.from.ensures)) in
    sym (ap₂ ◌&&◌ (eq-eqb (length row) c.args.workers c.if-row-workers.false) all)

pub loop-place-preserved : goal.loop-place-preserved
loop-place-preserved g c =
    let row = c.args.row.now in
    let low = c.loop-place.low in
    let task = c.place-item.result.task in
    let here = from_here row c.loop-place.place-index c.place-item.result c.loop-place-test.true c.place-item.is in
    let small : task < 2 ^ 16 = search rules in
    c.loop-place.invariant ∙ ap (rises_from low) here ∙ goes_on low task _ (omega (arith, c.from.ensures)) small ∙ ap (λ (n : ℕ). rises_from (n + 1) (tasks_of (drop (c.loop-place.place-index + 1) row))) (sym c.from-low.ensures)

pub returns : goal.returns
returns g c =
    let row = c.args.row.now in
    let all : rises_from 0 (tasks_of row) ≡ true = c.loop-place.invariant ∙ at_drop_all (λ (l : List (Place g.row.J.Denot)). rises_from c.loop-place.low (tasks_of l)) row c.loop-place.place-index c.loop-place-test.false in
    sym (ap₂ ◌&&◌ (eq-eqb (length row) c.args.workers c.if-row-workers.false) all)

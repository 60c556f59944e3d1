-- Rows that rise, and tests as facts.
use Rattle.std.proofs.Common.{◌≡◌, ◌≤◌, ◌<◌, ℕ, ◌+◌, ◌^◌, Bool, true, false, ◌&&◌, nat_le, nat_lt, List, [], ◌∷◌, ◌++◌, refl}
use Rattle.std.specs.Bool.{IsTrue}
use Rattle.std.proofs.lemmas.Bool.{ltb-true, leb-true, lt-ltb, le-leb, false≢true}
use Rattle.pfx_record.specs.Records.{rises_from}

pub both : (a b : Bool) → IsTrue (a && b) → IsTrue a × IsTrue b
both true b h = (refl, h)
both false b h = absurd (false≢true h)

pub of_both : (a b : Bool) → IsTrue a → IsTrue b → IsTrue (a && b)
of_both a b h k = rw (h, k) refl

-- the least task that may come behind these
abbrev pub next_from : ℕ → List ℕ → ℕ
next_from low [] = low
next_from low (task ∷ tasks) = next_from (task + 1) tasks

-- what a row that rises says of its first task
pub record Rises (low task : ℕ) (tasks : List ℕ) : Type 0 where
  pub above : low ≤ task
  pub small : task < 2 ^ 16
  pub others : IsTrue (rises_from (task + 1) tasks)

pub rises : (low task : ℕ) (tasks : List ℕ) → IsTrue (rises_from low (task ∷ tasks)) → Rises low task tasks
rises low task tasks h =
    let first = both (nat_le low task) _ h in
    let second = both (nat_lt task (2 ^ 16)) (rises_from (task + 1) tasks) first.1 in
    record { above = leb-true low task first.0; small = ltb-true task (2 ^ 16) second.0; others = second.1 }

pub rises-from : (low task : ℕ) (tasks : List ℕ) → low ≤ task → task < 2 ^ 16 → IsTrue (rises_from (task + 1) tasks) → IsTrue (rises_from low (task ∷ tasks))
rises-from low task tasks above small others = of_both (nat_le low task) _ (le-leb low task above) (of_both (nat_lt task (2 ^ 16)) _ (lt-ltb task (2 ^ 16) small) others)

pub rises-push : (low : ℕ) (tasks : List ℕ) (task : ℕ) → IsTrue (rises_from low tasks) → next_from low tasks ≤ task → task < 2 ^ 16 → IsTrue (rises_from low (tasks ++ task ∷ []))
rises-push low [] task h above small = rises-from low task [] above small refl
rises-push low (first ∷ tasks) task h above small =
    let r = rises low first tasks h in
    rises-from low first (tasks ++ task ∷ []) r.above r.small (rises-push (first + 1) tasks task r.others above small)

pub next-push : (low : ℕ) (tasks : List ℕ) (task : ℕ) → next_from low (tasks ++ task ∷ []) ≡ task + 1
next-push low [] task = refl
next-push low (first ∷ tasks) task = next-push (first + 1) tasks task

-- of a row that rises, what comes behind its front
pub rises-behind : (low : ℕ) (tasks more : List ℕ) → IsTrue (rises_from low (tasks ++ more)) → IsTrue (rises_from (next_from low tasks) more)
rises-behind low [] more h = h
rises-behind low (first ∷ tasks) more h = rises-behind (first + 1) tasks more (rises low first (tasks ++ more) h).others

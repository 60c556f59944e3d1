-- What holds of the set of workers and tasks that are accepted.
use Rattle.std.specs.Prelude.{◌≡◌, ℕ, ◌*◌, ◌-◌, List, length, take}
use Rattle.std.proofs.Common.{sym, ◌∙◌, ap, subst}
use Rattle.std.proofs.Math.Seq.{take-append_seam}
use Rattle.pfx_weights.specs.Sets.{FilledSet, Accepts, IsFilled, IsOfItsTasks, idle, demand}
use Rattle.pfx_weights.proofs.Fills.{filled_set}

pub filled_of : (m : ℕ) (tasks : List (ℕ × ℕ)) (s : FilledSet) → Accepts m tasks s → IsFilled s
filled_of m tasks s a = subst IsFilled (sym a.is) (filled_set m s.hyper tasks a.count a.workers a.weights a.hyper a.within a.fits)

-- it is the one of its own workers and tasks
pub of_tasks : (m : ℕ) (tasks : List (ℕ × ℕ)) (s : FilledSet) → Accepts m tasks s → IsOfItsTasks s
of_tasks m tasks s a =
    let same : take s.real s.weights ≡ tasks =
    ap (λ (t : FilledSet). take t.real t.weights) a.is ∙ take-append_seam tasks (idle s.hyper (m * s.hyper - demand s.hyper tasks)) in
    let workers : s.workers ≡ m = ap (λ (t : FilledSet). t.workers) a.is in
    subst (λ ts. Accepts s.workers ts s) (sym same) (subst (λ n. Accepts n tasks s) (sym workers) a)

pub real_of : (m : ℕ) (tasks : List (ℕ × ℕ)) (s : FilledSet) → Accepts m tasks s → s.real ≡ length tasks
real_of m tasks s a = ap (λ (t : FilledSet). t.real) a.is

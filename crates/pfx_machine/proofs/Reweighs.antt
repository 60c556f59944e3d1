-- What an accepted Reweigh puts in force.
use Rattle.std.specs.Prelude.{◌≡◌, ◌≢◌, ℕ, ◌-◌, ◌*◌, ◌<◌, ◌≤◌, ◌==◌, if◌then◌else◌, Bool, true, false, List, length, take, Option, Some, None, refl}
use Rattle.std.proofs.Common.{sym, ◌∙◌, ap, subst, eq-eqb}
use Rattle.std.proofs.lemmas.Bool.{cond-true, cond-false, eqb-true, ne_eqb, leb-true, le-leb, lt-leb}
use Rattle.std.proofs.Math.Seq.{take-append_seam}
use Rattle.std.proofs.lemmas.Option.{none-some}
use Rattle.pfx_weights.specs.Sets.{FilledSet, Accepts, Refuses, IsFilled, IsOfItsTasks, idle, demand}
use Rattle.pfx_weights.specs.Tests.{set_fault}
use Rattle.pfx_weights.specs.declared.faults.SetFault.{SetFault}
use Rattle.pfx_weights.specs.declared.faults.SetFault.TheVariants.{NoMemory}
use Rattle.pfx_weights.proofs.Faulting.{none_accepts, fault_from, accepts_none}
use Rattle.pfx_weights.proofs.Fills.{filled_set}
use Rattle.pfx_weights.proofs.Tests.{sets_ok}
use Rattle.pfx_columns.specs.Ledgers.{Ledger, IsLedger, start}
use Rattle.pfx_columns.specs.Levels.{IsLevel, unlevel}
use Rattle.pfx_columns.proofs.Levelling.{level_of}
use Rattle.pfx_columns.proofs.Shown.{start_ledger}
use Rattle.pfx_machine.specs.Plain.{Plain}
use Rattle.pfx_machine.specs.Faults.{no_memory}
use Rattle.pfx_machine.specs.Reweighing.{fault_of, least_for, level_or, set_or, size_fault, new_fault, reweigh_fault, found_or, new_set}
use Rattle.pfx_machine.specs.declared.faults.MachineFault.{MachineFault}
use Rattle.pfx_machine.specs.declared.faults.MachineFault.TheVariants.{WrongCount, NotLevel, SegmentTooSmall}

-- what stands in force after an accepted Reweigh
pub record IsReweighed {J : Type 0} (s : Plain J) (m : ℕ) (weights : List (ℕ × ℕ)) : Type 0 where
  pub count : length weights ≡ s.ledger.set.real
  pub level : IsLevel s.ledger
  pub accepts : Accepts m weights (new_set s.ledger.set m weights)
  pub room : least_for m s.ledger.set.real ≤ s.segment
  pub ledger : IsLedger (start (new_set s.ledger.set m weights))
  pub real : (new_set s.ledger.set m weights).real ≡ s.ledger.set.real
  pub of : IsOfItsTasks (new_set s.ledger.set m weights)

level_parts : (o : Option ℕ) (rest : Option MachineFault) → level_or o rest ≡ None → (o ≡ None) × (rest ≡ None)
level_parts None rest h = (refl, h)
level_parts (Some x) rest h = absurd (none-some (NotLevel x) (sym h))

set_parts : (o : Option SetFault) (rest : Option MachineFault) → set_or o rest ≡ None → (o ≡ None) × (rest ≡ None)
set_parts None rest h = (refl, h)
set_parts (Some f) rest h = absurd (none-some (fault_of f) (sym h))

count_parts : (b : Bool) (rest : Option MachineFault) → (if b then rest else Some WrongCount) ≡ None → (b ≡ true) × (rest ≡ None)
count_parts true rest h = (refl, h)
count_parts false rest h = absurd (none-some WrongCount (sym h))

size_parts : (b : Bool) (f : MachineFault) → (if b then None else Some f) ≡ None → b ≡ true
size_parts true f h = refl
size_parts false f h = absurd (none-some f (sym h))

pub new_set_is : (s t : FilledSet) (m : ℕ) (weights : List (ℕ × ℕ)) → Accepts m weights t → new_set s m weights ≡ t
new_set_is s t m weights a = ap (found_or s) (sets_ok m weights t a)

pub filled_of : (m : ℕ) (weights : List (ℕ × ℕ)) (t : FilledSet) → Accepts m weights t → IsFilled t
filled_of m weights t a = subst IsFilled (sym a.is) (filled_set m t.hyper weights a.count a.workers a.weights a.hyper a.within a.fits)

-- the set of workers and tasks is the one of its own
pub of_tasks : (m : ℕ) (weights : List (ℕ × ℕ)) (t : FilledSet) → Accepts m weights t → IsOfItsTasks t
of_tasks m weights t a =
    let tasks : take t.real t.weights ≡ weights =
    ap (λ (s : FilledSet). take s.real s.weights) a.is ∙ take-append_seam weights (idle t.hyper (m * t.hyper - demand t.hyper weights)) in
    let workers : t.workers ≡ m = ap (λ (s : FilledSet). s.workers) a.is in
    subst (λ ts. Accepts t.workers ts t) (sym tasks) (subst (λ n. Accepts n weights t) (sym workers) a)

pub accepted_set : {J : Type 0} (s : Plain J) (m : ℕ) (weights : List (ℕ × ℕ)) → reweigh_fault s m weights ≡ None → IsReweighed s m weights
unfolding new_fault
accepted_set s m weights h =
    let count = count_parts (length weights == s.ledger.set.real) _ h in
    let level = level_parts (unlevel s.ledger) _ count.1 in
    let set = set_parts (set_fault m weights) _ level.1 in
    let found = none_accepts m weights set.0 in
    let same : new_set s.ledger.set m weights ≡ found.0 = new_set_is s.ledger.set found.0 m weights found.1 in
    let accepts : Accepts m weights (new_set s.ledger.set m weights) = subst (Accepts m weights) (sym same) found.1 in
    let long : length weights ≡ s.ledger.set.real = eqb-true _ _ count.0 in
    record {
      count = long;
      level = level_of s.ledger level.0;
      accepts = accepts;
      room = leb-true _ _ (size_parts _ _ set.1);
      ledger = start_ledger _ (filled_of m weights _ accepts);
      real = ap (λ (t : FilledSet). t.real) accepts.is ∙ long;
      of = of_tasks m weights _ accepts;
    }

-- each test, where those before it are passed

pub wrong_count : (g : Ledger) (segment m : ℕ) (weights : List (ℕ × ℕ)) → length weights ≢ g.set.real → new_fault g segment m weights ≡ Some WrongCount
unfolding new_fault
wrong_count g segment m weights other = cond-false _ _ _ (ne_eqb _ _ other)

counted : (g : Ledger) (segment m : ℕ) (weights : List (ℕ × ℕ)) → length weights ≡ g.set.real →
    new_fault g segment m weights ≡ level_or (unlevel g) (set_or (set_fault m weights) (size_fault segment (least_for m g.set.real)))
unfolding new_fault
counted g segment m weights same = cond-true _ _ _ (eq-eqb _ _ same)

pub not_level : (g : Ledger) (segment m : ℕ) (weights : List (ℕ × ℕ)) (x : ℕ) → length weights ≡ g.set.real → unlevel g ≡ Some x → new_fault g segment m weights ≡ Some (NotLevel x)
not_level g segment m weights x same found = counted g segment m weights same ∙ ap (λ o. level_or o (set_or (set_fault m weights) (size_fault segment (least_for m g.set.real)))) found

levelled : (g : Ledger) (segment m : ℕ) (weights : List (ℕ × ℕ)) → length weights ≡ g.set.real → unlevel g ≡ None →
    new_fault g segment m weights ≡ set_or (set_fault m weights) (size_fault segment (least_for m g.set.real))
levelled g segment m weights same none = counted g segment m weights same ∙ ap (λ o. level_or o (set_or (set_fault m weights) (size_fault segment (least_for m g.set.real)))) none

pub no_set : (g : Ledger) (segment m : ℕ) (weights : List (ℕ × ℕ)) (f : SetFault) → length weights ≡ g.set.real → unlevel g ≡ None → f ≢ NoMemory → Refuses m weights f →
    new_fault g segment m weights ≡ Some (fault_of f)
no_set g segment m weights f same none other refused =
    levelled g segment m weights same none ∙ ap (λ o. set_or o (size_fault segment (least_for m g.set.real))) (fault_from m weights f other refused)

pub set_refused : (g : Ledger) (segment m : ℕ) (weights : List (ℕ × ℕ)) (f : SetFault) → length weights ≡ g.set.real → unlevel g ≡ None → Refuses m weights f → fault_of f ≢ no_memory →
    new_fault g segment m weights ≡ Some (fault_of f)
set_refused g segment m weights f same none refused other = no_set g segment m weights f same none (λ is. other (ap fault_of is)) refused

sized : (g : Ledger) (segment m : ℕ) (weights : List (ℕ × ℕ)) (t : FilledSet) → length weights ≡ g.set.real → unlevel g ≡ None → Accepts m weights t →
    new_fault g segment m weights ≡ size_fault segment (least_for m g.set.real)
sized g segment m weights t same none accepts =
    levelled g segment m weights same none ∙ ap (λ o. set_or o (size_fault segment (least_for m g.set.real))) (accepts_none m weights (t, accepts))

pub too_small : (g : Ledger) (segment m : ℕ) (weights : List (ℕ × ℕ)) (t : FilledSet) → length weights ≡ g.set.real → unlevel g ≡ None → Accepts m weights t →
    segment < least_for m g.set.real → new_fault g segment m weights ≡ Some (SegmentTooSmall (least_for m g.set.real))
too_small g segment m weights t same none accepts less = sized g segment m weights t same none accepts ∙ cond-false _ _ _ (lt-leb (least_for m g.set.real) segment less)

pub goes_on : (g : Ledger) (segment m : ℕ) (weights : List (ℕ × ℕ)) (t : FilledSet) → length weights ≡ g.set.real → unlevel g ≡ None → Accepts m weights t →
    least_for m g.set.real ≤ segment → new_fault g segment m weights ≡ None
goes_on g segment m weights t same none accepts room = sized g segment m weights t same none accepts ∙ cond-true _ _ _ (le-leb (least_for m g.set.real) segment room)

pub real_of : (m : ℕ) (weights : List (ℕ × ℕ)) (t : FilledSet) → Accepts m weights t → t.real ≡ length weights
real_of m weights t a = ap (λ (s : FilledSet). s.real) a.is

pub workers_of : (m : ℕ) (weights : List (ℕ × ℕ)) (t : FilledSet) → Accepts m weights t → t.workers ≡ m
workers_of m weights t a = ap (λ (s : FilledSet). s.workers) a.is

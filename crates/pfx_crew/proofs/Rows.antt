-- The quanta of a row are of different tasks.
use Rattle.std.proofs.Common.{◌≡◌, ◌≢◌, ◌<◌, ℕ, zero, suc, ◌+◌, ◌==◌, List, [], ◌∷◌, ◌++◌, Option, Some, None, Bool, true, false, refl, sym, ap, ◌∙◌, subst, arith}
use Rattle.std.specs.Prelude.{slice_get, slice_index, unwrap_or, if◌then◌else◌}
use Rattle.std.specs.List.Sorted.{IsStrictlyIncreasing}
use Rattle.std.proofs.lemmas.Option.{none-some}
use Rattle.pfx_jobs.specs.Kind.{Kind}
use Rattle.pfx_machine.specs.Slots.{Deal, deal, deal_at, deals}
use Rattle.pfx_crew.specs.Laws.{NoTaskTwice}

some_is : {A : Type 0} (a b : A) → Some a ≡ Some b → a ≡ b
some_is a b e = ap (λ o. unwrap_or o a) e

tail_rises : (x : ℕ) (xs : List ℕ) → IsStrictlyIncreasing (x ∷ xs) → IsStrictlyIncreasing xs
tail_rises x xs rising k lt =
    let up : suc k + 1 ≡ suc (k + 1) = omega arith in
    subst (λ n. slice_index (x ∷ xs) (suc k) < slice_index (x ∷ xs) n) up (rising (suc k) (omega (arith, lt)))

rises : (x : ℕ) (xs : List ℕ) → IsStrictlyIncreasing (x ∷ xs) → (k y : ℕ) → slice_get xs k ≡ Some y → x < y
rises x [] rising k y e = absurd (none-some y e)
rises x (z ∷ zs) rising zero y e = let first : x < z = rising 0 (omega arith) in let same = some_is z y e in omega (arith, first, same)
rises x (z ∷ zs) rising (suc k) y e =
    let first : x < z = rising 0 (omega arith) in
    let later = rises z zs (tail_rises x (z ∷ zs) rising) k y e in
    omega (arith, first, later)

module _ {J : Type 0} where
  -- a quantum among those of one task, or behind them
  among : (d : Deal J) (b : Bool) (rest : List (Deal J)) (i : ℕ) (e : Deal J) (P : Type 0) → slice_get ((if b then [] else d ∷ []) ++ rest) i ≡ Some e
      → (e ≡ d → P) → ((j : ℕ) → slice_get rest j ≡ Some e → P) → P
  among d true rest i e P at here behind = behind i at
  among d false rest zero e P at here behind = here (sym (some_is d e at))
  among d false rest (suc i) e P at here behind = behind i at

  apart_more : (d : Deal J) (b : Bool) (rest : List (Deal J)) → NoTaskTwice rest → ((j : ℕ) (e : Deal J) → slice_get rest j ≡ Some e → e.task ≢ d.task)
      → NoTaskTwice ((if b then [] else d ∷ []) ++ rest)
  apart_more d true rest apart others i j e f ei fj same = apart i j e f ei fj same
  apart_more d false rest apart others zero zero e f ei fj same = refl
  apart_more d false rest apart others zero (suc j) e f ei fj same = absurd (others j f fj (sym same ∙ sym (ap (λ x. x.task) (some_is d e ei))))
  apart_more d false rest apart others (suc i) zero e f ei fj same = absurd (others i e ei (same ∙ sym (ap (λ x. x.task) (some_is d f fj))))
  apart_more d false rest apart others (suc i) (suc j) e f ei fj same = ap suc (apart i j e f ei fj same)

  apart_at : (K : Kind J) (number slot task : ℕ) (o : Option (Option J)) (rest : List (Deal J)) → NoTaskTwice rest
      → ((j : ℕ) (e : Deal J) → slice_get rest j ≡ Some e → e.task ≢ task) → NoTaskTwice (deal_at K number slot task o ++ rest)
  apart_at K number slot task None rest apart others = apart
  apart_at K number slot task (Some None) rest apart others = apart
  apart_at K number slot task (Some (Some s)) rest apart others = apart_more (deal number slot task s) (K.left s == 0) rest apart others

  among_at : (K : Kind J) (number slot task : ℕ) (o : Option (Option J)) (rest : List (Deal J)) (i : ℕ) (e : Deal J) (P : Type 0) → slice_get (deal_at K number slot task o ++ rest) i ≡ Some e
      → (e.task ≡ task → P) → ((j : ℕ) → slice_get rest j ≡ Some e → P) → P
  among_at K number slot task None rest i e P at here behind = behind i at
  among_at K number slot task (Some None) rest i e P at here behind = behind i at
  among_at K number slot task (Some (Some s)) rest i e P at here behind = among (deal number slot task s) (K.left s == 0) rest i e P at (λ is. here (ap (λ x. x.task) is)) behind

  of_row : (K : Kind J) (number slot : ℕ) (row : List ℕ) (jobs : List (Option J)) (i : ℕ) (e : Deal J) → slice_get (deals K number slot row jobs) i ≡ Some e
      → (k : ℕ) × (slice_get row k ≡ Some e.task)
  of_row K number slot [] jobs i e at = absurd (none-some e at)
  of_row K number slot (task ∷ row) jobs i e at = among_at K number slot task (slice_get jobs task) (deals K number slot row jobs) i e
      ((k : ℕ) × (slice_get (task ∷ row) k ≡ Some e.task)) at
      (λ is. (0, ap Some (sym is)))
      (λ j behind. let r = of_row K number slot row jobs j e behind in (suc r.0, r.1))

  pub no_task_twice : (K : Kind J) (number slot : ℕ) (row : List ℕ) (jobs : List (Option J)) → IsStrictlyIncreasing row → NoTaskTwice (deals K number slot row jobs)
  no_task_twice K number slot [] jobs rising = λ i j d e di ej same. absurd (none-some d di)
  no_task_twice K number slot (task ∷ row) jobs rising = apart_at K number slot task (slice_get jobs task) (deals K number slot row jobs)
      (no_task_twice K number slot row jobs (tail_rises task row rising))
      (λ j e at same. let r = of_row K number slot row jobs j e at in let above = rises task row rising r.0 e.task r.1 in absurd (omega (arith, above, same)))

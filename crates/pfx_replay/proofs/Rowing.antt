-- The places of a row, one by one.
use Rattle.std.proofs.Common.{◌≡◌, ◌<◌, ℕ, zero, suc, List, [], ◌∷◌, length, get_or, drop, map, refl, ap, ap₂, Option, arith}
use Rattle.pfx_jobs.specs.Kind.{Kind}
use Rattle.pfx_record.specs.Records.{tasks_of}
use Rattle.pfx_record.specs.declared.record.Place.{Place}
use Rattle.pfx_record_redo.specs.Recording.{place_of}

pub same_lists : (xs ys : List ℕ) → length xs ≡ length ys → ((k : ℕ) → k < length xs → get_or xs k 0 ≡ get_or ys k 0) → xs ≡ ys
same_lists [] [] long same = refl
same_lists [] (y ∷ ys) long same = absurd (omega arith)
same_lists (x ∷ xs) [] long same = absurd (omega arith)
same_lists (x ∷ xs) (y ∷ ys) long same = ap₂ (λ z zs. z ∷ zs) (same 0 (omega arith)) (same_lists xs ys (omega arith) (λ k within. same (suc k) (omega arith)))

pub length-tasks : {J : Type 0} (row : List (Place J)) → length (tasks_of row) ≡ length row
length-tasks [] = refl
length-tasks (p ∷ row) = ap suc (length-tasks row)

pub task_at : {J : Type 0} (row : List (Place J)) (i : ℕ) (d : Place J) → i < length row → get_or (tasks_of row) i 0 ≡ (get_or row i d).task
task_at [] i d within = absurd (omega arith)
task_at (p ∷ row) zero d within = refl
task_at (p ∷ row) (suc i) d within = task_at row i d (omega arith)

module _ {J : Type 0} (K : Kind J) (jobs : List (Option J)) where
  pub at_place : (row : List (Place J)) (i : ℕ) (d : Place J) → row ≡ map (place_of K jobs) (tasks_of row) → i < length row → get_or row i d ≡ place_of K jobs (get_or row i d).task
  at_place [] i d h within = absurd (omega arith)
  at_place (p ∷ row) zero d h within = ap (λ l. get_or l 0 d) h
  at_place (p ∷ row) (suc i) d h within = at_place row i d (ap (drop 1) h) (omega arith)

  pub all_places : (row : List (Place J)) → ((k : ℕ) (d : Place J) → k < length row → get_or row k d ≡ place_of K jobs (get_or row k d).task) → row ≡ map (place_of K jobs) (tasks_of row)
  all_places [] h = refl
  all_places (p ∷ row) h = ap₂ (λ z zs. z ∷ zs) (h 0 p (omega arith)) (all_places row (λ k d within. h (suc k) d (omega arith)))

pub same_elements : {A : Type 0} (xs ys : List A) → length xs ≡ length ys → ((k : ℕ) (d : A) → k < length xs → get_or xs k d ≡ get_or ys k d) → xs ≡ ys
same_elements [] [] long same = refl
same_elements [] (y ∷ ys) long same = absurd (omega arith)
same_elements (x ∷ xs) [] long same = absurd (omega arith)
same_elements (x ∷ xs) (y ∷ ys) long same = ap₂ (λ z zs. z ∷ zs) (same 0 x (omega arith)) (same_elements xs ys (omega arith) (λ k d within. same (suc k) d (omega arith)))

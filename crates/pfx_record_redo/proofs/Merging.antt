-- The states that a slot's results have for the tasks of its row.
use Rattle.std.specs.Prelude.{◌≡◌, ℕ, ◌==◌, ◌||◌, if◌then◌else◌, Bool, true, false, List, [], ◌∷◌, ◌++◌, map, Option, Some, None, slice_get, refl, ⊤}
use Rattle.std.proofs.Common.{sym, ◌∙◌, ap, ap₂, eq-eqb}
use Rattle.std.proofs.lemmas.Bool.{eqb-true}
use Rattle.pfx_weights.specs.Rows.{is_in}
use Rattle.pfx_jobs.specs.Kind.{Kind}
use Rattle.pfx_machine.specs.Slots.{Deal, deal, deal_at, deals}
use Rattle.pfx_record_redo.specs.Recording.{after_in, place_of, state_after_step}

-- a task that takes no quantum has no state
none_dealt : {J : Type 0} (state rest : Option J) (b m : Bool) → rest ≡ (if m then state else None) → (b ≡ true → state ≡ None) → rest ≡ (if b || m then state else None)
none_dealt state rest false m h none = h
none_dealt state rest true true h none = h
none_dealt state rest true false h none = h ∙ sym (none refl)

-- one that takes a quantum has the state after it
one_dealt : {J : Type 0} (state rest : Option J) (found : J) (b m : Bool) → rest ≡ (if m then state else None) → (b ≡ true → state ≡ Some found) → (if b then Some found else rest) ≡ (if b || m then state else None)
one_dealt state rest found false m h some = h
one_dealt state rest found true m h some = sym (some refl)

at_same : {J : Type 0} (K : Kind J) (jobs : List (Option J)) (y x : ℕ) (o : Option (Option J)) → slice_get jobs y ≡ o → (y == x) ≡ true → state_after_step K (slice_get jobs x) ≡ state_after_step K o
at_same K jobs y x o is same = ap (λ n. state_after_step K (slice_get jobs n)) (sym (eqb-true y x same)) ∙ ap (state_after_step K) is

dealt_by : {J : Type 0} (K : Kind J) (number slot : ℕ) (jobs : List (Option J)) (y x : ℕ) (m : Bool) (rest : List (Deal J)) (s : J) (done : Bool) → (K.left s == 0) ≡ done → slice_get jobs y ≡ Some (Some s) →
    after_in K x rest ≡ (if m then state_after_step K (slice_get jobs x) else None) →
    after_in K x ((if done then [] else deal number slot y s ∷ []) ++ rest) ≡ (if (y == x) || m then state_after_step K (slice_get jobs x) else None)
dealt_by K number slot jobs y x m rest s true left is h =
    none_dealt (state_after_step K (slice_get jobs x)) (after_in K x rest) (y == x) m h (λ same. at_same K jobs y x (Some (Some s)) is same ∙ ap (λ b. if b then None else Some (K.stepped s)) left)
dealt_by K number slot jobs y x m rest s false left is h =
    one_dealt (state_after_step K (slice_get jobs x)) (after_in K x rest) (K.stepped s) (y == x) m h (λ same. at_same K jobs y x (Some (Some s)) is same ∙ ap (λ b. if b then None else Some (K.stepped s)) left)

dealt : {J : Type 0} (K : Kind J) (number slot : ℕ) (jobs : List (Option J)) (y x : ℕ) (m : Bool) (rest : List (Deal J)) (o : Option (Option J)) → slice_get jobs y ≡ o →
    after_in K x rest ≡ (if m then state_after_step K (slice_get jobs x) else None) →
    after_in K x (deal_at K number slot y o ++ rest) ≡ (if (y == x) || m then state_after_step K (slice_get jobs x) else None)
dealt K number slot jobs y x m rest None is h = none_dealt (state_after_step K (slice_get jobs x)) (after_in K x rest) (y == x) m h (at_same K jobs y x None is)
dealt K number slot jobs y x m rest (Some None) is h = none_dealt (state_after_step K (slice_get jobs x)) (after_in K x rest) (y == x) m h (at_same K jobs y x (Some None) is)
dealt K number slot jobs y x m rest (Some (Some s)) is h = dealt_by K number slot jobs y x m rest s (K.left s == 0) refl is h

after_deals : {J : Type 0} (K : Kind J) (number slot : ℕ) (row : List ℕ) (jobs : List (Option J)) (x : ℕ) → after_in K x (deals K number slot row jobs) ≡ (if is_in row x then state_after_step K (slice_get jobs x) else None)
after_deals K number slot [] jobs x = refl
after_deals K number slot (y ∷ row) jobs x = dealt K number slot jobs y x (is_in row x) (deals K number slot row jobs) (slice_get jobs y) refl (after_deals K number slot row jobs x)

-- these tasks are of the row
abbrev Among : List ℕ → List ℕ → Type 0
Among row [] = ⊤
Among row (x ∷ xs) = (is_in row x ≡ true) × Among row xs

or_true : (b c : Bool) → c ≡ true → (b || c) ≡ true
or_true true c h = refl
or_true false c h = h

among_more : (y : ℕ) (row xs : List ℕ) → Among row xs → Among (y ∷ row) xs
among_more y row [] h = tt
among_more y row (x ∷ xs) h = (or_true (y == x) (is_in row x) h.0, among_more y row xs h.1)

among_self : (row : List ℕ) → Among row row
among_self [] = tt
among_self (x ∷ row) = (ap (λ b. b || is_in row x) (eq-eqb x x refl), among_more x row row (among_self row))

places_same : {J : Type 0} (K : Kind J) (number slot : ℕ) (row : List ℕ) (jobs : List (Option J)) (xs : List ℕ) → Among row xs →
    map (λ x. record { task = x; state = after_in K x (deals K number slot row jobs) }) xs ≡ map (place_of K jobs) xs
places_same K number slot row jobs [] h = refl
places_same K number slot row jobs (x ∷ xs) h =
    let state = after_deals K number slot row jobs x ∙ ap (λ b. if b then state_after_step K (slice_get jobs x) else None) h.0 in
    ap₂ ◌∷◌ (λ i. record { task = x; state = state i }) (places_same K number slot row jobs xs h.1)

pub row_places : {J : Type 0} (K : Kind J) (number slot : ℕ) (row : List ℕ) (jobs : List (Option J)) →
    map (λ x. record { task = x; state = after_in K x (deals K number slot row jobs) }) row ≡ map (place_of K jobs) row
row_places K number slot row jobs = places_same K number slot row jobs row (among_self row)

-- Lags over a part of a history.
use Rattle.std.proofs.Common.{◌≡◌, ◌≤◌, ◌<◌, ◌∙◌, ℕ, ◌+◌, ◌*◌, cond, Bool, true, false, List, [], ◌∷◌, ◌++◌, length, get_or, map, suc, Ok, pos, ◌+ℤ◌, ◌-ℤ◌, refl, ap, ap₂, sym, zero-add, subst, arith}
use Rattle.std.proofs.lemmas.Int.{ints}
use Rattle.std.specs.List.{count_by, range_with_len}
use Rattle.std.proofs.Math.Nat.{mul-add}
use Rattle.std.proofs.lemmas.List.FromFn.{get_or-map-range_with_len}
use Rattle.std.proofs.lemmas.List.Sums.{sum_by-append}
use Rattle.pfx_columns.specs.Lags.{lag_of}
use Rattle.pfx_columns.specs.Ledgers.{Ledger, Task, after, add, task, total}
use Rattle.pfx_columns.proofs.Going.{length-add, task-after}
use Rattle.pfx_columns.proofs.Steps.{fair_high, fair_low}
use Rattle.pfx_jobs.specs.Kind.{Kind, Laws}
use Rattle.pfx_machine.specs.Choosing.{row_in}
use Rattle.pfx_machine.specs.Happenings.{row_or_none}
use Rattle.pfx_machine.specs.Plain.{IsState, Plain}
use Rattle.pfx_machine.specs.Steps.{happening_in, state_step}
use Rattle.pfx_machine.proofs.Compose.{outcome-append, outcome-none}
use Rattle.pfx_record.specs.Records.{Recorded, submitted, ran, withdrawn, reweighed, tasks_of}
use Rattle.pfx_record.specs.declared.record.Place.{Place}
use Rattle.pfx_replay.specs.Commands.{command_of}
use Rattle.pfx_weights.specs.Sets.{FilledSet}
use Rattle.pfx_weights.specs.Rows.{is_in, one}
use Rattle.pfx_replay_totals.specs.Laws.{AreSteady, GrowsByDue, IsNear, got_in, lag_in}
use Rattle.pfx_replay_totals.specs.Slots.{Slot, no_share, share_of}
use Rattle.pfx_replay_totals.specs.States.{next_state, reached, share_in, slot_in, slots_behind}

one_is : (b : Bool) → cond b 1 0 ≡ one b
one_is true = refl
one_is false = refl

-- a ledger some slots on: the same set, and a task got so many of them
record Counts (g h : Ledger) (slots : List Slot) (x : ℕ) : Type 0 where
  set : h.set ≡ g.set
  slot : h.slot ≡ g.slot + length slots
  long : length h.allocs ≡ length g.allocs
  got : (task h x).alloc ≡ (task g x).alloc + got_in x slots

none : (g : Ledger) (x : ℕ) → Counts g g [] x
none g x = record { set = refl; slot = omega arith; long = refl; got = omega arith }

module _ {J : Type 0} (K : Kind J) (L : Laws K) where
  next_is : (s : Plain J) (one : Recorded J) → next_state K s one ≡ state_step K s (happening_in s (command_of one))
  next_is s one = outcome-append K L s [] (command_of one ∷ []) ∙ ap (λ t. state_step K t (happening_in t (command_of one))) (outcome-none K s)

  ledger_next : (s : Plain J) (row : _) → row_in s ≡ Ok (tasks_of row) → (next_state K s (ran row)).ledger ≡ after s.ledger (is_in (tasks_of row))
  ledger_next s row e = ap (λ t. t.ledger) (next_is s (ran row)) ∙ ap (λ r. after s.ledger (is_in (row_or_none r))) e

  share_got : (s : Plain J) (row : List ℕ) (x : ℕ) → x < s.ledger.set.real → (share_of (slot_in K s row) x).got ≡ is_in row x
  share_got s row x real = ap (λ h. h.got) (get_or-map-range_with_len (share_in K s row) 0 s.ledger.set.real x x no_share real (omega arith))

  counted : (s : Plain J) (row : List ℕ) (x : ℕ) (slots : List Slot) → x < s.ledger.set.real → got_in x (slot_in K s row ∷ slots) ≡ one (is_in row x) + got_in x slots
  counted s row x slots real =
      sum_by-append (λ t. cond (share_of t x).got 1 0) (slot_in K s row ∷ []) slots
      ∙ ap (λ n. n + got_in x slots) (zero-add (cond (share_of (slot_in K s row) x).got 1 0) ∙ ap (λ b. cond b 1 0) (share_got s row x real) ∙ one_is (is_in row x))

  more : (s : Plain J) (row : List ℕ) (x : ℕ) (h : Ledger) (slots : List Slot) → x < s.ledger.set.real → x < length s.ledger.allocs →
      Counts (after s.ledger (is_in row)) h slots x → Counts s.ledger h (slot_in K s row ∷ slots) x
  more s row x h slots real within c =
      let was = ap (λ v. v.alloc) (task-after s.ledger (is_in row) x within) in
      record {
        set = c.set;
        slot = omega (arith, c.slot);
        long = c.long ∙ length-add (is_in row) 0 s.ledger.allocs;
        got = omega (arith, c.got, was, counted s row x slots real);
      }

  counts : (s : Plain J) (records : List (Recorded J)) (x : ℕ) → x < s.ledger.set.real → x < length s.ledger.allocs → AreSteady K s records →
      Counts s.ledger (reached K s records).ledger (slots_behind K s records) x
  counts s [] x real within h = none s.ledger x
  counts s (submitted task job ∷ records) x real within h =
      let e : (next_state K s (submitted task job)).ledger ≡ s.ledger = ap (λ t. t.ledger) (next_is s (submitted task job)) in
      let t = next_state K s (submitted task job) in
      subst (λ g. Counts g (reached K t records).ledger (slots_behind K t records) x) e
      (counts t records x (subst (λ (g : Ledger). x < g.set.real) (sym e) real) (subst (λ (g : Ledger). x < length g.allocs) (sym e) within) h.1)
  counts s (withdrawn task ∷ records) x real within h =
      let e : (next_state K s (withdrawn task)).ledger ≡ s.ledger = ap (λ t. t.ledger) (next_is s (withdrawn task)) in
      let t = next_state K s (withdrawn task) in
      subst (λ g. Counts g (reached K t records).ledger (slots_behind K t records) x) e
      (counts t records x (subst (λ (g : Ledger). x < g.set.real) (sym e) real) (subst (λ (g : Ledger). x < length g.allocs) (sym e) within) h.1)
  counts s (reweighed workers weights ∷ records) x real within h = absurd h.0
  counts s (ran row ∷ records) x real within h =
      let e = ledger_next s row h.0 in
      let t = next_state K s (ran row) in
      let within_next : x < length (after s.ledger (is_in (tasks_of row))).allocs = omega (arith, within, length-add (is_in (tasks_of row)) 0 s.ledger.allocs) in
      more s (tasks_of row) x (reached K t records).ledger (slots_behind K t records) real within
      (subst (λ g. Counts g (reached K t records).ledger (slots_behind K t records) x) e
      (counts t records x (subst (λ (g : Ledger). x < g.set.real) (sym e) real) (subst (λ (g : Ledger). x < length g.allocs) (sym e) within_next) h.1))

  inside : (s : Plain J) (x : ℕ) → IsState s → x < s.ledger.set.real → x < length s.ledger.allocs
  inside s x is real = omega (arith, real, is.ledger.set.front, is.ledger.length)

  pub behind_is : (s : Plain J) (row : List (Place J)) (x : ℕ) → IsState s → x < s.ledger.set.real → row_in s ≡ Ok (tasks_of row) →
      (share_in K s (tasks_of row) x).lag ≡ lag_in (next_state K s (ran row)) x
  behind_is s row x is real e =
      let lag = λ (v : Task) (t : ℕ). lag_of v.e v.p v.alloc t in
      let moved = ap (λ g. lag (task g x) g.slot) (ledger_next s row e) in
      let counted = ap (λ v. lag v (s.ledger.slot + 1)) (task-after s.ledger (is_in (tasks_of row)) x (inside s x is real)) in
      sym (moved ∙ counted)

  pub grows : (s : Plain J) (records : List (Recorded J)) (x : ℕ) → IsState s → x < s.ledger.set.real → AreSteady K s records → GrowsByDue K s records x
  grows s records x is real steady =
      let slots = slots_behind K s records in
      let c = counts s records x real (inside s x is real) steady in
      let v = task s.ledger x in
      let h = (reached K s records).ledger in
      let e_same : (task h x).e ≡ v.e = ap (λ (set : FilledSet). (get_or set.weights x (0, 0)).0) c.set in
      let p_same : (task h x).p ≡ v.p = ap (λ (set : FilledSet). (get_or set.weights x (0, 0)).1) c.set in
      let due : (task h x).e * h.slot ≡ v.e * s.ledger.slot + v.e * length slots = ap₂ (λ m n. m * n) e_same c.slot ∙ mul-add v.e s.ledger.slot (length slots) in
      let got : (task h x).p * (task h x).alloc ≡ v.p * v.alloc + v.p * got_in x slots = ap₂ (λ m n. m * n) p_same c.got ∙ mul-add v.p v.alloc (got_in x slots) in
      omega (arith, ints, due, got)

  pub is_near : (s : Plain J) (records : List (Recorded J)) (x : ℕ) → IsState s → IsState (reached K s records) → x < s.ledger.set.real → AreSteady K s records → IsNear K s records x
  is_near s records x is then real steady =
      let slots = slots_behind K s records in
      let c = counts s records x real (inside s x is real) steady in
      let v = task s.ledger x in
      let h = (reached K s records).ledger in
      let e_same : (task h x).e ≡ v.e = ap (λ (set : FilledSet). (get_or set.weights x (0, 0)).0) c.set in
      let p_same : (task h x).p ≡ v.p = ap (λ (set : FilledSet). (get_or set.weights x (0, 0)).1) c.set in
      let due : (task h x).e * h.slot ≡ v.e * s.ledger.slot + v.e * length slots = ap₂ (λ m n. m * n) e_same c.slot ∙ mul-add v.e s.ledger.slot (length slots) in
      let got : (task h x).p * (task h x).alloc ≡ v.p * v.alloc + v.p * got_in x slots = ap₂ (λ m n. m * n) p_same c.got ∙ mul-add v.p v.alloc (got_in x slots) in
      let total_here : x < total s.ledger = omega (arith, real, is.ledger.set.front) in
      let total_then : x < total h = omega (arith, total_here, ap (λ (set : FilledSet). length set.weights) c.set) in
      let before = is.ledger.fair x total_here in
      let behind = then.ledger.fair x total_then in
      let low = fair_low v.e v.p v.alloc s.ledger.slot before in
      let high = fair_high v.e v.p v.alloc s.ledger.slot before in
      let low_then = fair_low (task h x).e (task h x).p (task h x).alloc h.slot behind in
      let high_then = fair_high (task h x).e (task h x).p (task h x).alloc h.slot behind in
      (omega (arith, due, got, p_same, low, high, low_then, high_then), omega (arith, due, got, p_same, low, high, low_then, high_then))

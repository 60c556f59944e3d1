-- Over all its epochs a task is within one slot of what it was due, as each ended where every lag was zero.
use Rattle.std.proofs.Common.{◌≡◌, ℕ, ◌+◌, ◌*◌, ◌<◌, cond, List, [], ◌∷◌, ◌++◌, length, take, get_or, None, arith, ap, sym, ◌∙◌, refl, subst, append_assoc, append-nil}
use Rattle.std.specs.Prelude.{⊤}
use Rattle.std.proofs.Math.Nat.{mul-lt-mul_of_pos_left}
use Rattle.std.proofs.lemmas.List.{length_push, length-replicate}
use Rattle.std.proofs.lemmas.List.Sums.{sum_by_push, sum_by-append}
use Rattle.pfx_weights.specs.Rows.{one, is_in, Schedule}
use Rattle.pfx_weights.specs.Sets.{FilledSet, IsWeight, IsOfItsTasks}
use Rattle.pfx_columns.specs.Ledgers.{Ledger, Task, IsLedger, total, task, start, after}
use Rattle.pfx_columns.specs.Levels.{IsLevel}
use Rattle.pfx_columns.proofs.Going.{task-after}
use Rattle.pfx_columns.proofs.Levelling.{ints_of, of_ints}
use Rattle.pfx_columns.proofs.Shown.{start_ledger}
use Rattle.pfx_columns.proofs.Steps.{fair_low, fair_high}
use Rattle.pfx_choice.specs.Plans.{times_in}
use Rattle.pfx_choice.proofs.Planning.{one_cond}
use Rattle.pfx_jobs.specs.Kind.{Kind, Laws}
use Rattle.pfx_machine.specs.Happenings.{rows_of, happening, happenings, row_or_none}
use Rattle.pfx_machine.specs.declared.plain.Happening.{Happening}
use Rattle.pfx_machine.specs.declared.plain.Happening.TheVariants.{Given as given, Taken as taken, Ran as ran, Reweighed as reweighed}
use Rattle.pfx_machine.specs.Choosing.{row_in}
use Rattle.pfx_machine.specs.Outcome.{outcome, state_after}
use Rattle.pfx_machine.specs.Plain.{Plain, IsState, empty}
use Rattle.pfx_machine.specs.Refusals.{refusal, command_fault}
use Rattle.pfx_machine.specs.Reweighing.{new_set}
use Rattle.pfx_machine.specs.Sessions.{AllAccepted, IsAcceptable}
use Rattle.pfx_machine.specs.Steps.{ledger_step, state_step, happening_in}
use Rattle.pfx_machine.specs.declared.command.Command.{Command}
use Rattle.pfx_machine.specs.declared.command.Command.TheVariants.{Submit, Slot, Withdraw, Reweigh}
use Rattle.pfx_machine.proofs.Compose.{outcome-none}
use Rattle.pfx_machine.proofs.Keeping.{below_limit, state_goes_on}
use Rattle.pfx_machine.proofs.Reweighs.{accepted_set, filled_of}
use Rattle.pfx_machine.proofs.Snoc.{happenings-snoc, outcome-snoc}
use Rattle.pfx_machine_feasible.specs.Lives.{Epoch, fresh, with_row, epochs, life, Fraction, plus, share, due, got, IsWithinOne, followed, gone_on, rows_in}
use Rattle.pfx_machine_feasible.proofs.Endless.{start_shares}

-- epochs behind one more happening

abbrev IsSome : List Epoch → Type 0
IsSome [] = ⊥
IsSome (now ∷ later) = ⊤

row_some : (row : List ℕ) (es : List Epoch) → IsSome es → IsSome (with_row row es)
row_some row [] some = some
row_some row (now ∷ later) some = tt

epochs_some : {J : Type 0} (set : FilledSet) (happened : List (Happening J)) → IsSome (epochs set happened)
epochs_some set [] = tt
epochs_some set (given other job ∷ happened) = epochs_some set happened
epochs_some set (taken other ∷ happened) = epochs_some set happened
epochs_some set (ran slot row ∷ happened) = row_some row (epochs set happened) (epochs_some set happened)
epochs_some set (reweighed slot new ∷ happened) = tt

behind_first : {J : Type 0} (past : Epoch) (es : List Epoch) (h : Happening J) → IsSome es → gone_on (past ∷ es) h ≡ past ∷ gone_on es h
behind_first past [] h some = elim some [ ]
behind_first past (next ∷ later) h some = refl

row_first : {J : Type 0} (row : List ℕ) (es : List Epoch) (h : Happening J) → with_row row (gone_on es h) ≡ gone_on (with_row row es) h
row_first row [] h = refl
row_first row (now ∷ []) (given other job) = refl
row_first row (now ∷ []) (taken other) = refl
row_first row (now ∷ []) (ran slot r) = refl
row_first row (now ∷ []) (reweighed slot new) = refl
row_first row (past ∷ next ∷ later) h = refl

epochs-snoc : {J : Type 0} (set : FilledSet) (happened : List (Happening J)) (h : Happening J) → epochs set (happened ++ h ∷ []) ≡ gone_on (epochs set happened) h
epochs-snoc set [] (given other job) = refl
epochs-snoc set [] (taken other) = refl
epochs-snoc set [] (ran slot row) = refl
epochs-snoc set [] (reweighed slot new) = refl
epochs-snoc set (given other job ∷ happened) h = epochs-snoc set happened h
epochs-snoc set (taken other ∷ happened) h = epochs-snoc set happened h
epochs-snoc set (ran slot row ∷ happened) h = ap (with_row row) (epochs-snoc set happened h) ∙ row_first row (epochs set happened) h
epochs-snoc set (reweighed slot new ∷ happened) h =
    ap (λ es. fresh set ∷ es) (epochs-snoc new happened h) ∙ sym (behind_first (fresh set) (epochs new happened) h (epochs_some new happened))

-- no row is lost between epochs

row_in_first : (row : List ℕ) (es : List Epoch) → IsSome es → rows_in (with_row row es) ≡ row ∷ rows_in es
row_in_first row [] some = elim some [ ]
row_in_first row (now ∷ later) some = refl

all_rows : {J : Type 0} (set : FilledSet) (happened : List (Happening J)) → rows_in (epochs set happened) ≡ rows_of happened
all_rows set [] = refl
all_rows set (given other job ∷ happened) = all_rows set happened
all_rows set (taken other ∷ happened) = all_rows set happened
all_rows set (ran slot row ∷ happened) = row_in_first row (epochs set happened) (epochs_some set happened) ∙ ap (λ rows. row ∷ rows) (all_rows set happened)
all_rows set (reweighed slot new ∷ happened) = all_rows new happened

pub life_rows : {J : Type 0} (B : Plain J) (H : List (Command J)) → rows_in (life B H) ≡ rows_of (happenings B H)
life_rows B H = all_rows B.ledger.set (happenings B H)

-- how many slots the task got in each epoch
abbrev got_in : ℕ → List Epoch → ℕ
got_in x [] = 0
got_in x (epoch ∷ others) = times_in epoch.rows x + got_in x others

times_in_all : (x : ℕ) (es : List Epoch) → times_in (rows_in es) x ≡ got_in x es
times_in_all x [] = refl
times_in_all x (epoch ∷ others) = sum_by-append (λ r. cond (is_in r x) 1 0) epoch.rows (rows_in others) ∙ ap (λ n. times_in epoch.rows x + n) (times_in_all x others)

got_is : {J : Type 0} (x : ℕ) (set : FilledSet) (happened : List (Happening J)) → got_in x (epochs set happened) ≡ got x happened
got_is x set happened = sym (times_in_all x (epochs set happened)) ∙ ap (λ rows. times_in rows x) (all_rows set happened)

-- one command more

same_happening : {J : Type 0} (K : Kind J) (B : Plain J) (happened : List (Happening J)) (c : Command J) → happening B happened c ≡ happening_in (state_after K B happened) c
same_happening K B happened (Submit other job) = refl
same_happening K B happened (Withdraw other) = refl
same_happening K B happened Slot = refl
same_happening K B happened (Reweigh workers weights) = refl

pub life-snoc : {J : Type 0} (K : Kind J) (B : Plain J) (H : List (Command J)) (c : Command J) → life B (H ++ c ∷ []) ≡ gone_on (life B H) (happening_in (outcome K B H) c)
life-snoc K B H c =
    ap (epochs B.ledger.set) (happenings-snoc B [] H c)
    ∙ epochs-snoc B.ledger.set (happenings B H) (happening B (happenings B H) c)
    ∙ ap (gone_on (life B H)) (same_happening K B (happenings B H) c)

-- what each epoch leaves

abbrev weight : ℕ → FilledSet → ℕ × ℕ
weight x set = get_or set.weights x (0, 0)

-- the epoch that goes on has the task's lag
record IsNow (x : ℕ) (g : Ledger) (now : Epoch) : Type 0 where
  set : now.set ≡ g.set
  lag : (task g x).p * times_in now.rows x + (task g x).e * g.slot ≡ (task g x).p * (task g x).alloc + (task g x).e * length now.rows

-- in one that ended the task got what it was due
record IsEven (x : ℕ) (past : Epoch) : Type 0 where
  some : 0 < (weight x past.set).1
  even : (weight x past.set).1 * times_in past.rows x ≡ (weight x past.set).0 * length past.rows

abbrev Kept : ℕ → Ledger → List Epoch → Type 0
Kept x g [] = ⊥
Kept x g (now ∷ []) = IsNow x g now
Kept x g (past ∷ next ∷ later) = IsEven x past × Kept x g (next ∷ later)

behind_even : (x : ℕ) (g : Ledger) (past : Epoch) (es : List Epoch) → IsEven x past → Kept x g es → Kept x g (past ∷ es)
behind_even x g past [] even kept = elim kept [ ]
behind_even x g past (next ∷ later) even kept = (even, kept)

kept_on : {J : Type 0} (x : ℕ) (g : Ledger) (es : List Epoch) (h : Happening J) → Kept x g es → ((now : Epoch) → IsNow x g now → Kept x (ledger_step g h) (followed now h)) → Kept x (ledger_step g h) (gone_on es h)
kept_on x g [] h kept step = elim kept [ ]
kept_on x g (now ∷ []) h kept step = step now kept
kept_on x g (past ∷ next ∷ later) h kept step = behind_even x (ledger_step g h) past (gone_on (next ∷ later) h) kept.0 (kept_on x g (next ∷ later) h kept.1 step)

times_push : (rows : Schedule) (row : List ℕ) (x : ℕ) → times_in (rows ++ row ∷ []) x ≡ times_in rows x + one (is_in row x)
times_push rows row x = sum_by_push (λ r. cond (is_in r x) 1 0) rows row ∙ ap (λ n. times_in rows x + n) (one_cond (is_in row x))

row_more : (x : ℕ) (g : Ledger) (row : List ℕ) → x < length g.allocs → (now : Epoch) → IsNow x g now → IsNow x (after g (is_in row)) (record { set = now.set; rows = now.rows ++ row ∷ [] })
row_more x g row l now h =
    let v = task g x in
    let times : times_in (now.rows ++ row ∷ []) x ≡ times_in now.rows x + one (is_in row x) = times_push now.rows row x in
    let long : length (now.rows ++ row ∷ []) ≡ length now.rows + 1 = length_push now.rows row in
    let lag : v.p * times_in now.rows x + v.e * g.slot ≡ v.p * v.alloc + v.e * length now.rows = h.lag in
    let more : v.p * (times_in now.rows x + one (is_in row x)) + v.e * (g.slot + 1) ≡ v.p * (v.alloc + one (is_in row x)) + v.e * (length now.rows + 1) = omega (arith, lag) in
    let Lag : Task → ℕ → ℕ → Type 0 = λ u n k. u.p * n + u.e * (g.slot + 1) ≡ u.p * u.alloc + u.e * k in
    record {
      set = h.set;
      lag = subst (λ u. Lag u (times_in (now.rows ++ row ∷ []) x) (length (now.rows ++ row ∷ []))) (sym (task-after g (is_in row) x l))
          (subst (λ n. Lag (record { e = v.e; p = v.p; alloc = v.alloc + one (is_in row x) }) n (length (now.rows ++ row ∷ []))) (sym times)
          (subst (λ k. Lag (record { e = v.e; p = v.p; alloc = v.alloc + one (is_in row x) }) (times_in now.rows x + one (is_in row x)) k) (sym long) more));
    }

ends_even : (x : ℕ) (g : Ledger) → IsLedger g → x < total g → IsLevel g → (now : Epoch) → IsNow x g now → IsEven x now
ends_even x g h l level now is =
    let v = task g x in
    let w : IsWeight (v.e, v.p) = h.set.weights x (0, 0) l in
    let had : v.p * v.alloc ≡ v.e * g.slot = of_ints v.e v.p v.alloc g.slot (level x l) in
    let lag : v.p * times_in now.rows x + v.e * g.slot ≡ v.p * v.alloc + v.e * length now.rows = is.lag in
    let Even : FilledSet → Type 0 = λ s. (weight x s).1 * times_in now.rows x ≡ (weight x s).0 * length now.rows in
    let some : 0 < v.p = (let a = w.1 in omega (arith, a)) in
    let even : v.p * times_in now.rows x ≡ v.e * length now.rows = omega (arith, had, lag) in
    record { some = subst (λ (s : FilledSet). 0 < (weight x s).1) (sym is.set) some; even = subst Even (sym is.set) even }

first_now : (x : ℕ) (set : FilledSet) → x < length set.weights → IsNow x (start set) (fresh set)
first_now x set l =
    let v = task (start set) x in
    let had : v.p * v.alloc ≡ v.e * 0 = start_shares set x l in
    record { set = refl; lag = (let none : v.p * 0 + v.e * 0 ≡ v.p * v.alloc + v.e * 0 = omega (arith, had) in none) }

level_now : (x : ℕ) (g : Ledger) → x < total g → IsLevel g → IsNow x g (fresh g.set)
level_now x g l level =
    let v = task g x in
    let had : v.p * v.alloc ≡ v.e * g.slot = of_ints v.e v.p v.alloc g.slot (level x l) in
    record { set = refl; lag = (let even : v.p * 0 + v.e * g.slot ≡ v.p * v.alloc + v.e * 0 = omega (arith, had) in even) }

-- a state, and the epochs that led to it
record Lived {J : Type 0} (x : ℕ) (s : Plain J) (es : List Epoch) : Type 0 where
  state : IsState s
  real : x < s.ledger.set.real
  kept : Kept x s.ledger es

within : {J : Type 0} (x : ℕ) (s : Plain J) → IsState s → x < s.ledger.set.real → x < total s.ledger
within x s h l = (let a = h.ledger.set.front in omega (arith, l, a))

real_on : {J : Type 0} (K : Kind J) (x : ℕ) (s : Plain J) (c : Command J) → command_fault K s c ≡ None → x < s.ledger.set.real → x < (ledger_step s.ledger (happening_in s c)).set.real
real_on K x s (Submit other job) accepted l = l
real_on K x s (Withdraw other) accepted l = l
real_on K x s Slot accepted l = l
real_on K x s (Reweigh workers weights) accepted l = subst (λ n. x < n) (sym (accepted_set s workers weights accepted).real) l

epochs_on : {J : Type 0} (K : Kind J) (x : ℕ) (s : Plain J) (c : Command J) (es : List Epoch) → Lived x s es → command_fault K s c ≡ None → Kept x (ledger_step s.ledger (happening_in s c)) (gone_on es (happening_in s c))
epochs_on K x s (Submit other job) es h accepted = kept_on x s.ledger es (given other job) h.kept (λ now is. is)
epochs_on K x s (Withdraw other) es h accepted = kept_on x s.ledger es (taken other) h.kept (λ now is. is)
epochs_on K x s Slot es h accepted =
    let long = h.state.ledger.length in
    kept_on x s.ledger es (happening_in s Slot) h.kept (row_more x s.ledger (row_or_none (row_in s)) (let l = within x s h.state h.real in omega (arith, l, long)))
epochs_on K x s (Reweigh workers weights) es h accepted =
    let new = new_set s.ledger.set workers weights in
    let set = accepted_set s workers weights accepted in
    let l : x < length new.weights = (let a = set.ledger.set.front in let b = set.real in let c = h.real in omega (arith, a, b, c)) in
    kept_on x s.ledger es (happening_in s (Reweigh workers weights)) h.kept
    (λ now is. (ends_even x s.ledger h.state.ledger (within x s h.state h.real) set.level now is, first_now x new l))

goes_on : {J : Type 0} (K : Kind J) (x : ℕ) (s : Plain J) (c : Command J) (es : List Epoch) → Lived x s es → refusal K s c ≡ None → Lived x (state_step K s (happening_in s c)) (gone_on es (happening_in s c))
goes_on K x s c es h accepted =
    let fault = (below_limit s.number (command_fault K s c) accepted).1 in
    record { state = state_goes_on K s c h.state accepted; real = real_on K x s c fault h.real; kept = epochs_on K x s c es h fault }

lived_behind : {J : Type 0} (K : Kind J) (L : Laws K) (B : Plain J) (x : ℕ) (before H G : List (Command J)) → Lived x (outcome K B before) (life B before) → AllAccepted K B before (H ++ G)
    → Lived x (outcome K B (before ++ H)) (life B (before ++ H))
lived_behind K L B x before [] G h all = subst (λ xs. Lived x (outcome K B xs) (life B xs)) (sym (append-nil before)) h
lived_behind K L B x before (c ∷ H) G h all =
    let es = gone_on (life B before) (happening_in (outcome K B before) c) in
    let one = goes_on K x (outcome K B before) c (life B before) h all.0 in
    let next : Lived x (outcome K B (before ++ c ∷ [])) es = subst (λ s. Lived x s es) (sym (outcome-snoc K L B before c)) one in
    let more : Lived x (outcome K B (before ++ c ∷ [])) (life B (before ++ c ∷ [])) = subst (Lived x (outcome K B (before ++ c ∷ []))) (sym (life-snoc K B before c)) next in
    subst (λ xs. Lived x (outcome K B xs) (life B xs)) (append_assoc before (c ∷ []) H) (lived_behind K L B x (before ++ c ∷ []) H G more all.1)

-- within one slot

last_within : (e p n c : ℕ) → p * c < e * n + p → e * n < p * c + p → IsWithinOne (plus (share (e, p) n) (record { numerator = 0; denominator = 1 })) (c + 0)
last_within e p n c low high = record { above = omega (arith, low); below = omega (arith, high) }

-- an even epoch before others moves both by a whole number
even_within : (e p n c : ℕ) (others : Fraction) (k : ℕ) → 0 < p → p * c ≡ e * n → IsWithinOne others k → IsWithinOne (plus (share (e, p) n) others) (c + k)
even_within e p n c others k some even h =
    let t = others.numerator in
    let b = others.denominator in
    let low : p * (k * b) < p * (t + b) = mul-lt-mul_of_pos_left h.above some in
    let high : p * t < p * (k * b + b) = mul-lt-mul_of_pos_left h.below some in
    let first : e * n * b ≡ p * c * b = ap (λ z. z * b) (sym even) in
    record { above = omega (arith, low, first); below = omega (arith, high, first) }

epochs_within : (x : ℕ) (g : Ledger) → IsLedger g → x < total g → (es : List Epoch) → Kept x g es → IsWithinOne (due x es) (got_in x es)
epochs_within x g h l [] kept = elim kept [ ]
epochs_within x g h l (now ∷ []) kept =
    let v = task g x in
    let low = fair_low v.e v.p v.alloc g.slot (h.fair x l) in
    let high = fair_high v.e v.p v.alloc g.slot (h.fair x l) in
    let lag : v.p * times_in now.rows x + v.e * g.slot ≡ v.p * v.alloc + v.e * length now.rows = kept.lag in
    let P : FilledSet → Type 0 = λ s. IsWithinOne (due x (record { set = s; rows = now.rows } ∷ [])) (got_in x (now ∷ [])) in
    subst P (sym kept.set) (last_within v.e v.p (length now.rows) (times_in now.rows x) (omega (arith, low, lag)) (omega (arith, high, lag)))
epochs_within x g h l (past ∷ next ∷ later) kept =
    let w = weight x past.set in
    even_within w.0 w.1 (length past.rows) (times_in past.rows x) (due x (next ∷ later)) (got_in x (next ∷ later)) kept.0.some kept.0.even (epochs_within x g h l (next ∷ later) kept.1)

first_lived : {J : Type 0} (K : Kind J) (B : Plain J) (x : ℕ) → IsState B → IsLevel B.ledger → x < B.ledger.set.real → Lived x (outcome K B []) (life B [])
first_lived K B x h level l = subst (λ s. Lived x s (life B [])) (sym (outcome-none K B)) (record { state = h; real = l; kept = level_now x B.ledger (within x B h l) level })

pub lives : {J : Type 0} (K : Kind J) (L : Laws K) (B : Plain J) → IsState B → IsLevel B.ledger → (H G : List (Command J)) → IsAcceptable K B (H ++ G)
    → (x : ℕ) → x < B.ledger.set.real → IsWithinOne (due x (life B H)) (got x (happenings B H))
lives K L B h level H G all x l =
    let lived = lived_behind K L B x [] H G (first_lived K B x h level l) all in
    let each = epochs_within x (outcome K B H).ledger lived.state.ledger (within x (outcome K B H) lived.state lived.real) (life B H) lived.kept in
    subst (IsWithinOne (due x (life B H))) (got_is x B.ledger.set (happenings B H)) each

-- from the first state of a store

pub start_level : (set : FilledSet) → IsLevel (start set)
start_level set x l = (let v = task (start set) x in ints_of v.e v.p v.alloc 0 (start_shares set x l))

pub empty_state : {J : Type 0} (set : FilledSet) (segment : ℕ) → IsOfItsTasks set → IsState {J = J} (empty set segment)
empty_state {J} set segment of = record {
  number = omega arith;
  slot = omega arith;
  set = of;
  ledger = start_ledger set (filled_of set.workers (take set.real set.weights) set of);
  jobs = length-replicate set.real None;
}

pub first_lives : {J : Type 0} (K : Kind J) (L : Laws K) (set : FilledSet) (segment : ℕ) → IsOfItsTasks set → (H G : List (Command J)) → IsAcceptable K (empty set segment) (H ++ G)
    → (x : ℕ) → x < set.real → IsWithinOne (due x (life (empty set segment) H)) (got x (happenings (empty set segment) H))
first_lives K L set segment of = lives K L (empty set segment) (empty_state set segment of) (start_level set)

-- The tasks that run by their levels are PF's row.
use Rattle.std.proofs.Common.{◌≡◌, ◌≢◌, ℕ, ◌<◌, ◌≤◌, ◌==◌, ◌||◌, ◌&&◌, ◌⊎◌, inl, inr, Bool, true, false, if◌then◌else◌, List, length, slice_index_or, subst, arith, ap, sym, ◌∙◌, refl}
use Rattle.std.specs.Prelude.{nat_lt}
use Rattle.std.specs.declared.cmp.Ordering.{Ordering}
use Rattle.std.specs.declared.cmp.Ordering.TheVariants.{Less, Equal, Greater}
use Rattle.std.specs.Ordering.{ordering_reverse, ordering_then}
use Rattle.std.specs.Cmp.{IsTotalOrder}
use Rattle.std.specs.Cmp.Lexicographic.{slice_cmp}
use Rattle.std.proofs.lemmas.Bool.{cases_lt, cases_eq}
use Rattle.std.proofs.lemmas.Cmp.{lists_total, tied_itself}
use Rattle.pfx_symbols.specs.declared.kinds.Symbol.{Symbol}
use Rattle.pfx_symbols.specs.declared.kinds.Class.{Class}
use Rattle.pfx_symbols.specs.declared.kinds.Class.TheVariants.{Contending, Urgent, Tnegru}
use Rattle.pfx_symbols.specs.Symbols.{symbol_cmp}
use Rattle.pfx_symbols.specs.Ranks.{substring, tie_cmp}
use Rattle.pfx_symbols.specs.RankLaws.{symbols_total}
use Rattle.pfx_symbols.proofs.Rounds.{number_greater}
use Rattle.pfx_weights.specs.Rows.{count, members, marked_in}
use Rattle.pfx_weights.proofs.Counts.{count-same}
use Rattle.pfx_weights.proofs.RowSets.{members-same}
use Rattle.pfx_lanes.specs.Laws.{class_number}
use Rattle.pfx_columns.specs.Ledgers.{Ledger, total, class, rank, IsLedger}
use Rattle.pfx_choice.specs.Choices.{IsPf, BeatsIn}
use Rattle.pfx_choice.specs.Kinds.{AreKindsIn, HaveOneWeight}
use Rattle.pfx_choice.specs.Levels.{level_number, string_level, class_level, task_level, AreLevels, AreShared, AreTold}
use Rattle.pfx_choice.specs.Picks.{AreClasses, AreMarks}
use Rattle.pfx_choice.proofs.Best.{rank_order}
use Rattle.pfx_choice.proofs.OneString.{same_string}
use Rattle.pfx_choice.proofs.Cutting.{lt_yes, lt_no, eq_yes, eq_no}
use Rattle.pfx_choice.proofs.Placement.{first_greater}

strings_total : IsTotalOrder (slice_cmp symbol_cmp)
strings_total = lists_total symbols_total

greater_level : (o : Ordering) → level_number o ≡ 1 → o ≡ Greater
greater_level Greater h = refl
greater_level Equal h = absurd (omega (arith, h))
greater_level Less h = absurd (omega (arith, h))

equal_level : (o : Ordering) → level_number o ≡ 0 → o ≡ Equal
equal_level Greater h = absurd (omega (arith, h))
equal_level Equal h = refl
equal_level Less h = absurd (omega (arith, h))

less_level : (o : Ordering) → level_number o ≢ 1 → level_number o ≢ 0 → o ≡ Less
less_level Greater h k = absurd (h refl)
less_level Equal h k = absurd (k refl)
less_level Less h k = refl

abbrev runs_by : ℕ → Bool → Bool
runs_by n early = (n == 1) || ((n == 0) && early)

-- the tasks at level 1, and of those at level 0 the ones before `end`
abbrev runs : Ledger → ℕ → ℕ → ℕ → Bool
runs g q end x = runs_by (task_level g q x) (nat_lt x end)

runs_if : (n : ℕ) (b : Bool) → runs_by n b ≡ true → (n ≡ 1) ⊎ ((n ≡ 0) × (b ≡ true))
runs_if n b h = elim (cases_eq n 1) [
  | inl one ↦ inl one
  | inr other ↦ elim (cases_eq n 0) [
    | inl none ↦ inr (none, sym (rw (eq_no n 1 other, eq_yes n 0 none) refl) ∙ h)
    | inr neither ↦ absurd (let w : false ≡ true = sym (rw (eq_no n 1 other, eq_no n 0 neither) refl) ∙ h in cc)
  ]
]

rests_if : (n : ℕ) (b : Bool) → runs_by n b ≡ false → (n ≢ 1) × (n ≡ 0 → b ≡ false)
rests_if n b h = (λ one. (let w : true ≡ false = sym (rw (eq_yes n 1 one) refl) ∙ h in cc), λ none. sym (rw (eq_no n 1 (λ e. omega (arith, e, none)), eq_yes n 0 none) refl) ∙ h)

pub turned : (a b : List Symbol) (o : Ordering) → slice_cmp symbol_cmp a b ≡ o → slice_cmp symbol_cmp b a ≡ ordering_reverse o
turned a b o h = strings_total.antisymm b a ∙ ap ordering_reverse h

-- what two strings are to a third tells which is greater
greater_by : (a b q : List Symbol) → slice_cmp symbol_cmp a q ≡ Greater → slice_cmp symbol_cmp b q ≢ Greater → slice_cmp symbol_cmp a b ≡ Greater
greater_by a b q above not = elim (cases_eq (level_number (slice_cmp symbol_cmp b q)) 0) [
  | inl same ↦ turned b a Less (strings_total.congr b q a (equal_level _ same) ∙ turned a q Greater above)
  | inr other ↦ turned b a Less (strings_total.trans b q a (less_level _ (λ e. not (greater_level _ e)) other) (turned a q Greater above))
]

same_by : (a b q : List Symbol) (o : Ordering) → slice_cmp symbol_cmp a q ≡ Equal → slice_cmp symbol_cmp b q ≡ o → slice_cmp symbol_cmp a b ≡ ordering_reverse o
same_by a b q o same h = strings_total.congr a q b same ∙ turned b q o h

lt_true : (n m : ℕ) → nat_lt n m ≡ true → n < m
lt_true n m is = elim (cases_lt n m) [ inl less ↦ less | inr not ↦ absurd (let w : false ≡ true = sym (lt_no n m not) ∙ is in cc) ]

lt_false : (n m : ℕ) → nat_lt n m ≡ false → m ≤ n
lt_false n m is = elim (cases_lt n m) [ inl less ↦ absurd (let w : true ≡ false = sym (lt_yes n m less) ∙ is in cc) | inr not ↦ not ]

-- a contending task's level is its string's
contending_level : (g : Ledger) (q x : ℕ) → class g x ≡ Contending → task_level g q x ≡ string_level g q x
contending_level g q x is = ap (λ c. class_level c (string_level g q x)) is

-- of two contending tasks one that runs beats one that rests
run_beats : (g : Ledger) (q end x y : ℕ) → IsLedger g → x < total g → y < total g → class g x ≡ Contending → class g y ≡ Contending → runs g q end x ≡ true → runs g q end y ≡ false → BeatsIn g x y
run_beats g q end x y h l m x_class y_class x_runs y_rests =
    let a = substring (rank g x) in
    let b = substring (rank g y) in
    let to = substring (rank g q) in
    let i = contending_level g q x x_class in
    let j = contending_level g q y y_class in
    let rests = rests_if (task_level g q y) (nat_lt y end) y_rests in
    let not_above : level_number (slice_cmp symbol_cmp b to) ≢ 1 = λ e. rests.0 (j ∙ e) in
    let ne : x ≢ y = λ same. (let w : true ≡ false = sym x_runs ∙ ap (runs g q end) same ∙ y_rests in cc) in
    elim (runs_if (task_level g q x) (nat_lt x end) x_runs) [
      | inl above ↦
          (let told = greater_by a b to (greater_level _ (sym i ∙ above)) (λ e. not_above (ap level_number e)) in
          sym (rank_order g x y h l m ne) ∙ first_greater _ _ told)
      | inr at ↦
          (let same = equal_level _ (sym i ∙ at.0) in
          elim (cases_eq (level_number (slice_cmp symbol_cmp b to)) 0) [
            | inl also ↦
                (let told = same_by a b to Equal same (equal_level _ also) in
                let early = lt_true x end at.1 in
                let late = lt_false y end (rests.1 (j ∙ also)) in
                let first : tie_cmp (rank g x) (rank g y) ≡ Greater = first_greater _ _ (number_greater x y (omega (arith, early, late))) in
                sym (rank_order g x y h l m ne) ∙ ap (λ o. ordering_then o (tie_cmp (rank g x) (rank g y))) told ∙ first)
            | inr below ↦
                (let told = same_by a b to Less same (less_level _ not_above below) in
                sym (rank_order g x y h l m ne) ∙ first_greater _ _ told)
          ])
    ]

-- as many tasks as workers that run by their levels are PF's choice
runs_pf : (g : Ledger) (q end : ℕ) → IsLedger g → count (total g) (runs g q end) ≡ g.set.workers → IsPf g (runs g q end)
runs_pf g q end h all = record {
  size = all;
  urgent = λ x l u. ap (λ c. runs_by (class_level c (string_level g q x)) (nat_lt x end)) u;
  tnegru = λ x l t. ap (λ c. runs_by (class_level c (string_level g q x)) (nat_lt x end)) t;
  beats = λ x y l m x_class y_class in_s out_s. run_beats g q end x y h l m x_class y_class in_s out_s;
}

-- the marks of those at level 1, and of the first ones at level 0, are PF's if they are as many as the workers
pub levels_mark : (g : Ledger) (q end : ℕ) (levels marks : List ℕ) → IsLedger g → AreLevels g q levels → length marks ≡ length levels
    → ((x : ℕ) → x < length levels → marked_in marks x ≡ (marked_in levels x || ((slice_index_or levels x 0 == 0) && nat_lt x end)))
    → count (length marks) (marked_in marks) ≡ g.set.workers → AreMarks g marks
levels_mark g q end levels marks h are long at all =
    let n = are.long in
    let same : (x : ℕ) → x < total g → marked_in marks x ≡ runs g q end x = λ x l. at x (omega (arith, l, n)) ∙ ap (λ k. runs_by k (nat_lt x end)) (are.at x l) in
    let size = long ∙ n in
    record {
      long = size;
      row = record {
        set = runs g q end;
        pf = runs_pf g q end h (sym (ap (λ k. count k (marked_in marks)) size ∙ count-same (total g) (marked_in marks) (runs g q end) same) ∙ all);
        is = ap (λ k. members k (marked_in marks)) size ∙ members-same (total g) (marked_in marks) (runs g q end) same;
      };
    }

-- tasks of one weight have one level
pub same_level : (g : Ledger) (q x y : ℕ) → IsLedger g → x < total g → y < total g → HaveOneWeight g x y → string_level g q x ≡ string_level g q y
same_level g q x y h l m same = ap (λ s. level_number (slice_cmp symbol_cmp s (substring (rank g q)))) (same_string g x y h l m same)

-- a task's own level is 0
pub own_level : (g : Ledger) (q : ℕ) → string_level g q q ≡ 0
own_level g q = ap level_number (tied_itself strings_total (substring (rank g q)))

-- the level of a task of this class, whose string has this level
pub chosen_level : (c : Class) (n : ℕ) → (if class_number c == 0 then n else class_number c) ≡ class_level c n
chosen_level Contending n = refl
chosen_level Urgent n = refl
chosen_level Tnegru n = refl

alone_level : (c : Class) → class_number c ≡ class_level c 0
alone_level Contending = refl
alone_level Urgent = refl
alone_level Tnegru = refl

-- if all tasks have the weight of one, their classes are their levels
pub classes_level : (g : Ledger) (q : ℕ) (classes : List ℕ) → IsLedger g → q < total g → AreClasses g classes → ((x : ℕ) → x < total g → HaveOneWeight g x q) → AreLevels g q classes
classes_level g q classes h m are one = record {
  long = are.all;
  at = λ x l. are.at x l ∙ alone_level (class g x) ∙ ap (class_level (class g x)) (sym (same_level g q x q h l m (one x l) ∙ own_level g q));
}

-- the same of tasks of one kind
pub one_kind : (g : Ledger) (q : ℕ) (firsts kinds classes : List ℕ) → IsLedger g → AreKindsIn g firsts kinds → length firsts ≡ 1 → q ≡ slice_index_or firsts 0 0 → AreClasses g classes → (q < total g) × AreLevels g q classes
one_kind g q firsts kinds classes h of one q_is are =
    let within : q < total g = (let low = of.first 0 (omega (arith, one)) in omega (arith, low, q_is)) in (
      within,
      classes_level g q classes h within are (λ x l.
          (let w = of.within x l in
          let P : ℕ → Type 0 = λ k. HaveOneWeight g x (slice_index_or firsts k 0) in
          let Q : ℕ → Type 0 = λ y. HaveOneWeight g x y in
          let none : slice_index_or kinds x 0 ≡ 0 = omega (arith, w, one) in
          subst Q (sym q_is) (subst P none (of.same x l)))),
    )

-- of kinds whose first tasks' levels are told each task's level is told
pub shared_level : (g : Ledger) (q : ℕ) (firsts kinds levels : List ℕ) → IsLedger g → AreKindsIn g firsts kinds → AreTold g q firsts levels → AreShared g q kinds levels
shared_level g q firsts kinds levels h of told = record {
  long = of.long;
  within = λ x l. (let w = of.within x l in omega (arith, told.long));
  at = λ x l. (let w = of.within x l in told.at (slice_index_or kinds x 0) w ∙ sym (same_level g q x (slice_index_or firsts (slice_index_or kinds x 0) 0) h l (of.first (slice_index_or kinds x 0) w) (of.same x l)));
}

pub from_equal : (n m : ℕ) → (n == m) ≡ true → n ≡ m
from_equal n m h = elim (cases_eq n m) [ inl same ↦ same | inr other ↦ absurd (let w : false ≡ true = sym (eq_no n m other) ∙ h in cc) ]

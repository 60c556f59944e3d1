-- The tasks before the place where the workers run out, and the best of those at it, are PF's row.
use Rattle.std.proofs.Common.{Some, [], subst, ◌-◌, ◌≡◌, ℕ, ◌+◌, ◌<◌, ◌≤◌, ◌==◌, ◌||◌, Bool, true, false, if◌then◌else◌, List, length, slice_index_or, Option, None, arith, ap, sym, ◌∙◌, refl, inl, inr}
use Rattle.std.specs.Prelude.{nat_lt}
use Rattle.std.proofs.lemmas.Bool.{cases_lt, cases_eq}
use Rattle.pfx_symbols.specs.Ranks.{Parts}
use Rattle.std.specs.Prelude.{All}
use Rattle.std.proofs.lemmas.List.Elements.{All-nil}
use Rattle.pfx_weights.specs.Rows.{one, count, members, marked_in}
use Rattle.pfx_weights.proofs.Counts.{count-same, count-sum}
use Rattle.pfx_weights.proofs.RowSets.{members-same}
use Rattle.pfx_columns.specs.Ledgers.{Ledger, total, rank, IsLedger}
use Rattle.pfx_choice.specs.declared.cuts.Cut.{Cut}
use Rattle.pfx_choice.specs.Choices.{urgent, IsPfRow}
use Rattle.pfx_choice.specs.Cuts.{below, IsCut}
use Rattle.pfx_choice.specs.Picks.{AreClasses, IsReady, ranks, ranks_if, IsPivotFor, IsPlaced, reaches, top, id_in}
use Rattle.pfx_choice.specs.Places.{place, ArePlacesIn}
use Rattle.pfx_choice.proofs.Picking.{ranks_below, ranks_below_if, placed_is_pf, top_in, length-ranks_if}
use Rattle.pfx_choice.proofs.Cutting.{cut, cut_set, lt_yes, lt_no, eq_yes, eq_no}
use Rattle.pfx_choice.proofs.Placement.{places_pf}

-- a count of the places is one of the tasks
pub below_in : (g : Ledger) (places : List ℕ) (d : ℕ) → ArePlacesIn g places → below places d ≡ count (total g) (λ x. nat_lt (place g x) d)
below_in g places d h =
    ap (λ n. count n (λ x. nat_lt (slice_index_or places x 0) d)) h.long
    ∙ count-same (total g) (λ x. nat_lt (slice_index_or places x 0) d) (λ x. nat_lt (place g x) d) (λ x l. ap (λ k. nat_lt k d) (h.at x l))

lt_next : (n d : ℕ) → one (nat_lt n (d + 1)) ≡ one (nat_lt n d) + one (n == d)
lt_next n d = elim (cases_lt n d) [
  | inl less ↦ rw (lt_yes n (d + 1) (omega arith), lt_yes n d less, eq_no n d (λ e. omega arith)) refl
  | inr not ↦ elim (cases_eq n d) [
    | inl same ↦ rw (lt_yes n (d + 1) (omega arith), lt_no n d (omega arith), eq_yes n d same) refl
    | inr other ↦ rw (lt_no n (d + 1) (omega arith), lt_no n d (omega arith), eq_no n d other) refl
  ]
]

-- the next place has those before this one and those at it before it
pub below_next : (g : Ledger) (d : ℕ) → count (total g) (λ x. nat_lt (place g x) (d + 1)) ≡ count (total g) (λ x. nat_lt (place g x) d) + count (total g) (λ x. place g x == d)
below_next g d = count-sum (total g) (λ x. nat_lt (place g x) (d + 1)) (λ x. nat_lt (place g x) d) (λ x. place g x == d) (λ x l. lt_next (place g x) d)

-- the marks of the tasks before the cut and of those that a pivot picks at it are PF's row
pub cut_row : (g : Ledger) (c : Cut) (places new : List ℕ) (o : Option Parts) → IsLedger g → ArePlacesIn g places → IsCut places g.set.workers c → IsPivotFor (ranks_if (λ x. place g x == c.place) (total g) g) c.left o →
    length new ≡ total g → ((x : ℕ) → x < total g → marked_in new x ≡ cut_set g (place g) c.place o x) → IsPfRow g (members (length new) (marked_in new))
cut_row g c places new o h at is p long marks = record {
  set = cut_set g (place g) c.place o;
  pf = places_pf g c.place c.left o h is.some is.few p (ap (λ n. n + c.left) (sym (below_in g places c.place at)) ∙ is.all);
  is = ap (λ n. members n (marked_in new)) long ∙ members-same (total g) (marked_in new) (cut_set g (place g) c.place o) marks;
}

pub cut_none : (n d : ℕ) → cut n d false ≡ nat_lt n d
cut_none n d = elim (cases_lt n d) [
  | inl less ↦ rw (lt_yes n d less) refl
  | inr not ↦ elim (cases_eq n d) [
    | inl same ↦ rw (lt_no n d (omega arith), eq_yes n d same) refl
    | inr other ↦ rw (lt_no n d (omega arith), eq_no n d other) refl
  ]
]

pub or_false : (b : Bool) → (b || false) ≡ b
or_false true = refl
or_false false = refl

-- with no worker left they are those before the cut
pub no_place : (rs : List Parts) (k : ℕ) (o : Option Parts) (p : IsPivotFor rs k o) → k ≡ 0 → (x : ℕ) → id_in (top rs k o p) x ≡ false
no_place rs k None p none x = refl
no_place rs k (Some r) p none x = absurd (let s = p.size in omega (arith, s, none))

pub row_before : (g : Ledger) (c : Cut) (places old new : List ℕ) (rs : List Parts) → IsLedger g → ArePlacesIn g places → IsCut places g.set.workers c → c.left ≡ 0 → length old ≡ length places →
    ((x : ℕ) → x < length places → marked_in old x ≡ nat_lt (slice_index_or places x 0) c.place) → IsPlaced rs c.left old new → IsPfRow g (members (length new) (marked_in new))
row_before g c places old new rs h at is none long before placed =
    let n = at.long in
    cut_row g c places new None h at is none (placed.long ∙ long ∙ at.long) (λ x l.
    placed.marks x (omega (arith, n, l, long))
    ∙ ap (λ b. marked_in old x || b) (no_place rs c.left placed.pivot placed.best none x)
    ∙ or_false (marked_in old x)
    ∙ before x (omega (arith, n, l)) ∙ ap (λ k. nat_lt k c.place) (at.at x l) ∙ sym (cut_none (place g x) c.place))

pub cut_or : (a b r : Bool) → (a || (if b then r else false)) ≡ (if a then true else (if b then r else false))
cut_or true b r = refl
cut_or false b r = refl

-- else they are these and the best of those at it
pub row_at : (g : Ledger) (c : Cut) (places old new : List ℕ) → IsLedger g → ArePlacesIn g places → IsCut places g.set.workers c → length old ≡ length places →
    ((x : ℕ) → x < length places → marked_in old x ≡ nat_lt (slice_index_or places x 0) c.place) → IsPlaced (ranks_if (λ x. place g x == c.place) (total g) g) c.left old new →
    IsPfRow g (members (length new) (marked_in new))
row_at g c places old new h at is long before placed =
    let n = at.long in
    cut_row g c places new placed.pivot h at is placed.best (placed.long ∙ long ∙ at.long) (λ x l.
    placed.marks x (omega (arith, n, l, long))
    ∙ ap (λ b. b || id_in (top (ranks_if (λ y. place g y == c.place) (total g) g) c.left placed.pivot placed.best) x) (before x (omega (arith, n, l)) ∙ ap (λ k. nat_lt k c.place) (at.at x l))
    ∙ ap (λ b. nat_lt (place g x) c.place || b) (top_in g (λ y. place g y == c.place) c.left placed.pivot placed.best x l)
    ∙ cut_or (nat_lt (place g x) c.place) (place g x == c.place) (reaches placed.pivot (rank g x)))

-- there are as many at the cut as workers are left
pub left_within : (g : Ledger) (c : Cut) (places : List ℕ) → ArePlacesIn g places → IsCut places g.set.workers c → c.left ≤ length (ranks_if (λ x. place g x == c.place) (total g) g)
left_within g c places at is =
    let here = below_in g places c.place at in
    let next = below_in g places (c.place + 1) at in
    let sum = below_next g c.place in
    let number = length-ranks_if g (λ x. place g x == c.place) in
    omega (arith, is.all, is.enough, here, next, sum, number)

-- the marks before the cut and the ranks at it are ready for the workers left
pub ready_at : (g : Ledger) (c : Cut) (places marks : List ℕ) (rs : List Parts) → IsLedger g → ArePlacesIn g places → IsCut places g.set.workers c → length marks ≡ length places →
    ((x : ℕ) → x < length places → marked_in marks x ≡ nat_lt (slice_index_or places x 0) c.place) → rs ≡ ranks_if (λ x. place g x == c.place) (total g) g → IsReady g c.left marks rs
ready_at g c places marks rs h at is long before same =
    let P : List Parts → Type 0 = λ l. IsReady g c.left marks l in
    let Below : ℕ → Type 0 = λ k. All (λ q. q.id < k) (ranks_if (λ x. place g x == c.place) (total g) g) in
    subst P (sym same) (record {
      long = long ∙ at.long;
      within = left_within g c places at is;
      ids = subst Below (sym (long ∙ at.long)) (ranks_below_if (λ x. place g x == c.place) (total g) g);
      row = λ new placed. row_at g c places marks new h at is long before placed;
    })

-- with no worker left they are ready as they are
pub ready_before : (g : Ledger) (c : Cut) (places marks : List ℕ) (rs : List Parts) → IsLedger g → ArePlacesIn g places → IsCut places g.set.workers c → c.left ≡ 0 → length marks ≡ length places →
    ((x : ℕ) → x < length places → marked_in marks x ≡ nat_lt (slice_index_or places x 0) c.place) → rs ≡ [] → IsReady g c.left marks rs
ready_before g c places marks rs h at is none long before empty =
    let Q : List Parts → Type 0 = λ l. All (λ q. q.id < length marks) l in
    record {
      long = long ∙ at.long;
      within = omega (arith, none);
      ids = subst Q (sym empty) (All-nil (λ q. q.id < length marks));
      row = λ new placed. row_before g c places marks new rs h at is none long before placed;
    }

-- the urgent marks and all contending ranks are ready for the places left
pub ready_of_all : (g : Ledger) (m u : ℕ) (marks : List ℕ) (rs : List Parts) → IsLedger g → rs ≡ ranks (total g) g → AreClasses g marks → u ≡ urgent g → m ≡ g.set.workers → u ≤ m → m - u ≤ length rs → IsReady g (m - u) marks rs
ready_of_all g m u marks rs h is classes u_is m_is le within =
    let Q : List Parts → Type 0 = λ l. All (λ q. q.id < length marks) l in
    let Below : ℕ → Type 0 = λ k. All (λ q. q.id < k) (ranks (total g) g) in
    record {
      long = classes.all;
      within = within;
      ids = subst Q (sym is) (subst Below (sym classes.all) (ranks_below (total g) g));
      row = λ new placed. placed_is_pf g m u rs marks new h is placed classes u_is m_is le;
    }

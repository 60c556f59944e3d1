use Rattle.std.proofs.Common.{◌≡◌, ◌<◌, ◌+◌, ◌++◌, ◌∷◌, [], ◌==◌, length, arith, true, ap, sym, ◌∙◌, refl, length-set, ℕ, Bool, List, take, set, subst}
use Rattle.std.proofs.lemmas.List.{take_more_set, length_push}
use Rattle.pfx_weights.specs.Rows.{IsRow, members, marked_in}
use Rattle.pfx_weights.proofs.RowSets.{members_past, members_rise, members_more}
use Rattle.pfx_weights.proofs.Searching.{members_to}
use Rattle.pfx_weights.proofs.rows.Row.set_by_search.Goals as goal

-- a member is put behind those found
found_more : (places : List ℕ) (n len : ℕ) (s : ℕ → Bool) → length places ≡ 64 → len < 64 → len ≡ length (members n s) → take len places ≡ members n s → s n ≡ true →
    (length (set places len n) ≡ 64) × (len + 1 ≡ length (members (n + 1) s)) × (take (len + 1) (set places len n) ≡ members (n + 1) s)
found_more places n len s long below count found is =
    let more : members n s ++ n ∷ [] ≡ members (n + 1) s = members_more n s true (members n s) refl (sym is) in
    let put : take (len + 1) (set places len n) ≡ members n s ++ n ∷ [] = take_more_set places len n (omega arith) ∙ ap (λ xs. xs ++ n ∷ []) found in
    let one : length (members n s ++ n ∷ []) ≡ length (members n s) + 1 = length_push (members n s) n in
    let same = ap length more in
    (length-set places len n ∙ long, omega arith, put ∙ more)

pub marked-init : goal.marked-init
marked-init c =
    let marks = c.args.marks.now in
    let x = c.first_from-x.result in
    let none : [] ≡ members x (marked_in marks) = members_to marks 1 0 x (omega arith) c.first_from-x.ensures.none in
    record {
      long = omega arith;
      within = c.first_from-x.ensures.high;
      at = c.first_from-x.ensures.found;
      number = ap length none;
      taken = none;
    }

pub bounds-self-inside-count : goal.bounds-self-inside-count
bounds-self-inside-count c =
    let marks = c.args.marks.now in
    let is : marked_in marks c.marked.x ≡ true = ap (λ n. n == 1) (c.marked.invariant.at c.marked-test.true) in
    let past = members_past c.marked.x (length marks) (marked_in marks) (omega arith) is in
    omega (arith, past, c.marked.invariant.number, c.requires.few)

pub marked-preserved : goal.marked-preserved
marked-preserved c =
    let marks = c.args.marks.now in
    let s = marked_in marks in
    let h = c.marked.invariant in
    let is : s c.marked.x ≡ true = ap (λ n. n == 1) (h.at c.marked-test.true) in
    let past = members_past c.marked.x (length marks) s (omega arith) is in
    let more = found_more c.marked.self-inside.places c.marked.x c.marked.count s h.long (omega (arith, past, h.number, c.requires.few)) h.number h.taken is in
    let next = c.first_from-x-in-marked.ensures in
    let on = members_to marks 1 (c.marked.x + 1) c.first_from-x-in-marked.result next.low next.none in
    record {
      long = more.0;
      within = next.high;
      at = next.found;
      number = more.1 ∙ ap length on;
      taken = more.2 ∙ on;
    }

pub invariant_of-self : goal.invariant_of-self
invariant_of-self c =
    let marks = c.args.marks.now in
    let s = marked_in marks in
    let within = c.marked.invariant.within in
    let end : c.marked.x ≡ length marks = omega (arith, within, c.marked-test.false) in
    let Row : ℕ → Type 0 = λ n. IsRow (members n s) in
    let row : IsRow (members c.marked.x s) = subst Row (sym end) (c.requires.few, members_rise (length marks) s) in
    let number = c.marked.invariant.number in
    (omega (arith, number, row.0), subst IsRow (sym c.marked.invariant.taken) row)

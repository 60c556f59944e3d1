use Rattle.std.proofs.Common.{◌≡◌, ◌<◌, ◌+◌, ◌++◌, ◌∷◌, [], ◌==◌, length, arith, true, false, ap, sym, ◌∙◌, refl, length-set, ℕ, Bool, List, take, set, get_or, subst}
use Rattle.std.proofs.lemmas.List.{take_more_set, length_push, append-nil}
use Rattle.pfx_weights.specs.Rows.{IsRow, members, marked_in}
use Rattle.pfx_weights.proofs.RowSets.{members_past, members_rise, members_more, other_number}
use Rattle.pfx_weights.proofs.rows.Row.set_by_each.Goals as goal
use Rattle.pfx_weights.proofs.rows.Row.set_by_each.Goals.{then-mark-eq1, else-mark-eq1}

pub bounds-self-inside-found : goal.bounds-self-inside-found
bounds-self-inside-found c =
    let marks = c.args.marks.now in
    let x = c.loop-x.x in
    let is : marked_in marks x ≡ true = ap (λ n. n == 1) c.if-mark-eq1.true in
    let past = members_past x (length marks) (marked_in marks) (omega arith) is in
    omega arith

pub offset_bounds-self-inside-found : goal.offset_bounds-self-inside-found
offset_bounds-self-inside-found c =
    let marks = c.args.marks.now in
    let x = c.loop-x.x in
    let is : marked_in marks x ≡ true = ap (λ n. n == 1) c.if-mark-eq1.true in
    let past = members_past x (length marks) (marked_in marks) (omega arith) is in
    omega arith

-- a member is put behind those found
found_more : (places : List ℕ) (n len : ℕ) (s : ℕ → Bool) → length places ≡ 64 → len < 64 → len ≡ length (members n s) → take len places ≡ members n s → s n ≡ true →
    (length (set places len n) ≡ 64) × (len + 1 ≡ length (members (n + 1) s)) × (take (len + 1) (set places len n) ≡ members (n + 1) s)
found_more places n len s long below count found is =
    let more : members n s ++ n ∷ [] ≡ members (n + 1) s = members_more n s true (members n s) refl (sym is) in
    let put : take (len + 1) (set places len n) ≡ members n s ++ n ∷ [] = take_more_set places len n (omega arith) ∙ ap (λ xs. xs ++ n ∷ []) found in
    let one : length (members n s ++ n ∷ []) ≡ length (members n s) + 1 = length_push (members n s) n in
    let same = ap length more in
    (length-set places len n ∙ long, omega arith, put ∙ more)

-- a place that isn't one changes nothing
found_none : (n : ℕ) (s : ℕ → Bool) → s n ≡ false → members n s ≡ members (n + 1) s
found_none n s is = sym (append-nil (members n s)) ∙ members_more n s false (members n s) refl (sym is)

pub loop-x-preserved : goal.loop-x-preserved
loop-x-preserved c =
    let marks = c.args.marks.now in
    let s = marked_in marks in
    let x = c.loop-x.x in
    elim c.if-mark-eq1.branch [
      | then-mark-eq1 w ↦
          (let is : s x ≡ true = ap (λ n. n == 1) w.if-mark-eq1.true in
          let past = members_past x (length marks) s (omega arith) is in
          rw (w.found-is, w.self-inside-is) (found_more c.loop-x.self-inside.places x c.loop-x.found s c.loop-x.invariant.0 (omega arith) c.loop-x.invariant.1 c.loop-x.invariant.2 is))
      | else-mark-eq1 w ↦
          (let is : s x ≡ false = other_number (get_or marks x 0) 1 w.if-mark-eq1.false in
          let same = found_none x s is in
          rw (w.found-is, w.self-inside-is, ← same) c.loop-x.invariant)
    ]

pub invariant_of-self : goal.invariant_of-self
invariant_of-self c =
    let marks = c.args.marks.now in
    let s = marked_in marks in
    let end : c.loop-x.x ≡ length marks = omega arith in
    let Row : ℕ → Type 0 = λ n. IsRow (members n s) in
    let row : IsRow (members c.loop-x.x s) = subst Row (sym end) (c.requires.few, members_rise (length marks) s) in
    (omega arith, subst IsRow (sym c.loop-x.invariant.2) row)

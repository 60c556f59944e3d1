use Rattle.std.proofs.Common.{◌≡◌, ◌∙◌, ◌+◌, ◌<◌, ◌≤◌, ℕ, List, [], ◌∷◌, ◌++◌, length, slice_index_or, arith, refl, ap, sym, subst, inl, inr}
use Rattle.std.proofs.lemmas.Bool.{cases_lt, cases_eq}
use Rattle.std.proofs.lemmas.List.{get_or_append_left, get_or_push, length_push}
use Rattle.pfx_columns.specs.Ledgers.{Ledger, total}
use Rattle.pfx_choice.specs.Kinds.{HaveOneWeight}
use Rattle.pfx_choice.proofs.fractions.sort.Goals.{then-k-len+else-k-most+in_ok-push, else-k-len}
use Rattle.pfx_choice.proofs.fractions.sort.Goals as goal

-- the first x tasks have kinds
record AreSorted (g : Ledger) (x : ℕ) (firsts kinds : List ℕ) : Type 0 where
  long : length kinds ≡ x
  first : (k : ℕ) → k < length firsts → slice_index_or firsts k 0 < total g
  within : (y : ℕ) → y < x → slice_index_or kinds y 0 < length firsts
  same : (y : ℕ) → y < x → HaveOneWeight g y (slice_index_or firsts (slice_index_or kinds y 0) 0)

-- the next one is of a kind that there is
of_old : (g : Ledger) (x k : ℕ) (firsts kinds : List ℕ) → AreSorted g x firsts kinds → k < length firsts → HaveOneWeight g x (slice_index_or firsts k 0) → AreSorted g (x + 1) firsts (kinds ++ k ∷ [])
of_old g x k firsts kinds h l one = record {
  long = length_push kinds k ∙ ap (λ n. n + 1) h.long;
  first = h.first;
  within = λ y m. elim (cases_eq y x) [
    | inl same ↦ (let at = get_or_push kinds k 0 y (h.long ∙ sym same) in omega (arith, at, l))
    | inr other ↦ (let at = get_or_append_left kinds (k ∷ []) 0 y (omega (arith, m, other, h.long)) in let w = h.within y (omega (arith, m, other)) in omega (arith, at, w))
  ];
  same = λ y m. elim (cases_eq y x) [
    | inl same ↦
        (let P : ℕ → Type 0 = λ j. HaveOneWeight g y (slice_index_or firsts j 0) in
        let Q : ℕ → Type 0 = λ z. HaveOneWeight g z (slice_index_or firsts k 0) in
        subst P (sym (get_or_push kinds k 0 y (h.long ∙ sym same))) (subst Q (sym same) one))
    | inr other ↦
        (let P : ℕ → Type 0 = λ j. HaveOneWeight g y (slice_index_or firsts j 0) in
        subst P (sym (get_or_append_left kinds (k ∷ []) 0 y (omega (arith, m, other, h.long)))) (h.same y (omega (arith, m, other))))
  ];
}

-- a kind more
kind_more : (g : Ledger) (x v : ℕ) (firsts kinds : List ℕ) → AreSorted g x firsts kinds → v < total g → AreSorted g x (firsts ++ v ∷ []) kinds
kind_more g x v firsts kinds h l =
    let n = length_push firsts v in
    record {
      long = h.long;
      first = λ k m. elim (cases_lt k (length firsts)) [
        | inl old ↦ (let at = get_or_append_left firsts (v ∷ []) 0 k old in let w = h.first k old in omega (arith, at, w))
        | inr new ↦ (let at = get_or_push firsts v 0 k (omega (arith, new, m, n)) in omega (arith, at, l))
      ];
      within = λ y m. (let w = h.within y m in omega (arith, w, n));
      same = λ y m.
          (let P : ℕ → Type 0 = λ z. HaveOneWeight g y z in
          subst P (sym (get_or_append_left firsts (v ∷ []) 0 (slice_index_or kinds y 0) (h.within y m))) (h.same y m));
    }

pub loop-x-preserved : goal.loop-x-preserved
loop-x-preserved c =
    let g = c.args.ledger.now in
    let x = c.loop-x.x in
    let k = c.kind_of-k.result in
    let firsts = c.loop-x.firsts.items in
    let kinds = c.loop-x.of_tasks.items in
    let h = c.loop-x.invariant in
    let l : x < total g = omega (arith, c.loop-x-test.true, c.total-total.ensures.count) in
    let s : AreSorted g x firsts kinds = record { long = h.long; first = h.first; within = h.within; same = h.same } in
    let size = ap length c.deref.ensures.value in
    let n : c.len.result ≡ length firsts = omega (arith, c.len.ensures, c.deref.ensures.len, size) in
    let r : (length c.if-k-len.firsts.items ≤ x + 1) × AreSorted g (x + 1) c.if-k-len.firsts.items (kinds ++ k ∷ []) = elim c.if-k-len.branch [
      | then-k-len+else-k-most+in_ok-push w ↦
          (let is : c.if-k-len.firsts.items ≡ firsts ++ x ∷ [] = ap (λ v. v.items) w.firsts-is ∙ w.in_ok-push.ensures.items in
          let more = length_push firsts x in
          let P : List ℕ → Type 0 = λ f. (length f ≤ x + 1) × AreSorted g (x + 1) f (kinds ++ k ∷ []) in
          let to : length firsts ≡ k = omega (arith, n, w.if-k-len.true) in
          let Q : ℕ → Type 0 = λ y. HaveOneWeight g x y in
          let own : Q (slice_index_or (firsts ++ x ∷ []) k 0) = subst Q (sym (get_or_push firsts x 0 k to)) refl in
          let here : P (firsts ++ x ∷ []) = (omega (arith, more, h.few), of_old g x k (firsts ++ x ∷ []) kinds (kind_more g x x firsts kinds s l) (omega (arith, to, more)) own) in
          subst P (sym is) here)
      | else-k-len w ↦
          (let is : c.if-k-len.firsts.items ≡ firsts = ap (λ v. v.items) w.firsts-is in
          let P : List ℕ → Type 0 = λ f. (length f ≤ x + 1) × AreSorted g (x + 1) f (kinds ++ k ∷ []) in
          let low : k < length firsts = omega (arith, c.kind_of-k.ensures.most, w.if-k-len.false, n, size) in
          let Q : List ℕ → Type 0 = λ f. HaveOneWeight g x (slice_index_or f k 0) in
          let one : Q firsts = subst Q c.deref.ensures.value (c.kind_of-k.ensures.same (omega (arith, low, size))) in
          let here : P firsts = (omega (arith, h.few), of_old g x k firsts kinds s low one) in
          subst P (sym is) here)
    ] in
    let Q : List ℕ → Type 0 = λ z. AreSorted g (x + 1) c.if-k-len.firsts.items z in
    let all = subst Q (sym c.in_ok-push-2.ensures.items) r.1 in
    record { long = all.long; few = r.0; first = all.first; within = all.within; same = all.same }

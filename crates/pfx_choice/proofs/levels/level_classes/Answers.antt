use Rattle.std.proofs.Common.{◌≡◌, ◌∙◌, ◌<◌, ◌==◌, ℕ, if◌then◌else◌, slice_index_or, set, length-set, get_or-set_same, get_or-set_other, arith, sym, ap, subst, inl, inr}
use Rattle.std.proofs.lemmas.Bool.{cases_eq}
use Rattle.pfx_lanes.specs.Laws.{class_number}
use Rattle.pfx_columns.specs.Ledgers.{total, class}
use Rattle.pfx_choice.specs.Levels.{task_level, class_level}
use Rattle.pfx_choice.proofs.Levelling.{chosen_level}
use Rattle.pfx_choice.proofs.levels.level_classes.Goals as goal

pub loop-x-preserved : goal.loop-x-preserved
loop-x-preserved c =
    let g = c.args.ledger.now in
    let q = c.args.q in
    let x = c.loop-x.x in
    let xs = c.loop-x.classes in
    let v = c.level_by.result in
    let h = c.loop-x.invariant in
    let long = h.long in
    let size = c.requires.classes.all in
    let l : x < total g = omega (arith, c.loop-x-test.true, size) in
    let level = slice_index_or c.args.levels.now c.from.result 0 in
    let told = ap (λ k. slice_index_or c.args.levels.now k 0) c.from.ensures ∙ c.requires.levels.at x l in
    let own : slice_index_or xs x 0 ≡ class_number (class g x) = h.left x (omega arith) ∙ c.requires.classes.at x l in
    let is : v ≡ task_level g q x =
    c.level_by.ensures ∙ ap (λ k. if k == 0 then level else k) own ∙ chosen_level (class g x) level ∙ ap (class_level (class g x)) told in
    record {
      long = length-set xs x v ∙ long;
      done = λ z m. elim (cases_eq z x) [
        | inl same ↦
            (let P : ℕ → Type 0 = λ k. slice_index_or (set xs x v) k 0 ≡ task_level g q k in
            let here : P x = get_or-set_same xs x v 0 (omega (arith, l, long)) ∙ is in subst P (sym same) here)
        | inr other ↦ get_or-set_other xs x z v 0 other ∙ h.done z (omega (arith, m, other))
      ];
      left = λ z low. get_or-set_other xs x z v 0 (λ e. omega (arith, low, e)) ∙ h.left z (omega (arith, low));
    }

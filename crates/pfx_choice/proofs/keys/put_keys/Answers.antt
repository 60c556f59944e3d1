use Rattle.std.proofs.Common.{◌≡◌, ◌<◌, ℕ, false, set, length-set, get_or-set_same, get_or-set_other, arith, ap, sym, subst, ◌∙◌, inl, inr}
use Rattle.std.proofs.lemmas.Bool.{cases_lt, cases_eq}
use Rattle.pfx_symbols.specs.RankKeys.{rank_key}
use Rattle.pfx_columns.specs.Ledgers.{rank, total}
use Rattle.pfx_choice.specs.Refined.{key_in}
use Rattle.pfx_choice.proofs.keys.put_keys.Goals as goal

pub tasks-preserved : goal.tasks-preserved
tasks-preserved c =
    let g = c.args.ledger.now in
    let d = c.args.d in
    let x = c.tasks.x in
    let keys = c.tasks.of_tasks in
    let key = c.rank_key-key.result in
    let h = c.tasks.invariant in
    let next = c.first_from-x-in-tasks.ensures in
    let places = c.requires.places in
    let long = places.long in
    let all = h.keys in
    let inside : x < total g = omega (arith, c.tasks-test.true, long) in
    let is : key ≡ rank_key d c.args.rounds (rank g x) =
    c.rank_key-key.ensures ∙ ap (λ n. rank_key n c.args.rounds c.rank.result) c.from.ensures ∙ ap (λ r. rank_key d c.args.rounds r) c.rank.ensures in
    record {
      keys = length-set keys x key ∙ h.keys;
      within = omega (arith, next.high, long);
      done = λ y l at. elim (cases_eq y x) [
        | inl same ↦
            (let P : ℕ → Type 0 = λ z. key_in (set keys x key) z ≡ rank_key d c.args.rounds (rank g z) in
            subst P (sym same) (get_or-set_same keys x key (record { number = 0; whole = false }) (omega (arith, inside, all)) ∙ is))
        | inr other ↦ get_or-set_other keys x y key (record { number = 0; whole = false }) other ∙ elim (cases_lt y x) [
          | inl before ↦ h.done y before at
          | inr behind ↦ absurd (next.none y (omega (arith, behind, other)) l (places.at y (omega (arith, l, next.high, long)) ∙ at))
        ]
      ];
    }

use Rattle.std.proofs.Common.{◌<◌, ◌+◌, ◌++◌, ◌∷◌, [], set, nat_lt, if◌then◌else◌, arith, ap, sym, ◌∙◌}
use Rattle.std.proofs.lemmas.Bool.{not-false}
use Rattle.pfx_columns.specs.Ledgers.{rank, total}
use Rattle.pfx_choice.specs.Refined.{key_in}
use Rattle.pfx_choice.proofs.Cutting.{lt_yes, lt_no}
use Rattle.pfx_choice.proofs.Refining.{split_start, split_to, split_all, split_next, step_runs, step_stays, step_ties, level_at, by_less, by_same, by_more}
use Rattle.pfx_choice.proofs.marking.split.Goals.{then-key-number, else-key-number+then-key-number-2+then-end-eq0+in_ok-push, else-key-number+then-key-number-2+else-end-eq0+else-not-key+then-x-end, else-key-number+then-key-number-2+else-end-eq0+else-not-key+else-x-end, else-key-number+else-key-number-2}
use Rattle.pfx_choice.proofs.marking.split.Goals as goal

pub tasks-init : goal.tasks-init
tasks-init c =
    let g = c.args.ledger.now in
    let h = c.requires.places in
    let next = c.first_from-x.ensures in
    let long = h.long in
    record {
      within = omega (arith, next.high, long);
      at = λ l. sym (h.at c.first_from-x.result l) ∙ next.found (omega (arith, l, long));
      split = split_to g c.args.keys.now c.args.d c.args.number c.args.end 0 c.first_from-x.result c.args.places.now c.clear.new.self.items
          (split_start g c.args.keys.now c.args.d c.args.number c.args.end c.args.places.now c.clear.new.self.items h c.clear.ensures.items) (omega arith) (omega (arith, next.high, long)) next.none;
    }

pub tasks-preserved : goal.tasks-preserved
tasks-preserved c =
    let g = c.args.ledger.now in
    let keys = c.args.keys.now in
    let d = c.args.d in
    let number = c.args.number in
    let end = c.args.end in
    let x = c.tasks.x in
    let n = c.first_from-x-in-tasks.result in
    let places = c.tasks.places in
    let found = c.tasks.found.items in
    let h = c.tasks.invariant.split in
    let size = h.long in
    let l : x < total g = omega (arith, c.tasks-test.true, size) in
    let at = c.tasks.invariant.at l in
    let is = level_at g keys d number end x at in
    let next = c.first_from-x-in-tasks.ensures in
    elim c.if-key-number.branch [
      | then-key-number w ↦
          (let less = w.if-key-number.true in
          let step = step_runs g keys d number end x places found h l c.requires.d (is ∙ by_less (key_in keys x).number number (nat_lt x end) less) (λ _ e. absurd (omega (arith, less, e))) in
          let r = split_next g keys d number end (x + 1) n (set places x 0) c.if-key-number.places found c.if-key-number.found.items step w.places-is (ap (λ v. v.items) w.found-is) next in
          record { within = r.0; at = r.1.0; split = r.1.1 })
      | else-key-number+then-key-number-2+then-end-eq0+in_ok-push w ↦
          (let none = w.if-end-eq0.true in
          let late = lt_no x end (omega (arith, none)) in
          let tie = is ∙ by_same (key_in keys x).number number (nat_lt x end) w.if-key-number-2.true ∙ ap (λ b. if b then 0 else 1) late in
          let step = step_ties g keys d number end x places found h l at tie none in
          let pushed = ap (λ v. v.items) w.found-is ∙ w.in_ok-push.ensures.items ∙ ap (λ r. found ++ (r ∷ [])) w.rank.ensures in
          let r = split_next g keys d number end (x + 1) n places c.if-key-number.places (found ++ rank g x ∷ []) c.if-key-number.found.items step w.places-is pushed next in
          record { within = r.0; at = r.1.0; split = r.1.1 })
      | else-key-number+then-key-number-2+else-end-eq0+else-not-key+then-x-end w ↦
          (let early = lt_yes x end w.if-x-end.true in
          let runs = is ∙ by_same (key_in keys x).number number (nat_lt x end) w.if-key-number-2.true ∙ ap (λ b. if b then 0 else 1) early in
          let step = step_runs g keys d number end x places found h l c.requires.d runs (λ _ _. not-false _ w.if-not-key.false) in
          let r = split_next g keys d number end (x + 1) n (set places x 0) c.if-key-number.places found c.if-key-number.found.items step w.places-is (ap (λ v. v.items) w.found-is) next in
          record { within = r.0; at = r.1.0; split = r.1.1 })
      | else-key-number+then-key-number-2+else-end-eq0+else-not-key+else-x-end w ↦
          (let late = lt_no x end w.if-x-end.false in
          let rests = is ∙ by_same (key_in keys x).number number (nat_lt x end) w.if-key-number-2.true ∙ ap (λ b. if b then 0 else 1) late in
          let step = step_stays g keys d number end x places found h l at (omega (arith, rests)) (λ z. absurd (omega (arith, z, w.if-end-eq0.false))) (λ _ _. not-false _ w.if-not-key.false) in
          let r = split_next g keys d number end (x + 1) n places c.if-key-number.places found c.if-key-number.found.items step w.places-is (ap (λ v. v.items) w.found-is) next in
          record { within = r.0; at = r.1.0; split = r.1.1 })
      | else-key-number+else-key-number-2 w ↦
          (let more = by_more (key_in keys x).number number (nat_lt x end) (omega (arith, w.if-key-number.false, w.if-key-number-2.false)) in
          let step = step_stays g keys d number end x places found h l at (omega (arith, is, more)) (λ _. omega (arith, is, more)) (λ _ e. absurd (w.if-key-number-2.false e)) in
          let r = split_next g keys d number end (x + 1) n places c.if-key-number.places found c.if-key-number.found.items step w.places-is (ap (λ v. v.items) w.found-is) next in
          record { within = r.0; at = r.1.0; split = r.1.1 })
    ]

pub returns : goal.returns
returns c = λ _.
    (let h = c.tasks.invariant in
    let long = h.split.long in
    split_all c.args.ledger.now c.args.keys.now c.args.d c.args.number c.args.end c.tasks.x c.tasks.places c.tasks.found.items h.split (omega (arith, h.within, c.tasks-test.false, long)))

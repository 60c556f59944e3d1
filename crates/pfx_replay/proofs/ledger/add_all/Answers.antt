use Rattle.std.proofs.Common.{◌≡◌, ◌<◌, ◌+◌, ◌∙◌, ℕ, get_or, length, ap, arith, rules}
use Rattle.std.proofs.lemmas.List.{get_or_default}
use Rattle.pfx_weights.specs.Rows.{is_in, one}
use Rattle.pfx_replay.proofs.Parts.{changed, changed-rest, changed-length, changed-add, change_one}
use Rattle.pfx_replay.proofs.ledger.add_all.Goals as goal

pub overflow_add-index_mut : goal.overflow_add-index_mut
overflow_add-index_mut c =
    let f = λ (x a : ℕ). a + one (is_in c.args.row.now x) in
    let x = c.loop-x.x in
    let old = c.args.allocations.now.items in
    let d = c.index_mut.result.now in
    let within_now : x < length c.loop-x.allocations.items = search rules in
    let within : x < length old = omega (arith, within_now, c.loop-x.invariant.long) in
    let rest = c.index_mut.ensures.value ∙ ap (λ ys. get_or ys x d) c.loop-x.invariant.changed ∙ changed-rest f x 0 old d ∙ get_or_default old x d 0 within in
    let small = c.requires x within in
    omega (arith, rest, small, c.one.ensures.few)

pub loop-x-preserved : goal.loop-x-preserved
loop-x-preserved c =
    let f = λ (x a : ℕ). a + one (is_in c.args.row.now x) in
    let x = c.loop-x.x in
    let old = c.args.allocations.now.items in
    let now = c.loop-x.allocations.items in
    let d = c.index_mut.result.now in
    let within_now : x < length now = search rules in
    let within : x < length old = omega (arith, within_now, c.loop-x.invariant.long) in
    let v : d + c.one.result ≡ f x (get_or now x d) =
    ap (λ a. a + c.one.result) c.index_mut.ensures.value ∙ ap (λ b. get_or now x d + b) (c.one.ensures.count ∙ ap one c.holds.ensures) in
    let next = change_one f x now old (d + c.one.result) d d c.loop-x.invariant.changed within v in
    record { changed = next; long = ap length next ∙ changed-length f (x + 1) 0 old }

pub returns : goal.returns
returns c =
    let f = λ (x a : ℕ). a + one (is_in c.args.row.now x) in
    let old = c.args.allocations.now.items in
    let all : c.loop-x.x ≡ length old = search rules in
    c.loop-x.invariant.changed ∙ ap (λ n. changed f n 0 old) all ∙ changed-add (is_in c.args.row.now) 0 old

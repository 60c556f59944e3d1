use Rattle.std.proofs.Common.{◌≡◌, ◌∙◌, ◌*◌, ap, sym}
use Rattle.pfx_columns.specs.Ledgers.{task}
use Rattle.pfx_choice.proofs.Levelling.{from_equal}
use Rattle.pfx_choice.proofs.fractions.have_one_weight.Goals as goal

pub returns : goal.returns
returns c = λ yes.
    (let v = task c.args.ledger.now c.args.x in
    let w = task c.args.ledger.now c.args.y in
    let e : c.from.result ≡ v.e = c.from.ensures ∙ ap (λ n. n.0) c.weight-e.ensures in
    let q : c.from-2.result ≡ w.p = c.from-2.ensures ∙ ap (λ n. n.1) c.weight-f.ensures in
    let f : c.from-3.result ≡ w.e = c.from-3.ensures ∙ ap (λ n. n.0) c.weight-f.ensures in
    let p : c.from-4.result ≡ v.p = c.from-4.ensures ∙ ap (λ n. n.1) c.weight-e.ensures in
    let left = ap (λ n. n * c.from-2.result) e ∙ ap (λ n. v.e * n) q in
    let right = ap (λ n. n * c.from-4.result) f ∙ ap (λ n. w.e * n) p in
    sym left ∙ from_equal (c.from.result * c.from-2.result) (c.from-3.result * c.from-4.result) yes ∙ right)

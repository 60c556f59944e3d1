use Rattle.std.proofs.Common.{arith, ap, ◌∙◌}
use Rattle.pfx_choice.proofs.KindKeys.{kind_key, found_gap}
use Rattle.pfx_choice.proofs.kind.found.Goals as goal

pub invariant_of-result : goal.invariant_of-result
invariant_of-result c = record {
  is =
      (let q = c.args.rank.now in
      let e = c.weight-e.result.0 in
      let p = c.weight-e.result.1 in
      let e_is = ap (λ w. w.0) c.weight-e.ensures.value in
      let p_is = ap (λ w. w.1) c.weight-e.ensures.value in
      let f = found_gap q e p c.args.r c.weight-e.ensures.rank e_is p_is c.requires in
      c.rank_key-key.ensures ∙ kind_key q e p c.args.r _ _ e_is p_is c.requires f.0 (omega (arith, f.1)));
}

pub returns : goal.returns
returns c = (let q = c.args.rank.now in
    let e_is = ap (λ w. w.0) c.weight-e.ensures.value in
    let p_is = ap (λ w. w.1) c.weight-e.ensures.value in
    let f = found_gap q c.weight-e.result.0 c.weight-e.result.1 c.args.r c.weight-e.ensures.rank e_is p_is c.requires in
    record { gap = f.0; key = c.rank_key-key.ensures })

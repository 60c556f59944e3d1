use Rattle.std.proofs.Common.{◌∙◌, ℕ, slice_index_or, set, length-set, get_or-set_same, get_or-set_other, arith, sym, subst, inl, inr}
use Rattle.std.proofs.lemmas.Bool.{cases_eq}
use Rattle.pfx_columns.specs.Ledgers.{rank}
use Rattle.pfx_choice.specs.declared.kind.Kind.{Kind}
use Rattle.pfx_choice.specs.Kinds.{IsOf}
use Rattle.pfx_choice.proofs.kinds.renew.Goals as goal

pub loop-k-init : goal.loop-k-init
loop-k-init c = record { long = c.requires.kinds; at = λ j d less. absurd (omega (arith, less)) }

pub loop-k-preserved : goal.loop-k-preserved
loop-k-preserved c =
    let g = c.args.ledger.now in
    let firsts = c.args.firsts.now in
    let k = c.loop-k.k in
    let v = c.renew.new.self in
    let old = c.loop-k.kinds in
    let h = c.loop-k.invariant in
    let P : ℕ → Kind → Type 0 = λ j d. IsOf (rank g (slice_index_or firsts j 0)) d.gap d.key in
    let Q : ℕ → Type 0 = λ x. IsOf (rank g x) v.gap v.key in
    let here : P k v = subst Q c.from.ensures c.renew.ensures in
    record {
      long = length-set old k v ∙ h.long;
      at = λ j d less. elim (cases_eq j k) [
        | inl same ↦
            (let R : ℕ → Type 0 = λ z. P z (slice_index_or (set old k v) z d) in
            let S : Kind → Type 0 = λ w. P k w in
            subst R (sym same) (subst S (sym (get_or-set_same old k v d (omega (arith, c.loop-k-test.true, c.loop-k.auto.kinds)))) here))
        | inr other ↦ (let S : Kind → Type 0 = λ w. P j w in subst S (sym (get_or-set_other old k j v d other)) (h.at j d (omega (arith, less, other))))
      ];
    }

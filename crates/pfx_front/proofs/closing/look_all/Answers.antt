use Rattle.std.specs.Prelude.{slice_get}
use Rattle.std.specs.Bool.{if◌then◌else◌}
use Rattle.std.proofs.Common.{◌≡◌, ◌≤◌, ◌∷◌, ◌++◌, [], length, Some, refl, sym, ap, ◌∙◌, subst, arith, rules, length-append}
use Rattle.std.proofs.lemmas.Option.{slice_get-get_or}
use Rattle.pfx_front.specs.Closing.{HaveLooked}
use Rattle.pfx_front.proofs.Looking.{none_looked, looked_more, long_set}
use Rattle.pfx_front.proofs.closing.look_all.Goals as goal

pub loop-i-init : goal.loop-i-init
loop-i-init g c = (none_looked c.args.last.now c.args.readers.now.items c.args.looked.now.items c.requires, ap length c.requires, refl, omega arith)

pub loop-i-preserved : goal.loop-i-preserved
loop-i-preserved g c =
    let inv = c.loop-i.invariant in
    let at : slice_get c.loop-i.readers.items c.loop-i.i ≡ Some c.index_mut.result.now = slice_get-get_or c.loop-i.readers.items c.loop-i.i _ (search rules) ∙ ap Some (sym c.index_mut.ensures.value) in
    let items : c.push.new.self.items ≡ c.loop-i.looked.items ++ c.looks-saw.result ∷ [] =
    c.push.ensures.items ∙ ap (λ b. if b then c.loop-i.looked.items ++ c.looks-saw.result ∷ [] else c.loop-i.looked.items) c.if-is_err.ensures.negation in
    let long = long_set c.loop-i.readers.items c.loop-i.i c.looks-saw.new.self in (
      subst (HaveLooked c.args.last.now c.args.readers.now.items _) (sym items)
          (looked_more c.args.last.now c.args.readers.now.items c.loop-i.readers.items c.loop-i.looked.items c.loop-i.i c.index_mut.result.now c.looks-saw.new.self inv.0 inv.1 at
          c.looks-saw.ensures.later c.looks-saw.result c.looks-saw.ensures.looked),
      (let count = inv.1 in ap length items ∙ length-append c.loop-i.looked.items (c.looks-saw.result ∷ []) ∙ omega (arith, count)),
      long ∙ inv.2,
      search rules,
    )

pub returns : goal.returns
returns g c = λ yes.
    let inv = c.loop-i.invariant in
    let end : length c.loop-i.readers.items ≤ c.loop-i.i = search rules in
    let count = inv.1 in
    let same = inv.2 in
    let few = inv.3 in
    (same, omega (arith, count, same, few, end), inv.0)

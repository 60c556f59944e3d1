use Rattle.std.proofs.Common.{◌≡◌, ℤ, List, length, arith, sym, subst}
use Rattle.pfx_columns.specs.Ledgers.{total}
use Rattle.pfx_choice.specs.Kinds.{AreKinds}
use Rattle.pfx_choice.proofs.OneString.{kinds_in}
use Rattle.pfx_choice.proofs.fractions.Fractions.are_of.Goals as goal

pub returns : goal.returns
returns c = λ yes.
    (let own = c.args.self.now in
    let g = c.args.ledger.now in
    let firsts = own.firsts.items in
    let kinds = own.of_tasks.items in
    let P : List ℤ → Type 0 = λ l. AreKinds l own.ps.items firsts kinds in
    let Q : List ℤ → Type 0 = λ l. AreKinds c.deref.result.now l firsts kinds in
    let found = subst Q (sym c.deref-2.ensures.value) (subst P (sym c.deref.ensures.value) own.kinds) in
    let all : length kinds ≡ total g = omega (arith, c.if-len-total.false, c.len.ensures, own.of_tasks.ok.0, c.total.ensures.count) in
    let e = c.are_same.ensures in
    kinds_in g c.deref.result.now c.deref-2.result.now c.es.result.now c.ps.result.now firsts kinds found c.es.ensures c.ps.ensures all
    (e.es_long yes) (e.ps_long yes) (e.es yes) (e.ps yes))

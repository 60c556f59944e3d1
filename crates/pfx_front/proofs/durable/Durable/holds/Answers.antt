use Rattle.std.proofs.Common.{◌≡◌, ◌≤◌, ◌+◌, length, subst, arith}
use Rattle.std.specs.Prelude.{MatchBool}
use Rattle.std.proofs.Math.Logic.{∥∥₁_map₂}
use mathlib.Core.List.{IsPrefix}
use Rattle.pfx_book.specs.Notes.{Noted}
use Rattle.pfx_book.proofs.Notes.{noted_more}
use Rattle.pfx_front.specs.Lasting.{IsLasting}
use Rattle.pfx_front.proofs.durable.Durable.holds.Goals as goal

pub returns : goal.returns
returns g c so held =
    let later = c.args.self.now in
    let receipt = c.args.receipt.now in
    let begins : IsPrefix receipt.marks later.marks = subst (λ b. MatchBool b (IsPrefix receipt.marks later.marks) (IsPrefix later.marks receipt.marks)) so c.begins.ensures.begins in
    let before = receipt.before in
    let enough = receipt.enough in
    ∥∥₁_map₂ later.lasting receipt.given
    (λ (l : IsLasting g.J.Job.kind g.B.Named.start g.B.Charted.image g.B.Charted.clock g.B.Charted.held later.marks later.moment later.word) (given : Noted receipt.mark receipt.marks).
    let there : Noted receipt.mark later.marks = subst (Noted receipt.mark) begins.1 (noted_more receipt.mark receipt.marks begins.0 given) in (
      l.entries,
      l.legal,
      λ k from some left stops.
          let v = l.keeps held receipt.mark there k (omega (arith, before, from)) some left stops in
          record { count = v.count; at_most = v.at_most; at_least = (let least = v.at_least in omega (arith, enough, least)); recovered = v.recovered },
    ))

use Rattle.std.proofs.Common.{◌≡◌, true, sym, subst}
use Rattle.pfx_jobs.specs.declared.quantum.Quantum.{Quantum}
use Rattle.pfx_machine.specs.Slots.{deal}
use Rattle.pfx_book.specs.Trying.{IsReady}
use Rattle.pfx_book.proofs.Dealing.{back_test}
use Rattle.pfx_book.proofs.trying.is_all_back.Goals as goal

pub returns-in-Some : goal.returns-in-Some
returns-in-Some g c =
    let r = c.is_none.result in
    let test = back_test (λ (q : Quantum g.row.J.Denot g.J.Job). deal q.number q.slot q.task q.before) c.missing.result r c.in-Some.slot.quanta c.in-Some.slot.back c.missing.ensures c.is_none.ensures in
    subst (λ o. (r ≡ true → IsReady o) × (IsReady o → r ≡ true)) (sym c.in-Some.is) test

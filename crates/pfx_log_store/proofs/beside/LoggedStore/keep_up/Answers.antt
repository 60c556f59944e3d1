use Rattle.std.proofs.Common.{◌≡◌, sym, ◌∙◌, ap, arith, refl}
use Rattle.pfx_log_store.proofs.Logging.{keeps_block, keeps_none, on_not_ok, on_ok_all}
use Rattle.pfx_log_store.proofs.beside.LoggedStore.keep_up.Goals as goal

pub returns-then-kept-last-clause-beside : goal.returns-then-kept-last-clause-beside
returns-then-kept-last-clause-beside g c start all log is =
    let number : c.number-last.result ≡ c.args.self.now.store.state.number = c.number-last.ensures.number ∙ ap (λ u. u.number) c.state.ensures in
    let reached = c.if-kept-last.true in
    let last = is.opened.end.last in
    keeps_none g.J.Job.kind g.met.J.Job.laws g.met.D.Disk.only_now g.met.L.Disk.only_now start all log c.args.self.now _ is refl _ refl c.clear.ensures.items (omega (arith, number, reached, last))

pub returns-then-is_ok-clause-beside : goal.returns-then-is_ok-clause-beside
returns-then-is_ok-clause-beside g c start all log is =
    let number : c.number-last.result ≡ c.args.self.now.store.state.number = c.number-last.ensures.number ∙ ap (λ u. u.number) c.state.ensures in
    keeps_block g.J.Job.kind g.met.J.Job.laws g.met.D.Disk.only_now g.met.L.Disk.only_now start all log c.args.self.now _ is refl _ c.number-last.result c.deref.result.now c.append_in-result.result number c.deref.ensures.value
    (c.append_in-result.ensures.appends log is.opened) (on_ok_all c.append_in-result.result c.clear-then-is_ok.ensures.items)

pub returns-else-is_ok-clause-beside : goal.returns-else-is_ok-clause-beside
returns-else-is_ok-clause-beside g c start all log is =
    let number : c.number-last.result ≡ c.args.self.now.store.state.number = c.number-last.ensures.number ∙ ap (λ u. u.number) c.state.ensures in
    keeps_block g.J.Job.kind g.met.J.Job.laws g.met.D.Disk.only_now g.met.L.Disk.only_now start all log c.args.self.now _ is refl _ c.number-last.result c.deref.result.now c.append_in-result.result number c.deref.ensures.value
    (c.append_in-result.ensures.appends log is.opened) (on_not_ok _ c.append_in-result.result (sym c.is_ok.ensures.value ∙ c.if-is_ok.false))

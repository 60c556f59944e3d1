use Rattle.std.proofs.Common.{◌≡◌, false, Ok, sym, ◌∙◌, ap, subst}
use Rattle.pfx_disk.specs.Disk.{IsHonest}
use Rattle.pfx_store_engine.proofs.durable.DurableEngine.last_kept.Goals as goal

pub returns-clause-durable : goal.returns-clause-durable
returns-clause-durable g c honest image here =
    let V = g.D.Disk.view in
    let whole = sym c.in_default.ensures.answer in
    let same = c.stored.ensures in
    let unbroken = ap (λ s. s.file.broken) same ∙ c.in_default.ensures.whole whole in
    c.is_broken-broken.ensures.recovered unbroken (subst (λ s. IsHonest (V s.file.disk)) (sym same) honest) image (subst (λ s. (V s.file.disk).now image) (sym same) here)
    ∙ ap Ok (ap (λ s. s.state) same ∙ sym (c.args.self.now.same whole))

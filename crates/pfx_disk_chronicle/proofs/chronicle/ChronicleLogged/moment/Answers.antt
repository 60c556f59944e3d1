use Rattle.std.specs.Prelude.{length, take}
use Rattle.std.proofs.Common.{◌≡◌, arith, ap, subst, rules}
use Rattle.std.proofs.lemmas.List.{length-map}
use Rattle.pfx_disk.specs.Stop.{Left}
use Rattle.pfx_disk_chronicle.specs.Chart.{act_of, acts_of}
use Rattle.pfx_disk_chronicle.proofs.chronicle.ChronicleLogged.moment.Goals as goal

pub returns-clause-since : goal.returns-clause-since
returns-clause-since g c held from k low some image left =
    let same : c.again.result ≡ c.args.self.now.made = search rules in
    let long = length-map c.args.self.now.made act_of in
    let counts = ap length same in (
      held,
      λ after. (
        k,
        omega (arith, low, some, long, counts, after),
        omega (arith, some, long, counts),
        subst (λ made. Left g.B.Charted.image (take k (acts_of made)) image) same left,
      ),
    )

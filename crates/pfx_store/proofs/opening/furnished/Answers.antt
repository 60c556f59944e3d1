use Rattle.std.proofs.Common.{◌≡◌, sym, ◌∙◌, ap}
use Rattle.pfx_columns.specs.Ledgers.{Ledger}
use Rattle.pfx_checkpoint.specs.Whole.{whole_len}
use Rattle.pfx_store.proofs.Standings.{found_recovered, middle_spelled, opened_stands, opened_turned}
use Rattle.pfx_store.proofs.Filing.{opened_file}
use Rattle.pfx_store.proofs.opening.furnished.Goals as goal

pub returns-clause-found : goal.returns-clause-found
returns-clause-found g c bytes opened =
    let K = g.J.Job.kind in
    let disk = g.D.Disk.view c.args.file.disk in
    let real : c.real-real.result ≡ c.args.header.now.set.real = c.real-real.ensures ∙ (ap (λ (l : Ledger). l.set.real) c.columns-2.ensures ∙ c.requires.fits.real) in
    let room : whole_len c.args.header.now.set.real ≡ c.whole_len.result = ap whole_len (sym real) ∙ sym c.whole_len.ensures in
    record {
      recovers = found_recovered K c.args.header.now bytes opened.parts c.args.state opened.found;
      turned = λ f is. opened_turned K c.args.header.now bytes c.args.file.places c.args.state c.args.middle disk opened f is;
      stands = opened_stands K c.args.header.now bytes c.args.file.places c.args.state c.args.middle c.in-Ok.spelled.items disk opened c.requires.fits
          (λ v is long. c.in-Ok.ensures.kept v is (long ∙ room));
      file = opened_file K c.args.header.now bytes c.args.file.places c.args.state c.args.middle c.in-Ok.spelled.items disk opened
          (middle_spelled K c.args.header.now opened.parts c.args.middle c.in-Ok.spelled.items opened.between
          (λ v is long. c.in-Ok.ensures.kept v is (long ∙ room)));
    }

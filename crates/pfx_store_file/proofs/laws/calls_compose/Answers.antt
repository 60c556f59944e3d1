use Rattle.pfx_store_file.proofs.Keeping.{keeps_then}
use Rattle.pfx_store_file.proofs.laws.calls_compose.Goals as goal

pub returns : goal.returns
returns g c K start all more most later one two =
    let view = g.D.Disk.view in
    keeps_then K start all more most (view c.args.before.now) (view c.args.between.now) (view c.args.after.now) later one two

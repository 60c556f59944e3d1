use Rattle.std.proofs.Common.{refl}
use Rattle.pfx_events_base.proofs.Keeping.{turn_base}
use Rattle.pfx_events_base.proofs.laws.turn_keeps_the_base.Goals as goal

pub returns-clause-base : goal.returns-clause-base
returns-clause-base g c K laws f s spelling start next single some starts on =
    let view = g.D.Disk.view in turn_base K laws f s (view c.args.old.now) (view c.args.new.now) spelling start next single some starts on

pub returns-clause-number : goal.returns-clause-number
returns-clause-number g c K f s = refl

use Rattle.pfx_events_base.proofs.Keeping.{tend_base, tend_number}
use Rattle.pfx_events_base.proofs.laws.tend_keeps_the_base.Goals as goal

pub returns-clause-base : goal.returns-clause-base
returns-clause-base g c K laws f s spelling spells on = let view = g.D.Disk.view in tend_base K laws f s (view c.args.old.now) (view c.args.new.now) spelling spells on

pub returns-clause-number : goal.returns-clause-number
returns-clause-number g c K f = tend_number K f

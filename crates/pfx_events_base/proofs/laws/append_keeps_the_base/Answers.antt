use Rattle.pfx_events_base.proofs.Keeping.{append_base, append_number}
use Rattle.pfx_events_base.proofs.laws.append_keeps_the_base.Goals as goal

pub returns-clause-base : goal.returns-clause-base
returns-clause-base g c K laws f s t body start spell next spells on = let view = g.D.Disk.view in append_base K laws f s (view c.args.old.now) (view c.args.new.now) t body start spell next spells on

pub returns-clause-number : goal.returns-clause-number
returns-clause-number g c K f s bytes frame = append_number K f s bytes frame

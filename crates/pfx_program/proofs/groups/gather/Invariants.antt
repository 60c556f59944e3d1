use Rattle.std.proofs.Common.{◌-◌, ◌^◌, ◌≤◌, length}
use Rattle.pfx_program.specs.Groups.{Gathers}
use Rattle.pfx_store_engine.specs.Promises.{IsSame}
use Rattle.pfx_store_engine.specs.Sharing.{AreChanges}
use Rattle.pfx_program.proofs.groups.gather.Given as goal

-- the records so far were gathered
abbrev pub invariant-records : goal.invariant-records
invariant-records g l = record {
  gathers : Gathers (g.E.Engine.promise.state l.fn.engine) l.fn.script l.script l.group.items;
  same : IsSame g.E.Engine.promise l.fn.engine l.engine;
  settled : g.E.Engine.promise.settled l.fn.engine → g.E.Engine.promise.settled l.engine;
  changes : AreChanges l.group.items;
  few : length l.group.items ≤ l.most;
}

-- each turn reads a record more
abbrev pub decreases-records : goal.decreases-records
decreases-records g l = 2 ^ 64 - l.script.place

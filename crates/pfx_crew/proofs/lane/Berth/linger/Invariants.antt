use Rattle.std.proofs.Common.{◌≡◌}
use Rattle.pfx_crew.proofs.lane.Berth.linger.Given as goal

abbrev pub invariant-loop-turn : goal.invariant-loop-turn
invariant-loop-turn g l = (l.self.taken ≡ l.fn.self.taken) × (l.self.put ≡ l.fn.self.put) × (l.self.ends_taken ≡ l.fn.self.ends_taken) × (l.self.ends_put ≡ l.fn.self.ends_put)

use Rattle.pfx_disk.proofs.Honest.{memory_refused}
use Rattle.pfx_disk.proofs.memory.MemoryDiskDisk.look_at.Goals as goal

pub returns-then-not-has_room-clause-time : goal.returns-then-not-has_room-clause-time
returns-then-not-has_room-clause-time c = let refusal = c.refuse.ensures in memory_refused {T = Unit {0}} c.args.self.now c.refuse.new.self c.refuse.result refusal.limit refusal.tick refusal.rise

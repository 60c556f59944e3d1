-- A disk one of whose calls waits. It is seen as the disk after it.
use Rattle.std.specs.Prelude.{ℕ, Option}
use Rattle.pfx_disk.specs.Disk.{View}
use Rattle.pfx_disk.specs.declared.waiting.LatchDisk.{LatchDisk}

-- the disk that the calls are passed on to
abbrev pub disk_behind : {D R : Type 0} → LatchDisk D R → D
disk_behind disk = disk.disk

-- how many calls come before the one that waits; none is given once it has waited
abbrev pub calls_before_latch : {D R : Type 0} → LatchDisk D R → Option ℕ
calls_before_latch disk = disk.before

abbrev pub held_view : {D R : Type 0} → (D → View) → LatchDisk D R → View
held_view view disk = view disk.disk

use Rattle.pfx_disk.specs.Disk.{IsHonest}
use Rattle.pfx_disk.specs.Memory.{memory_view}
use Rattle.pfx_trial_front_stops.proofs.weeks.printed.Given as goal

abbrev pub ghosts-run_served : goal.ghosts-run_served
ghosts-run_served g a = record {
  calls = record { number = 0; log_name = 0; cells_name = 0 };
  clock = 0;
  failures = 0;
  image = (memory_view a.store.file.disk).contents;
  held = IsHonest (memory_view a.store.file.disk);
}

use Rattle.std.specs.Prelude.{[]}
use Rattle.pfx_kinds.specs.AnyKind.{any_kind}
use Rattle.pfx_store.specs.Noting.{IsHeldBy}
use Rattle.pfx.proofs.run.run_on.Given as goal

abbrev pub ghosts-run_alone : goal.ghosts-run_alone
ghosts-run_alone g a = record {
  calls = a.list.seen.book;
  clock = a.store.file.disk.clock;
  failures = a.store.file.disk.failures;
  image = [];
  held = IsHeldBy any_kind a.store [];
}

abbrev pub ghosts-run_by : goal.ghosts-run_by
ghosts-run_by g a = record {
  calls = record { number = 0; log_name = 0; cells_name = 0 };
  clock = 0;
  failures = 0;
  image = [];
  held = IsHeldBy any_kind a.store [];
}

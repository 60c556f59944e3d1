use Rattle.std.specs.Prelude.{[]}
use Rattle.pfx_kinds.specs.AnyKind.{any_kind}
use Rattle.pfx_store.specs.Noting.{IsHeldBy}
use Rattle.pfx.proofs.run.run_at_log.Given as goal

abbrev pub ghosts-run_beside : goal.ghosts-run_beside
ghosts-run_beside g a = record {
  calls = a.list.seen.book;
  clock = a.beside.store.file.disk.clock;
  failures = a.beside.store.file.disk.failures;
  image = [];
  held = IsHeldBy any_kind a.beside.store [];
}

abbrev pub ghosts-run_beside_by : goal.ghosts-run_beside_by
ghosts-run_beside_by g a = record {
  calls = record { number = 0; log_name = 0; cells_name = 0 };
  clock = 0;
  failures = 0;
  image = [];
  held = IsHeldBy any_kind a.beside.store [];
}

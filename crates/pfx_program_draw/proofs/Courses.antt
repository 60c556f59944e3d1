-- A task of a ledger has a course of small numbers.
use Rattle.std.proofs.Common.{ℕ, ◌<◌, ◌+◌, arith}
use Rattle.pfx_columns.specs.Ledgers.{Ledger, IsLedger, total, task}
use Rattle.pfx_columns.proofs.Placing.{weight_of_task}
use Rattle.pfx_columns.proofs.Shown.{alloc_within}
use Rattle.pfx_program_draw.specs.Drawing.{course_of}
use Rattle.pfx_program_draw.specs.Lags.{IsCourse}

pub course_is : (g : Ledger) (x : ℕ) → IsLedger g → x < total g → IsCourse (course_of g x)
course_is g x ledger within =
    let w = weight_of_task g x ledger within in
    let a : (task g x).alloc < g.slot + 1 = alloc_within g.set g.slot g.allocs x ledger.set ledger.fair within in
    let below = ledger.slot in
    record {
      e = omega (arith, w.0, w.1, w.2);
      p = w.2;
      some = omega (arith, w.0, w.1);
      slot = omega (arith, below);
      alloc = omega (arith, a, below);
    }

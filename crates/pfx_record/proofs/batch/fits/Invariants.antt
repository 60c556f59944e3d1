use Rattle.std.proofs.Common.{◌≡◌, drop, map}
use Rattle.pfx_record.specs.Batches.{all_fit}
use Rattle.pfx_record.specs.Records.{plain}
use Rattle.pfx_record.proofs.batch.fits.Given as goal

abbrev pub invariant-loop-entry : goal.invariant-loop-entry
invariant-loop-entry g l = all_fit l.form (map plain l.records) ≡ all_fit l.form (map plain (drop l.entry-index l.records))

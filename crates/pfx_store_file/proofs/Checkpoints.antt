-- How far a checkpoint is.
use Rattle.std.proofs.Common.{◌≡◌, refl, sym, true, false}
use Rattle.std.proofs.lemmas.Bool.{true≢false}
use Rattle.pfx_store_file.specs.Checkpoints.{in_progress, is_begun, written}
use Rattle.pfx_store_file.specs.declared.progress.Checkpoint.{Checkpoint}
use Rattle.pfx_store_file.specs.declared.progress.Checkpoint.TheVariants.{Ended, Pending, Writing}

pub is_ended : (c : Checkpoint) → in_progress c ≡ false → c ≡ Ended
is_ended Ended none = refl
is_ended Pending none = absurd (true≢false none)
is_ended (Writing done) none = absurd (true≢false none)

pub writing_is : (c : Checkpoint) → is_begun c ≡ true → c ≡ Writing (written c)
writing_is Ended begun = absurd (true≢false (sym begun))
writing_is Pending begun = absurd (true≢false (sym begun))
writing_is (Writing done) begun = refl

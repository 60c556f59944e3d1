-- Rows that show what the line of a verdict is.
use Rattle.std.proofs.Common.{◌≡◌, codes, refl}
use Rattle.std.specs.Fmt.{digits}
use Rattle.pfx_replay.specs.declared.verdict.Difference.TheVariants as difference
use Rattle.pfx_replay.specs.declared.verdict.Verdict.TheVariants as verdict
use Rattle.pfx_replay.specs.Lines.{verdict_line}

pub six_agree : verdict_line (verdict.Agrees 6) ≡ codes "agrees 6\n"
unfolding digits
six_agree = refl

pub a_row_differs : verdict_line (verdict.Differs 1 difference.Row) ≡ codes "differs 1 Row\n"
unfolding digits
a_row_differs = refl

pub a_state_differs : verdict_line (verdict.Differs 3 difference.State) ≡ codes "differs 3 State\n"
unfolding digits
a_state_differs = refl

pub a_checkpoint_differs : verdict_line (verdict.Differs 10 difference.Checkpoint) ≡ codes "differs 10 Checkpoint\n"
unfolding digits
a_checkpoint_differs = refl

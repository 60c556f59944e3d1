use Rattle.pfx_program_draw.proofs.Drawn.{drawn_lag}
use Rattle.pfx_program_draw.proofs.laws.lags_are_ledgers.Goals as goal

pub returns : goal.returns
returns c g rows x i within ledger h = drawn_lag g rows x i within ledger h

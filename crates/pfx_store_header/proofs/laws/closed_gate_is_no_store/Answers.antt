use Rattle.std.specs.Prelude.{[]}
use Rattle.pfx_store_header.proofs.Meanings.{closed_no_store}
use Rattle.pfx_store_header.proofs.laws.closed_gate_is_no_store.Goals as goal

pub returns-clause-none : goal.returns-clause-none
returns-clause-none c = λ v. closed_no_store v [] (λ e. cc)

pub returns-clause-closed : goal.returns-clause-closed
returns-clause-closed c = closed_no_store

use Rattle.pfx_store.proofs.Counts.{append_most}
use Rattle.pfx_store.proofs.laws.appends_take_few_calls.Goals as goal

pub returns : goal.returns
returns g n places = append_most n places

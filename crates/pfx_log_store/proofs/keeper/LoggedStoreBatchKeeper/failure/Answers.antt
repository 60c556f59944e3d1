use Rattle.pfx_log_store.proofs.Keepings.{store_whole}
use Rattle.pfx_log_store.proofs.keeper.LoggedStoreBatchKeeper.failure.Goals as goal

pub returns-clause-whole : goal.returns-clause-whole
returns-clause-whole g c = λ none. store_whole c.args.self.now.store.file.broken c.args.self.now.log.broken c.args.self.now.stopped none

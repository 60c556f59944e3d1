use Rattle.pfx_events.specs.Store.{store_of}
use Rattle.pfx_events.proofs.Reaching.{reached_claims, reached_new, reached_on, reached_settled}
use Rattle.pfx_events.proofs.Sound.{sound}
use Rattle.pfx_events.proofs.laws.runs_go_on.Goals as goal

pub returns-clause-keeps : goal.returns-clause-keeps
returns-clause-keeps g c = λ B w reached. reached_claims (store_of g.J.Job.kind) (sound g.J.Job.kind g.met.J.Job.laws) B w reached

pub returns-clause-found : goal.returns-clause-found
returns-clause-found g c = λ B image f events new can. reached_new (store_of g.J.Job.kind) (sound g.J.Job.kind g.met.J.Job.laws) B image f events new can

pub returns-clause-further : goal.returns-clause-further
returns-clause-further g c = λ B w events reached can. reached_on (store_of g.J.Job.kind) B w events reached can

pub returns-clause-anew : goal.returns-clause-anew
returns-clause-anew g c = λ B w reached none whole. reached_settled (store_of g.J.Job.kind) (sound g.J.Job.kind g.met.J.Job.laws) B w reached none whole

use Rattle.std.proofs.Common.{inl, inr, ⊎_elim, ap}
use Rattle.pfx_log.specs.Logs.{log_bytes}
use Rattle.pfx_log.proofs.Chains.{one_chain}
use Rattle.pfx_log.proofs.laws.one_head.Goals as goal

pub returns : goal.returns
returns c one other is is_other long same = ⊎_elim (λ are. inl (are, ap log_bytes are)) (λ two. inr two) (one_chain one other is is_other long same)

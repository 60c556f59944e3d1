use Rattle.std.proofs.Common.{rules, refl, subst}
use Rattle.std.proofs.lemmas.Result.{IfOk-weaker}
use Rattle.pfx_weights.specs.declared.faults.SetFault.TheVariants as setfault
use Rattle.pfx_weights.specs.Sets.{IsWorkerCount}
use Rattle.pfx_program_check.specs.Faults.{Tried, tried_of}
use Rattle.pfx_program_check.specs.Going.{IsFollowedBy}
use Rattle.pfx_program_check.proofs.Going.{goes_on}
use Rattle.pfx_program_check.proofs.faults.by_workers.Goals as goal

pub returns : goal.returns
returns c =
    let none : IsWorkerCount c.args.workers → ⊥ = λ workers. search (rules, c.are_workers.ensures, c.if-are_workers.false, workers) in
    IfOk-weaker c.followed-2.result _ _ (λ all h. goes_on (tried_of c.args.workers c.args.tasks.now) setfault.BadWorkers (tried_of 64 c.args.tasks.now) c.args.faults.items c.push.new.self.items all.items
    ((c.requires, none), λ same. cc) refl c.in_ok-push.ensures.items (subst (λ (t : Tried). IsFollowedBy t c.push.new.self.items all.items) c.in_ok-candidate-2.ensures h)) c.followed-2.ensures

use Rattle.std.proofs.Common.{◌++◌, ◌∷◌, [], sym, ◌∙◌, refl}
use Rattle.pfx_machine.proofs.Compose.{outcome-none}
use Rattle.pfx_machine.proofs.RunLemmas.{run_next, answer_next, split_next, on_err}
use Rattle.pfx_machine.proofs.runs.run.Goals as goal

pub returns-in_err-given-clause-beginning : goal.returns-in_err-given-clause-beginning
returns-in_err-given-clause-beginning g c =
    on_err c.from_residual.result _ ([], c.args.commands.items, refl, sym (outcome-none g.J.Job.kind c.args.state.now))

pub loop-command-init : goal.loop-command-init
loop-command-init g c = (c.in_ok-given.ensures.items, sym (outcome-none g.J.Job.kind c.args.state.now), sym c.into_iter-command-iterator.ensures.into_iter_gives.0)

pub returns-in_err-answer-clause-beginning : goal.returns-in_err-answer-clause-beginning
returns-in_err-answer-clause-beginning g c =
    on_err c.from_residual-in_err-answer.result _
    (c.loop-command.yielded, c.loop-command.command-iterator.rest.items, c.loop-command.invariant.2, c.in_err-answer.ensures.kept ∙ c.loop-command.invariant.1)

pub loop-command-preserved : goal.loop-command-preserved
loop-command-preserved g c =
    let K = g.J.Job.kind in
    let B = c.args.state.now in
    let yielded = c.loop-command.yielded in
    let before = c.loop-command.invariant in (
      answer_next K B yielded c.in-Some.command c.loop-command.state c.loop-command.given.items c.push.new.self.items c.in_ok-answer.answer before.1 before.0 c.in_ok-answer.ensures.answer c.in_ok-push.ensures.items,
      run_next K B yielded c.in-Some.command c.loop-command.state c.answer_one.new.state before.1 (c.in_ok-answer.ensures.outcome B),
      split_next c.args.commands.items yielded c.in-Some.command c.loop-command.command-iterator.rest.items c.next.new.self.rest.items before.2 c.in-Some.ensures.steps.0,
    )

pub returns-in_err-push-clause-beginning : goal.returns-in_err-push-clause-beginning
returns-in_err-push-clause-beginning g c =
    let K = g.J.Job.kind in
    let B = c.args.state.now in
    let yielded = c.loop-command.yielded in
    let before = c.loop-command.invariant in
    on_err c.from_residual-in_err-push.result _ (
      yielded ++ c.in-Some.command ∷ [],
      c.next.new.self.rest.items,
      split_next c.args.commands.items yielded c.in-Some.command c.loop-command.command-iterator.rest.items c.next.new.self.rest.items before.2 c.in-Some.ensures.steps.0,
      run_next K B yielded c.in-Some.command c.loop-command.state c.answer_one.new.state before.1 (c.in_ok-answer.ensures.outcome B),
    )

use Rattle.std.proofs.Common.{rules, ◌≡◌, List, [], ◌∷◌, ◌++◌, length, refl, arith, ap, ◌∙◌}
use Rattle.std.proofs.lemmas.List.{length-take-le}
use Rattle.std.proofs.lemmas.Result.{IfOk-weaker}
use Rattle.pfx_fault.specs.declared.refusals.Fault.{Fault}
use Rattle.pfx_fault.specs.declared.refusals.Fault.TheVariants as fault
use Rattle.pfx_weights.specs.declared.faults.SetFault.TheVariants as setfault
use Rattle.pfx_program_check.specs.Faults.{tried_of}
use Rattle.pfx_program_check.proofs.Going.{goes_on, first_tasks}
use Rattle.pfx_program_check.proofs.faults.by_tasks.Goals as goal

pub returns-then-is_empty : goal.returns-then-is_empty
returns-then-is_empty c =
    let none : length c.args.tasks.now ≡ 0 = search (rules, c.is_empty.ensures, c.if-is_empty.true) in
    IfOk-weaker c.by_workers.result _ _ (λ all h. goes_on (tried_of c.args.workers c.args.tasks.now) setfault.NoTasks (tried_of c.args.workers ((1, 2) ∷ [])) [] c.push.new.self.items all.items
    (none, λ same. cc) refl (c.in_ok-push.ensures.items ∙ ap (λ (l : List Fault). l ++ fault.NoTasks ∷ []) c.new-faults.ensures.items) h) c.by_workers.ensures

pub by_workers-requires-2 : goal.by_workers-requires-2
by_workers-requires-2 c =
    let number : length c.first_tasks-first.result.now ≡ 1024 = ap length c.first_tasks-first.ensures ∙ length-take-le 1024 c.args.tasks.now (omega (arith, c.if-tasks-le-MOST_TASKS.false)) in
    (omega (arith, number), omega (arith, number))

pub returns : goal.returns
returns c =
    let first = c.first_tasks-first.result.now in
    IfOk-weaker c.by_workers-2.result _ _ (λ all h. goes_on (tried_of c.args.workers c.args.tasks.now) setfault.TooManyTasks (tried_of c.args.workers first) [] c.push-2.new.self.items all.items
    (c.if-tasks-le-MOST_TASKS.false, λ same. cc) (first_tasks c.args.workers c.args.tasks.now first c.if-tasks-le-MOST_TASKS.false c.first_tasks-first.ensures)
    (c.in_ok-push-2.ensures.items ∙ ap (λ (l : List Fault). l ++ fault.TooManyTasks ∷ []) c.new-faults.ensures.items) h) c.by_workers-2.ensures

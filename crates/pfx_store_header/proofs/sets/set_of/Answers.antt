use Rattle.std.proofs.Common.{sym, subst}
use Rattle.std.specs.Prelude.{◌≢◌}
use Rattle.pfx_weights.specs.Sets.{Refuses}
use Rattle.pfx_weights.specs.declared.faults.SetFault.TheVariants.{NoTasks, TooManyTasks, BadWorkers, BadWeight, HyperperiodTooLarge, Overload, NoMemory}
use Rattle.pfx_weights.proofs.Tests.{sets_ok, sets_refused}
use Rattle.pfx_store_header.proofs.sets.set_of.Goals as goal

pub returns-in-Ok : goal.returns-in-Ok
returns-in-Ok c = sym (sets_ok c.args.workers c.args.tasks.now c.in-Ok.set c.in-Ok.ensures)

pub returns-in-Err-NoTasks : goal.returns-in-Err-NoTasks
returns-in-Err-NoTasks c =
    let other : NoTasks ≢ NoMemory = λ e. cc in
    sym (sets_refused c.args.workers c.args.tasks.now NoTasks other (subst (Refuses c.args.workers c.args.tasks.now) c.in-Err-NoTasks.field-0-is c.in-Err-NoTasks.ensures))

pub returns-in-Err-TooManyTasks : goal.returns-in-Err-TooManyTasks
returns-in-Err-TooManyTasks c =
    let other : TooManyTasks ≢ NoMemory = λ e. cc in
    sym (sets_refused c.args.workers c.args.tasks.now TooManyTasks other (subst (Refuses c.args.workers c.args.tasks.now) c.in-Err-TooManyTasks.field-0-is c.in-Err-TooManyTasks.ensures))

pub returns-in-Err-BadWorkers : goal.returns-in-Err-BadWorkers
returns-in-Err-BadWorkers c =
    let other : BadWorkers ≢ NoMemory = λ e. cc in
    sym (sets_refused c.args.workers c.args.tasks.now BadWorkers other (subst (Refuses c.args.workers c.args.tasks.now) c.in-Err-BadWorkers.field-0-is c.in-Err-BadWorkers.ensures))

pub returns-in-Err-BadWeight : goal.returns-in-Err-BadWeight
returns-in-Err-BadWeight c =
    let other : (BadWeight c.in-Err-BadWeight.field-0-0) ≢ NoMemory = λ e. cc in
    sym (sets_refused c.args.workers c.args.tasks.now (BadWeight c.in-Err-BadWeight.field-0-0) other (subst (Refuses c.args.workers c.args.tasks.now) c.in-Err-BadWeight.field-0-is c.in-Err-BadWeight.ensures))

pub returns-in-Err-HyperperiodTooLarge : goal.returns-in-Err-HyperperiodTooLarge
returns-in-Err-HyperperiodTooLarge c =
    let other : (HyperperiodTooLarge c.in-Err-HyperperiodTooLarge.field-0-0) ≢ NoMemory = λ e. cc in
    sym (sets_refused c.args.workers c.args.tasks.now (HyperperiodTooLarge c.in-Err-HyperperiodTooLarge.field-0-0) other (subst (Refuses c.args.workers c.args.tasks.now) c.in-Err-HyperperiodTooLarge.field-0-is c.in-Err-HyperperiodTooLarge.ensures))

pub returns-in-Err-Overload : goal.returns-in-Err-Overload
returns-in-Err-Overload c =
    let other : Overload ≢ NoMemory = λ e. cc in
    sym (sets_refused c.args.workers c.args.tasks.now Overload other (subst (Refuses c.args.workers c.args.tasks.now) c.in-Err-Overload.field-0-is c.in-Err-Overload.ensures))

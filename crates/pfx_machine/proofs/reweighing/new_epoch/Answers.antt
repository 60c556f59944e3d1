use Rattle.std.proofs.Common.{◌≡◌, ◌<◌, ◌≤◌, sym, ◌∙◌, ap, ap₂, subst}
use Rattle.std.specs.Prelude.{Some}
use Rattle.pfx_columns.specs.Ledgers.{Ledger}
use Rattle.pfx_machine.specs.Reweighing.{least_for}
use Rattle.pfx_machine.specs.declared.faults.MachineFault.TheVariants.{SegmentTooSmall}
use Rattle.pfx_machine.proofs.Reweighs.{new_set_is, too_small, goes_on, real_of, workers_of}
use Rattle.pfx_machine.proofs.reweighing.new_epoch.Goals as goal

pub returns-then-segment-least-clause-err : goal.returns-then-segment-least-clause-err
returns-then-segment-least-clause-err c = λ other.
    let set = c.in_ok-set.set in
    let m = c.args.workers in
    let w = c.args.weights.now in
    let accepts = c.in_ok-set.ensures.set in
    let least : c.least_for-least.result ≡ least_for m c.args.ledger.now.set.real =
    c.least_for-least.ensures ∙ ap₂ least_for (workers_of m w set accepts) (real_of m w set accepts ∙ c.in_ok-set.ensures.count) in
    let less : c.args.segment < least_for m c.args.ledger.now.set.real = subst (λ n. c.args.segment < n) least c.if-segment-least.true in
    too_small c.args.ledger.now c.args.segment m w set c.in_ok-set.ensures.count c.in_ok-set.ensures.level accepts less ∙ ap (λ n. Some (SegmentTooSmall n)) (sym least)

pub returns-in-Ok-clause-accepted : goal.returns-in-Ok-clause-accepted
returns-in-Ok-clause-accepted c =
    let set = c.in_ok-set.set in
    let m = c.args.workers in
    let w = c.args.weights.now in
    let accepts = c.in_ok-set.ensures.set in
    let least : c.least_for-least.result ≡ least_for m c.args.ledger.now.set.real =
    c.least_for-least.ensures ∙ ap₂ least_for (workers_of m w set accepts) (real_of m w set accepts ∙ c.in_ok-set.ensures.count) in
    goes_on c.args.ledger.now c.args.segment m w set c.in_ok-set.ensures.count c.in_ok-set.ensures.level accepts (subst (λ n. n ≤ c.args.segment) least c.if-segment-least.false)

pub returns-in-Ok-clause-set : goal.returns-in-Ok-clause-set
returns-in-Ok-clause-set c =
    ap (λ (g : Ledger). g.set) c.in-Ok.ensures ∙ sym (new_set_is c.args.ledger.now.set c.in_ok-set.set c.args.workers c.args.weights.now c.in_ok-set.ensures.set)

use Rattle.std.proofs.Common.{◌∙◌, List, ℕ, arith, subst, sym}
use Rattle.std.proofs.lemmas.List.{take_rest}
use Rattle.pfx_record.specs.Reading.{IsRecord, NoRecord}
use Rattle.pfx_record.specs.Records.{plain, ran}
use Rattle.pfx_store_format.specs.Idle.{idle, idle_len}
use Rattle.pfx_store_format.proofs.Taking.{TakenSoFar, none_next, wrong_next, taken_more, taken_over}
use Rattle.pfx_store_format.proofs.frames.take_records.Goals as goal

pub returns-in-None-clause-wrong : goal.returns-in-None-clause-wrong
returns-in-None-clause-wrong g c not =
    let K = g.J.Job.kind in
    let none = rw c.in-None.is at c.in_ok-read_next.ensures.none in
    none_next K g.met.J.Job.laws c.args.form c.args.body.now c.args.state.now c.loop-i.at c.loop-i.i c.args.count c.loop-i.state c.loop-i.invariant c.loop-i-test.true
    (subst (λ (l : List ℕ). NoRecord K c.args.form l) (take_rest c.args.body.now c.loop-i.at) none)

pub returns-then-not-right-clause-wrong : goal.returns-then-not-right-clause-wrong
returns-then-not-right-clause-wrong g c not =
    let K = g.J.Job.kind in
    let found = rw c.in-Some.is at c.in_ok-read_next.ensures.found in
    let is = subst (λ (l : List ℕ). IsRecord K c.args.form l (plain c.in-Some.entry) c.in-Some.taken) (take_rest c.args.body.now c.loop-i.at) found in
    let kept = c.pass_idle.ensures.kept c.if-pass_idle.false in
    let now = subst (TakenSoFar K g.met.J.Job.laws c.args.form c.args.body.now c.args.state.now c.loop-i.at c.loop-i.i) (sym kept) c.loop-i.invariant in
    wrong_next K g.met.J.Job.laws c.args.form c.args.body.now c.args.state.now c.loop-i.at c.loop-i.i c.args.count c.pass_idle.new.state now (plain c.in-Some.entry) c.in-Some.taken c.loop-i-test.true is (sym c.in_ok-right-in-Some.ensures.right ∙ c.if-not-right.true)

pub returns-then-at-body-clause-wrong : goal.returns-then-at-body-clause-wrong
returns-then-at-body-clause-wrong g c not =
    taken_over g.J.Job.kind g.met.J.Job.laws c.args.form c.args.body.now c.args.state.now c.loop-i.at c.loop-i.i c.args.count c.loop-i.state c.loop-i.invariant (omega (arith, c.loop-i-test.false, c.loop-i.auto.i-end)) c.if-at-body.true

pub loop-i-preserved-then-pass_idle : goal.loop-i-preserved-then-pass_idle
loop-i-preserved-then-pass_idle g c =
    let K = g.J.Job.kind in
    let passed = c.pass_idle.ensures.taken c.if-pass_idle.true in
    let next = ran (idle passed.row) in
    let is = subst (λ (l : List ℕ). IsRecord K c.args.form l next (idle_len c.args.form.workers)) (take_rest c.args.body.now c.loop-i.at) passed.stands in
    let more = taken_more K g.met.J.Job.laws c.args.form c.args.body.now c.args.state.now c.loop-i.at c.loop-i.i c.args.count c.loop-i.state c.loop-i.invariant next (idle_len c.args.form.workers) c.pass_idle.new.state is passed.right passed.leads in
    rw (c.idle_len-at.ensures) more

pub loop-i-preserved : goal.loop-i-preserved
loop-i-preserved g c =
    let K = g.J.Job.kind in
    let found = rw c.in-Some.is at c.in_ok-read_next.ensures.found in
    let is = subst (λ (l : List ℕ). IsRecord K c.args.form l (plain c.in-Some.entry) c.in-Some.taken) (take_rest c.args.body.now c.loop-i.at) found in
    let kept = c.pass_idle.ensures.kept c.if-pass_idle.false in
    let now = subst (TakenSoFar K g.met.J.Job.laws c.args.form c.args.body.now c.args.state.now c.loop-i.at c.loop-i.i) (sym kept) c.loop-i.invariant in
    taken_more K g.met.J.Job.laws c.args.form c.args.body.now c.args.state.now c.loop-i.at c.loop-i.i c.args.count c.pass_idle.new.state now (plain c.in-Some.entry) c.in-Some.taken c.apply_reweigh.new.state is (sym c.in_ok-right-in-Some.ensures.right ∙ c.if-not-right.false) (c.in_ok-right-in-Some.ensures.taken c.if-not-right.false)

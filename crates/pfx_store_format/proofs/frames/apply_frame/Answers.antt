use Rattle.std.proofs.Common.{◌≡◌, ◌+◌, ◌-◌, ◌∙◌, sym, ap, subst, arith, ℕ, drop, take}
use Rattle.pfx_columns.specs.Ledgers.{Ledger}
use Rattle.pfx_record.specs.Reading.{IsHead, body_of}
use Rattle.pfx_record.specs.Records.{form_of}
use Rattle.pfx_store_format.specs.Frames.{number_after}
use Rattle.pfx_store_format.specs.Taking.{AreTaken, AreWrong}
use Rattle.pfx_store_format.proofs.Leading.{no_number}
use Rattle.pfx_store_format.proofs.Taking.{no_head_there, other_len, wrong_there, taken_there, on_ok}
use Rattle.pfx_store_format.proofs.frames.apply_frame.Goals as goal

pub returns-in-None-clause-wrong : goal.returns-in-None-clause-wrong
returns-in-None-clause-wrong g c wrong = sym (no_number g.J.Job.kind c.args.state.now c.args.frame.now (ap (λ n. number_after n c.args.frame.now) (sym c.number.ensures.number) ∙ (sym c.number_after.ensures ∙ c.in-None.is)))

pub returns-in-None-read_head-clause-wrong : goal.returns-in-None-read_head-clause-wrong
returns-in-None-read_head-clause-wrong g c wrong =
    let none : (len first count : ℕ) → IsHead c.args.state.now.ledger.set.workers c.args.frame.now len first count → ⊥ = rw (← c.columns-2.ensures, ← c.workers-workers.ensures) c.in-None-read_head.ensures.none in
    sym (no_head_there g.J.Job.kind g.met.J.Job.laws c.args.state.now c.args.frame.now none)

pub returns-then-end-frame-clause-wrong : goal.returns-then-end-frame-clause-wrong
returns-then-end-frame-clause-wrong g c wrong =
    let of = c.in-Some-read_head.head in
    let head : IsHead c.args.state.now.ledger.set.workers c.args.frame.now of.len of.first of.count = rw (← c.columns-2.ensures, ← c.workers-workers.ensures) c.in-Some-read_head.ensures.found in
    sym (other_len g.J.Job.kind g.met.J.Job.laws c.args.state.now c.args.frame.now of.len of.first of.count head c.if-end-frame.true)

pub returns-else-end-frame-clause-taken : goal.returns-else-end-frame-clause-taken
returns-else-end-frame-clause-taken g c =
    let K = g.J.Job.kind in
    let s = c.args.state.now in
    let t = c.take_records.new.state in
    let of = c.in-Some-read_head.head in
    let head : IsHead s.ledger.set.workers c.args.frame.now of.len of.first of.count = rw (← c.columns-2.ensures, ← c.workers-workers.ensures) c.in-Some-read_head.ensures.found in
    let long : 15 + of.len - 15 ≡ of.len = omega arith in
    let same : c.workers-workers.result ≡ s.ledger.set.workers = c.workers-workers.ensures ∙ ap (λ (l : Ledger). l.set.workers) c.columns-2.ensures in
    let real : c.real-real.result ≡ s.ledger.set.real = c.real-real.ensures ∙ ap (λ (l : Ledger). l.set.real) c.columns-3.ensures in
    let number = ap (λ n. number_after n c.args.frame.now) (sym c.number.ensures.number) ∙ (sym c.number_after.ensures ∙ c.in-Some.is) in
    on_ok c.take_records.result c.take_records.ensures.taken (λ right found is.
    let taken : AreTaken K (form_of s.ledger.set.workers s.ledger.set.real of.count) (body_of of.len c.args.frame.now) of.count s t = subst (λ (w : ℕ). AreTaken K (form_of w s.ledger.set.real of.count) (body_of of.len c.args.frame.now) of.count s t) same
    (subst (λ (r : ℕ). AreTaken K (form_of c.workers-workers.result r of.count) (body_of of.len c.args.frame.now) of.count s t) real
    (subst (λ (k : ℕ). AreTaken K (form_of c.workers-workers.result c.real-real.result of.count) (take k (drop 15 c.args.frame.now)) of.count s t) long (found is))) in
    sym (taken_there K g.met.J.Job.laws s c.args.frame.now of.len of.first of.count head t c.in-Some.field-0 number c.if-end-frame.false taken))

pub returns-else-end-frame-clause-wrong : goal.returns-else-end-frame-clause-wrong
returns-else-end-frame-clause-wrong g c =
    let K = g.J.Job.kind in
    let s = c.args.state.now in
    let of = c.in-Some-read_head.head in
    let head : IsHead s.ledger.set.workers c.args.frame.now of.len of.first of.count = rw (← c.columns-2.ensures, ← c.workers-workers.ensures) c.in-Some-read_head.ensures.found in
    let long : 15 + of.len - 15 ≡ of.len = omega arith in
    let same : c.workers-workers.result ≡ s.ledger.set.workers = c.workers-workers.ensures ∙ ap (λ (l : Ledger). l.set.workers) c.columns-2.ensures in
    let real : c.real-real.result ≡ s.ledger.set.real = c.real-real.ensures ∙ ap (λ (l : Ledger). l.set.real) c.columns-3.ensures in
    on_ok c.take_records.result c.take_records.ensures.wrong (λ right found is.
    let wrong : AreWrong K (form_of s.ledger.set.workers s.ledger.set.real of.count) (body_of of.len c.args.frame.now) of.count s = subst (λ (w : ℕ). AreWrong K (form_of w s.ledger.set.real of.count) (body_of of.len c.args.frame.now) of.count s) same
    (subst (λ (r : ℕ). AreWrong K (form_of c.workers-workers.result r of.count) (body_of of.len c.args.frame.now) of.count s) real
    (subst (λ (k : ℕ). AreWrong K (form_of c.workers-workers.result c.real-real.result of.count) (take k (drop 15 c.args.frame.now)) of.count s) long (found is))) in
    sym (wrong_there K g.met.J.Job.laws s c.args.frame.now of.len of.first of.count head wrong))

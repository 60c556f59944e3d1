use Rattle.std.specs.Prelude.{option_map, OnOk, OnErr, IfErr, take, drop}
use Rattle.std.proofs.Common.{◌≡◌, List, length, map, [], Option, Some, None, ◌++◌, sym, ap, ◌∙◌, subst, arith, rules}
use Rattle.pfx_jobs.specs.declared.quantum.Quantum.{Quantum}
use Rattle.pfx_jobs.specs.declared.quantum.Done.{Done}
use Rattle.pfx_machine.specs.Slots.{Deal, deal}
use Rattle.pfx_crew.specs.Gathering.{Puts, Refuses}
use Rattle.pfx_book_slot.specs.Dealt.{Dealt, Answers}
use Rattle.pfx_book_slot.proofs.Placed.{give_ok, give_err, give_keeps, on_err, take_own}
use Rattle.pfx_book_slot.proofs.slot.OpenSlot.give.Goals as goal

pub invariant_of-self : goal.invariant_of-self
invariant_of-self g c =
    let i = c.self.invariant in
    let f = λ (d : Done g.row.J.Denot g.J.Job). deal d.number d.slot d.task d.before in
    let fq = λ (q : Quantum g.row.J.Denot g.J.Job). deal q.number q.slot q.task q.before in
    let q = ap (map fq) c.deref.ensures.value in
    let o = ap (map (option_map f)) c.deref_mut.ensures.value in
    let a = subst (λ b. Answers (map fq c.deref.result.now) b) (sym o) (subst (λ Q. Answers Q (map (option_map f) c.self.inside.back.items)) (sym q) i.0) in
    let k = give_keeps f c.gather.result (map fq c.deref.result.now) c.deref_mut.result.now c.gather.new.places c.args.done c.gather.ensures.ok c.gather.ensures.kept a in
    let n : length c.gather.new.places ≡ c.self.inside.back.len = k.1 ∙ c.deref_mut.ensures.len in
    let t = take_own c.self.inside.back.len c.gather.new.places (drop (length c.gather.new.places) c.self.inside.back.items) n in
    let same : length c.gather.new.places ≡ length c.self.inside.back.items = k.1 ∙ ap length c.deref_mut.ensures.value in
    let long = ap length t in (
      subst (λ b. Answers (map fq c.self.inside.quanta.items) (map (option_map f) b)) (sym t) (subst (λ Q. Answers Q (map (option_map f) c.gather.new.places)) q k.0),
      long ∙ same ∙ i.1,
      i.2,
      i.3,
      omega (arith, long, same, i.4),
      i.5,
    )

pub returns-clause-ok : goal.returns-clause-ok
returns-clause-ok g c =
    let i = c.self.invariant in
    let f = λ (d : Done g.row.J.Denot g.J.Job). deal d.number d.slot d.task d.before in
    let fq = λ (q : Quantum g.row.J.Denot g.J.Job). deal q.number q.slot q.task q.before in
    let q = ap (map fq) c.deref.ensures.value in
    let o = ap (map (option_map f)) c.deref_mut.ensures.value in
    let a = subst (λ b. Answers (map fq c.deref.result.now) b) (sym o) (subst (λ Q. Answers Q (map (option_map f) c.self.inside.back.items)) (sym q) i.0) in
    let k = give_keeps f c.gather.result (map fq c.deref.result.now) c.deref_mut.result.now c.gather.new.places c.args.done c.gather.ensures.ok c.gather.ensures.kept a in
    let n : length c.gather.new.places ≡ c.self.inside.back.len = k.1 ∙ c.deref_mut.ensures.len in
    let t = take_own c.self.inside.back.len c.gather.new.places (drop (length c.gather.new.places) c.self.inside.back.items) n in
    let r = give_ok f c.gather.result (map fq c.deref.result.now) c.deref_mut.result.now c.gather.new.places c.args.done c.gather.ensures.ok a in
    let e1 = q ∙ ap (λ (v : Dealt g.row.J.Denot). v.quanta) c.self.view_is in
    let e2 = o ∙ ap (λ (v : Dealt g.row.J.Denot). v.back) c.self.view_is in
    let e3 = ap (map (option_map f)) (sym t) in
    subst (λ (v : List (Deal g.row.J.Denot) × List (Option (Deal g.row.J.Denot)) × List (Option (Deal g.row.J.Denot))). OnOk c.gather.result (Puts v.0 (f c.args.done) v.1 v.2 (Some (f c.args.done))))
    (λ j. (e1 j, e2 j, e3 j)) r

pub returns-clause-err : goal.returns-clause-err
returns-clause-err g c =
    let f = λ (d : Done g.row.J.Denot g.J.Job). deal d.number d.slot d.task d.before in
    let fq = λ (q : Quantum g.row.J.Denot g.J.Job). deal q.number q.slot q.task q.before in
    let r = give_err f c.gather.result (map fq c.deref.result.now) (f c.args.done) c.deref_mut.result.now c.gather.ensures.err in
    let e1 = ap (map fq) c.deref.ensures.value ∙ ap (λ (v : Dealt g.row.J.Denot). v.quanta) c.self.view_is in
    let e2 = ap (map (option_map f)) c.deref_mut.ensures.value ∙ ap (λ (v : Dealt g.row.J.Denot). v.back) c.self.view_is in
    subst (λ (v : List (Deal g.row.J.Denot) × List (Option (Deal g.row.J.Denot))). IfErr c.gather.result (λ fault. Refuses v.0 (f c.args.done) v.1 fault)) (λ j. (e1 j, e2 j)) r

pub returns-clause-kept : goal.returns-clause-kept
returns-clause-kept g c =
    let i = c.self.invariant in
    let f = λ (d : Done g.row.J.Denot g.J.Job). deal d.number d.slot d.task d.before in
    let fq = λ (q : Quantum g.row.J.Denot g.J.Job). deal q.number q.slot q.task q.before in
    let q = ap (map fq) c.deref.ensures.value in
    let o = ap (map (option_map f)) c.deref_mut.ensures.value in
    let a = subst (λ b. Answers (map fq c.deref.result.now) b) (sym o) (subst (λ Q. Answers Q (map (option_map f) c.self.inside.back.items)) (sym q) i.0) in
    let k = give_keeps f c.gather.result (map fq c.deref.result.now) c.deref_mut.result.now c.gather.new.places c.args.done c.gather.ensures.ok c.gather.ensures.kept a in
    let n : length c.gather.new.places ≡ c.self.inside.back.len = k.1 ∙ c.deref_mut.ensures.len in
    let t = take_own c.self.inside.back.len c.gather.new.places (drop (length c.gather.new.places) c.self.inside.back.items) n in
    on_err c.gather.result _ _ (λ e. ap (λ b. record { row = c.self.inside.row; quanta = map fq c.self.inside.quanta.items; back = map (option_map f) b }) (t ∙ e ∙ c.deref_mut.ensures.value) ∙ c.self.view_is) c.gather.ensures.kept

use Rattle.std.proofs.Common.{◌≡◌, ◌++◌, ◌∙◌, map, ap, sym}
use Rattle.std.proofs.lemmas.Result.{IfOk-weaker}
use Rattle.pfx_machine.specs.Plain.{Plain}
use Rattle.pfx_record.specs.Records.{plain}
use Rattle.pfx_replay.specs.Trails.{records_behind}
use Rattle.pfx_replay.proofs.Stores.{found_by, verdict_way}
use Rattle.pfx_replay.proofs.file.judge_from.Goals as goal

pub returns-in_default : goal.returns-in_default
returns-in_default g c p t is same area segment turned =
    let none = rw c.in_default.is at c.in_ok-behind.ensures in
    found_by g.J.Job.kind g.met.J.Job.laws c.args.header.now c.args.image.now p t is c.args.area c.args.segment c.args.turned area segment turned (λ before frames. ⊥) none

pub returns : goal.returns
returns g c =
    let K = g.J.Job.kind in
    let L = g.met.J.Job.laws in
    let h = c.args.header.now in
    let image = c.args.image.now in
    let base = c.args.base.now in
    let behind = map plain c.deref.result.now in
    let together = rw c.in-Some.is at c.in_ok-behind.ensures in
    IfOk-weaker c.judge_way.result _ _ (λ found given p t is same area segment turned.
    let all = found_by K L h image p t is c.args.area c.args.segment c.args.turned area segment turned (λ before frames. map plain c.in-Some.behind.items ≡ records_behind K base (before ++ frames)) together in
    let read_behind = ap (λ l. map plain l) c.deref.ensures.value ∙ all ∙ ap (λ b. records_behind K b (p.before ++ p.frames)) same in
    verdict_way K L h image p t is c.args.area c.args.segment c.args.turned area segment turned g.J.Units.unit found base behind c.in_ok-way.way same read_behind
    (c.in_ok-way.ensures p area segment (ap (λ (s : Plain _). s.number) (sym same) ∙ sym c.number.ensures.number)) given) c.judge_way.ensures

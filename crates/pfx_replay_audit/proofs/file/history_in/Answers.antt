use Rattle.std.proofs.Common.{◌≡◌, ◌++◌, ◌∷◌, ◌∙◌, [], map, not, ap, ap₂, sym}
use Rattle.pfx_store_format.specs.Format.{layout}
use Rattle.pfx_machine.specs.Plain.{Plain}
use Rattle.pfx_record.specs.Records.{plain}
use Rattle.pfx_replay.specs.Trails.{records_behind}
use Rattle.pfx_replay.proofs.Stores.{base_is, found_by}
use Rattle.pfx_replay_audit.specs.Files.{area_state, with_state}
use Rattle.pfx_replay_audit.proofs.file.history_in.Goals as goal

pub returns-in_default-2 : goal.returns-in_default-2
returns-in_default-2 g c p is area segment turned =
    let none = rw c.in_default-2.is at c.in_ok-records.ensures in
    found_by g.J.Job.kind g.met.J.Job.laws c.args.header.now c.args.image.now p c.args.state.now is c.args.area c.args.segment c.args.turned area segment turned (λ before frames. ⊥) none

pub returns : goal.returns
returns g c p is area segment turned =
    let K = g.J.Job.kind in
    let L = g.met.J.Job.laws in
    let h = c.args.header.now in
    let image = c.args.image.now in
    let t = c.args.state.now in
    let base = c.in-Some.base in
    let read = rw c.in-Some.is at c.in_ok-base.ensures in
    let together = rw c.in-Some-2.is at c.in_ok-records.ensures in
    let same = base_is K L h image p t is c.args.area c.args.segment c.args.turned area segment turned c.area_at-at.result c.sizes-sizes.result.body base
    (c.area_at-at.ensures.at (layout h) c.sizes-sizes.ensures.sizes) c.sizes-sizes.ensures.sizes.body read in
    let all = found_by K L h image p t is c.args.area c.args.segment c.args.turned area segment turned (λ before frames. map plain c.in-Some-2.records.items ≡ records_behind K base (before ++ frames)) together in
    record {
      begin = c.number-begin.ensures.number ∙ ap (λ (s : Plain _). s.number) same;
      records = all ∙ ap (λ b. records_behind K b (p.before ++ p.frames)) same;
      marks = c.in_ok-marks.ensures ∙ ap₂ (λ a b. with_state (area_state K h (not a) image) (b ∷ t ∷ [])) (sym area) same;
    }

use Rattle.std.proofs.Common.{◌≡◌, ◌+◌, ◌≤◌, ◌++◌, ◌∷◌, [], length, true, false, refl, sym, ap, ◌∙◌, subst, arith, length-append}
use Rattle.std.proofs.lemmas.Bool.{false≢true}
use Rattle.pfx_disk.specs.Disk.{IsLive, Leaves, Torn}
use Rattle.pfx_disk.specs.Stop.{contents_after}
use Rattle.pfx_disk_chronicle.specs.Chart.{Noted, acts_of, noted_view, charted_honest}
use Rattle.pfx_disk_chronicle.specs.declared.made.Made.TheVariants.{Wrote}
use Rattle.pfx_disk_chronicle.proofs.Charts.{honest_back, torn_if, wrote, written, follows_write}
use Rattle.pfx_disk_chronicle.proofs.chronicle.ChronicleDisk.write_at.Goals as goal

pub returns-then-not-is_live-clause-leaves : goal.returns-then-not-is_live-clause-leaves
returns-then-not-is_live-clause-leaves g c =
    torn_if g.B.Charted.held g.B.Charted.image g.B.Charted.clock g.B.Charted.failures c.args.at (length c.args.bytes.now) c.args.self.now c.refuse.new.self c.refuse.ensures.leaves

pub returns-then-not-is_inside-clause-honest : goal.returns-then-not-is_inside-clause-honest
returns-then-not-is_inside-clause-honest g c = honest_back g.B.Charted.held g.B.Charted.image g.B.Charted.clock g.B.Charted.failures c.args.self.now c.refuse-then-not-is_inside.new.self

pub returns-then-not-is_inside-clause-leaves : goal.returns-then-not-is_inside-clause-leaves
returns-then-not-is_inside-clause-leaves g c =
    torn_if g.B.Charted.held g.B.Charted.image g.B.Charted.clock g.B.Charted.failures c.args.at (length c.args.bytes.now) c.args.self.now c.refuse-then-not-is_inside.new.self c.refuse-then-not-is_inside.ensures.leaves

pub returns-then-not-extend-clause-honest : goal.returns-then-not-extend-clause-honest
returns-then-not-extend-clause-honest g c = honest_back g.B.Charted.held g.B.Charted.image g.B.Charted.clock g.B.Charted.failures c.args.self.now c.refuse-then-not-extend.new.self

pub returns-then-not-extend-clause-leaves : goal.returns-then-not-extend-clause-leaves
returns-then-not-extend-clause-leaves g c =
    torn_if g.B.Charted.held g.B.Charted.image g.B.Charted.clock g.B.Charted.failures c.args.at (length c.args.bytes.now) c.args.self.now c.refuse-then-not-extend.new.self c.refuse-then-not-extend.ensures.leaves

pub invariant_of-self-in-Err : goal.invariant_of-self-in-Err
invariant_of-self-in-Err g c =
    let i = c.self.inside in
    let view = g.D.Disk.view in
    let d = c.args.self.now in
    let is : c.extend.new.past ≡ i.past ++ Wrote c.args.at c.args.bytes.now ∷ [] = c.if-not-extend.ensures ∙ ap (λ l. l ++ Wrote c.args.at c.args.bytes.now ∷ []) c.again-past.ensures in
    let made : i.past ≡ d.made = ap (λ (d : Noted _). d.made) c.self.view_is in
    let live = c.if-not-is_live.ensures.live refl in
    let along = c.self.invariant.1 in
    let good : i.failed ≡ false = ap (λ (d : Noted _). d.failed) c.self.view_is ∙ live.1 in
    let none : i.late ≡ 0 = ap (λ (d : Noted _). d.late) c.self.view_is ∙ live.2 in
    let tick : (view c.write_at.new.self).clock ≡ (view i.disk).clock + 1 = c.write_at.ensures.time.tick (subst (λ (e : _). IsLive (view e)) (sym (ap (λ (d : Noted _). d.disk) c.self.view_is)) live.0) in (
      c.self.invariant.0,
      record {
        clock = omega (arith, tick, along.clock, ap length is, length-append i.past (Wrote c.args.at c.args.bytes.now ∷ []));
        whole = λ still. absurd (false≢true (sym still));
        follows = λ honest.
            let was = c.write_at.ensures.honest honest in
            let f = along.follows was in
            let place = c.if-not-is_inside.ensures refl f.premise in
            follows_write g.B.Charted.held g.B.Charted.image g.B.Charted.clock (view i.disk) (view c.write_at.new.self) i.past i.failed f (omega (arith, along.clock, none)) tick
            (g.met.D.Disk.only_now c.write_at.new.self) c.extend.new.past true c.args.at c.args.bytes.now is good place (c.write_at.ensures.leaves was) (λ still. absurd (false≢true (sym still)));
      },
    )

pub returns-in-Err-clause-honest : goal.returns-in-Err-clause-honest
returns-in-Err-clause-honest g c = let i = c.self.inside in
    honest_back g.B.Charted.held g.B.Charted.image g.B.Charted.clock g.B.Charted.failures c.args.self.now (record { disk = c.write_at.new.self; made = c.extend.new.past; late = i.late; failed = true })

pub returns-in-Err-clause-leaves : goal.returns-in-Err-clause-leaves
returns-in-Err-clause-leaves g c honest =
    let i = c.self.inside in
    let is : c.extend.new.past ≡ i.past ++ Wrote c.args.at c.args.bytes.now ∷ [] = c.if-not-extend.ensures ∙ ap (λ l. l ++ Wrote c.args.at c.args.bytes.now ∷ []) c.again-past.ensures in
    let none : i.late ≡ 0 = ap (λ (d : Noted _). d.late) c.self.view_is ∙ (c.if-not-is_live.ensures.live refl).2 in
    subst (λ d. Leaves (Torn c.args.at (length c.args.bytes.now)) (noted_view g.B.Charted.held g.B.Charted.image g.B.Charted.clock g.B.Charted.failures d) (noted_view g.B.Charted.held g.B.Charted.image g.B.Charted.clock g.B.Charted.failures (record { disk = c.write_at.new.self; made = c.extend.new.past; late = i.late; failed = true }))) c.self.view_is
    (wrote g.B.Charted.held g.B.Charted.image g.B.Charted.clock g.B.Charted.failures i.past c.extend.new.past c.args.at c.args.bytes.now i.late i.late i.failed true honest.here.0 none none is)

pub invariant_of-self : goal.invariant_of-self
invariant_of-self g c =
    let i = c.self.inside in
    let view = g.D.Disk.view in
    let d = c.args.self.now in
    let is : c.extend.new.past ≡ i.past ++ Wrote c.args.at c.args.bytes.now ∷ [] = c.if-not-extend.ensures ∙ ap (λ l. l ++ Wrote c.args.at c.args.bytes.now ∷ []) c.again-past.ensures in
    let made : i.past ≡ d.made = ap (λ (d : Noted _). d.made) c.self.view_is in
    let live = c.if-not-is_live.ensures.live refl in
    let along = c.self.invariant.1 in
    let good : i.failed ≡ false = ap (λ (d : Noted _). d.failed) c.self.view_is ∙ live.1 in
    let none : i.late ≡ 0 = ap (λ (d : Noted _). d.late) c.self.view_is ∙ live.2 in
    let tick : (view c.write_at.new.self).clock ≡ (view i.disk).clock + 1 = (c.in-Ok.ensures.time.ok refl).0 in (
      c.self.invariant.0,
      record {
        clock = omega (arith, tick, along.clock, ap length is, length-append i.past (Wrote c.args.at c.args.bytes.now ∷ []));
        whole = λ still. ((along.whole still).0, (c.in-Ok.ensures.time.ok refl).1 ∙ (along.whole still).1);
        follows = λ honest.
            let was = c.write_at.ensures.honest honest in
            let f = along.follows was in
            let place = c.if-not-is_inside.ensures refl f.premise in
            follows_write g.B.Charted.held g.B.Charted.image g.B.Charted.clock (view i.disk) (view c.write_at.new.self) i.past i.failed f (omega (arith, along.clock, none)) tick
            (g.met.D.Disk.only_now c.write_at.new.self) c.extend.new.past i.failed c.args.at c.args.bytes.now is good place (c.write_at.ensures.leaves was) (λ still. c.in-Ok.ensures.written was);
      },
    )

pub returns-in-Ok-clause-honest : goal.returns-in-Ok-clause-honest
returns-in-Ok-clause-honest g c = let i = c.self.inside in
    honest_back g.B.Charted.held g.B.Charted.image g.B.Charted.clock g.B.Charted.failures c.args.self.now (record { disk = c.write_at.new.self; made = c.extend.new.past; late = i.late; failed = i.failed })

pub returns-in-Ok-clause-leaves : goal.returns-in-Ok-clause-leaves
returns-in-Ok-clause-leaves g c honest =
    let i = c.self.inside in
    let is : c.extend.new.past ≡ i.past ++ Wrote c.args.at c.args.bytes.now ∷ [] = c.if-not-extend.ensures ∙ ap (λ l. l ++ Wrote c.args.at c.args.bytes.now ∷ []) c.again-past.ensures in
    let none : i.late ≡ 0 = ap (λ (d : Noted _). d.late) c.self.view_is ∙ (c.if-not-is_live.ensures.live refl).2 in
    subst (λ d. Leaves (Torn c.args.at (length c.args.bytes.now)) (noted_view g.B.Charted.held g.B.Charted.image g.B.Charted.clock g.B.Charted.failures d) (noted_view g.B.Charted.held g.B.Charted.image g.B.Charted.clock g.B.Charted.failures (record { disk = c.write_at.new.self; made = c.extend.new.past; late = i.late; failed = i.failed }))) c.self.view_is
    (wrote g.B.Charted.held g.B.Charted.image g.B.Charted.clock g.B.Charted.failures i.past c.extend.new.past c.args.at c.args.bytes.now i.late i.late i.failed i.failed honest.here.0 none none is)

pub returns-in-Ok-clause-written : goal.returns-in-Ok-clause-written
returns-in-Ok-clause-written g c honest =
    let i = c.self.inside in
    let is : c.extend.new.past ≡ i.past ++ Wrote c.args.at c.args.bytes.now ∷ [] = c.if-not-extend.ensures ∙ ap (λ l. l ++ Wrote c.args.at c.args.bytes.now ∷ []) c.again-past.ensures in
    let made : i.past ≡ c.args.self.now.made = ap (λ (d : Noted _). d.made) c.self.view_is in
    written g.B.Charted.held g.B.Charted.image g.B.Charted.clock g.B.Charted.failures c.args.self.now.made c.extend.new.past c.args.at c.args.bytes.now (is ∙ ap (λ l. l ++ Wrote c.args.at c.args.bytes.now ∷ []) made) (c.requires honest)

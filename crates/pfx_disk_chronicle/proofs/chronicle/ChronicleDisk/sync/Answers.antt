use Rattle.std.proofs.Common.{◌≡◌, ◌+◌, ◌++◌, ◌∷◌, [], length, true, refl, sym, ap, ◌∙◌, subst, arith, length-append}
use Rattle.pfx_disk.specs.Disk.{Leaves, Same}
use Rattle.pfx_disk_chronicle.specs.Chart.{Noted, noted_view}
use Rattle.pfx_disk_chronicle.specs.declared.made.Made.TheVariants.{Synced}
use Rattle.pfx_disk_chronicle.proofs.Charts.{honest_back, lost, synced, follows_sync, only_after}
use Rattle.pfx_disk_chronicle.proofs.chronicle.ChronicleDisk.sync.Goals as goal

pub returns-in-Err-clause-leaves : goal.returns-in-Err-clause-leaves
returns-in-Err-clause-leaves g c honest =
    let i = c.self.inside in
    subst (λ d. Leaves Same (noted_view g.B.Charted.held g.B.Charted.image g.B.Charted.clock g.B.Charted.failures d) (noted_view g.B.Charted.held g.B.Charted.image g.B.Charted.clock g.B.Charted.failures (record { disk = c.sync.new.self; made = i.past; late = 1; failed = true }))) c.self.view_is
    (lost g.B.Charted.held g.B.Charted.image g.B.Charted.clock g.B.Charted.failures i.past i.past i.late 1 i.failed true honest.here.0 refl)

pub returns-then-not-extend-clause-leaves : goal.returns-then-not-extend-clause-leaves
returns-then-not-extend-clause-leaves g c honest =
    let i = c.self.inside in
    subst (λ d. Leaves Same (noted_view g.B.Charted.held g.B.Charted.image g.B.Charted.clock g.B.Charted.failures d) (noted_view g.B.Charted.held g.B.Charted.image g.B.Charted.clock g.B.Charted.failures (record { disk = c.sync.new.self; made = i.past; late = 1; failed = true }))) c.self.view_is
    (lost g.B.Charted.held g.B.Charted.image g.B.Charted.clock g.B.Charted.failures i.past i.past i.late 1 i.failed true honest.here.0 refl)

pub invariant_of-self-2 : goal.invariant_of-self-2
invariant_of-self-2 g c =
    let i = c.self.inside in
    let view = g.D.Disk.view in
    let is : c.extend.new.past ≡ i.past ++ Synced ∷ [] = c.if-not-extend.ensures ∙ ap (λ l. l ++ Synced ∷ []) c.again-past.ensures in
    let live = c.if-not-is_live.ensures.live refl in
    let went = c.in_default.ensures.time.ok refl in
    let along = c.self.invariant.1 in
    let good : i.failed ≡ c.args.self.now.failed = ap (λ (d : Noted _). d.failed) c.self.view_is in
    let none : i.late ≡ c.args.self.now.late = ap (λ (d : Noted _). d.late) c.self.view_is in
    let behind : i.disk ≡ c.args.self.now.disk = ap (λ (d : Noted _). d.disk) c.self.view_is in (
      c.self.invariant.0,
      record {
        clock = omega (arith, went.0, along.clock, ap length is, length-append i.past (Synced ∷ []));
        whole = λ still. ((along.whole still).0, went.1 ∙ (along.whole still).1);
        follows = λ honest.
            let was = c.in_default.ensures.honest honest in
            subst (λ b. Rattle.pfx_disk_chronicle.specs.Chart.Follows g.B.Charted.held g.B.Charted.image g.B.Charted.clock c.extend.new.past b (view c.sync.new.self)) (sym (good ∙ live.1))
            (follows_sync g.B.Charted.held g.B.Charted.image g.B.Charted.clock (view i.disk) (view c.sync.new.self) i.past i.failed (along.follows was) (omega (arith, along.clock, none ∙ live.2)) went.0
            (g.met.D.Disk.only_now c.sync.new.self) c.extend.new.past is (good ∙ live.1) (c.in_default.ensures.leaves was) (c.in_default.ensures.durable was));
      },
    )

pub returns-clause-honest : goal.returns-clause-honest
returns-clause-honest g c = let i = c.self.inside in
    honest_back g.B.Charted.held g.B.Charted.image g.B.Charted.clock g.B.Charted.failures c.args.self.now (record { disk = c.sync.new.self; made = c.extend.new.past; late = i.late; failed = i.failed })

pub returns-clause-leaves : goal.returns-clause-leaves
returns-clause-leaves g c honest =
    let i = c.self.inside in
    let is : c.extend.new.past ≡ i.past ++ Synced ∷ [] = c.if-not-extend.ensures ∙ ap (λ l. l ++ Synced ∷ []) c.again-past.ensures in
    let none : i.late ≡ 0 = ap (λ (d : Noted _). d.late) c.self.view_is ∙ (c.if-not-is_live.ensures.live refl).2 in
    subst (λ d. Leaves Same (noted_view g.B.Charted.held g.B.Charted.image g.B.Charted.clock g.B.Charted.failures d) (noted_view g.B.Charted.held g.B.Charted.image g.B.Charted.clock g.B.Charted.failures (record { disk = c.sync.new.self; made = c.extend.new.past; late = i.late; failed = i.failed }))) c.self.view_is
    (synced g.B.Charted.held g.B.Charted.image g.B.Charted.clock g.B.Charted.failures i.past c.extend.new.past i.late i.late i.failed i.failed honest.here.0 none none is)

pub returns-clause-durable : goal.returns-clause-durable
returns-clause-durable g c _ =
    let i = c.self.inside in
    let is : c.extend.new.past ≡ i.past ++ Synced ∷ [] = c.if-not-extend.ensures ∙ ap (λ l. l ++ Synced ∷ []) c.again-past.ensures in
    let made : i.past ≡ c.args.self.now.made = ap (λ (d : Noted _). d.made) c.self.view_is in
    only_after g.B.Charted.held g.B.Charted.image g.B.Charted.clock g.B.Charted.failures c.args.self.now.made c.extend.new.past i.late i.failed (is ∙ ap (λ l. l ++ Synced ∷ []) made)

use Rattle.std.proofs.Common.{◌≡◌, ◌∙◌, ap, subst, sym, length, arith, refl}
use Rattle.pfx_store_image.specs.NewFile.{new_parts}
use Rattle.pfx_store_image.specs.Recovery.{found}
use Rattle.pfx_store_file.specs.Checkpoints.{is_begun}
use Rattle.pfx_store_file.specs.Sizes.{total_len}
use Rattle.pfx_store_create.specs.Attempts.{IsNoneOrMade}
use Rattle.pfx_store_create.proofs.NewBytes.{some_layout}
use Rattle.pfx_store_create.proofs.Creations.{lengths, whole_is_found}
use Rattle.pfx_store_create.proofs.NewStores.{as_long, are_places, area_gate, segment_gate}
use Rattle.pfx_store_create.proofs.file.create_file.Goals as goal

pub new-requires : goal.new-requires
new-requires g c = record {
  inside = λ now.
      let places = c.new_places-places.result in
      let some = some_layout c.args.head.now c.args.body.now c.args.segment c.requires.limits.room in
      let long : total_len places.sizes ≡ length (g.D.Disk.view c.create.new.disk).contents = as_long some.0 c.args.head.now c.args.body.now c.args.first.now c.args.segment (total_len places.sizes) places.sizes.head places.sizes.body places.sizes.segment (g.D.Disk.view c.create.new.disk).contents c.requires.limits.number some.1
      c.new_places-places.ensures.head c.new_places-places.ensures.body c.new_places-places.ensures.segment_len refl
      ((c.in-Ok.ensures.made (c.create.ensures.attempts.honest.1 now)).written some.0 some.1) in
      omega (arith, long);
}

pub returns-in-Ok-clause-holds : goal.returns-in-Ok-clause-holds
returns-in-Ok-clause-holds g c K h s made honest spelling =
    let has = lengths K h s c.args.head.now c.args.body.now c.args.first.now c.args.segment made in
    let is = (c.in-Ok.ensures.made honest).written (K.layout h) has in
    let places = c.new_places-places.result in
    let contents = (g.D.Disk.view c.create.new.disk).contents in
    c.new.ensures.holds K made.laws h (new_parts s) s (c.create.ensures.attempts.leaves honest (K.layout h) has).honest (c.in-Ok.ensures.made honest).durable
    (ap (found K) is ∙ whole_is_found K h s c.args.head.now c.args.body.now c.args.first.now c.args.segment made)
    (are_places K h s c.args.head.now c.args.body.now c.args.first.now c.args.segment made places c.new_places-places.ensures) (ap is_begun c.new_places-places.ensures.checkpoint)
    (area_gate K h s c.args.head.now c.args.body.now c.args.first.now c.args.segment made places c.new_places-places.ensures contents is)
    (segment_gate K h s c.args.head.now c.args.body.now c.args.first.now c.args.segment made places c.new_places-places.ensures contents is) spelling

pub returns-in-Ok-clause-recovers : goal.returns-in-Ok-clause-recovers
returns-in-Ok-clause-recovers g c K h s made refuses honest =
    let view = g.D.Disk.view in
    subst (λ d. IsNoneOrMade K s (view c.args.disk) (view d)) (sym c.new.ensures.disk) (c.create.ensures.recovers K h s made refuses honest)

use Rattle.std.proofs.Common.{sym, ◌∙◌, arith}
use Rattle.pfx_store_image.specs.NewFile.{new_file}
use Rattle.pfx_store_create.proofs.Creations.{opens, looked_at, begun, synced, opened, ended, attempted, lengths, none_or_made, was_empty, whole_is_recovered, gate_opened}
use Rattle.pfx_store_create.proofs.creation.create.Goals as goal

pub returns-in_err-write_unopened-clause-attempts : goal.returns-in_err-write_unopened-clause-attempts
returns-in_err-write_unopened-clause-attempts g c =
    let view = g.D.Disk.view in
    let a = view c.args.disk.now in
    attempted c.args.head.now c.args.body.now c.args.first.now c.args.segment c.requires.limits.room a (view c.write_unopened.new.disk) (λ is. c.len.ensures.honest (c.write_unopened.ensures.call.honest.1 is))
    (λ honest. omega (arith, c.in_ok-len.ensures.length honest, c.if-branch-ne0.false))
    (λ honest L has.
    let l0 = c.len.ensures.leaves honest in
    begun (new_file L c.args.head.now c.args.body.now c.args.first.now) a (view c.len.new.self) (view c.write_unopened.new.disk) c.len.ensures.time.later l0 (c.write_unopened.ensures.leaves l0.honest))

pub returns-in_err-sync-clause-attempts : goal.returns-in_err-sync-clause-attempts
returns-in_err-sync-clause-attempts g c =
    let view = g.D.Disk.view in
    let a = view c.args.disk.now in
    attempted c.args.head.now c.args.body.now c.args.first.now c.args.segment c.requires.limits.room a (view c.sync.new.self) (λ is. c.len.ensures.honest (c.write_unopened.ensures.call.honest.1 (c.sync.ensures.honest is)))
    (λ honest. omega (arith, c.in_ok-len.ensures.length honest, c.if-branch-ne0.false))
    (λ honest L has.
    let l0 = c.len.ensures.leaves honest in
    let l1 = c.write_unopened.ensures.leaves l0.honest in
    let l2 = c.sync.ensures.leaves l1.honest in
    synced (new_file L c.args.head.now c.args.body.now c.args.first.now) (opens L c.args.head.now c.args.body.now c.args.first.now c.args.segment c.requires.limits.number has c.requires.gate)
    a (view c.len.new.self) (view c.write_unopened.new.disk) (view c.sync.new.self) honest c.len.ensures.time.later c.write_unopened.ensures.call.takes.later c.sync.ensures.time.later l0 l1 l2)

pub returns-in_err-write_at-clause-attempts : goal.returns-in_err-write_at-clause-attempts
returns-in_err-write_at-clause-attempts g c =
    let view = g.D.Disk.view in
    let a = view c.args.disk.now in
    attempted c.args.head.now c.args.body.now c.args.first.now c.args.segment c.requires.limits.room a (view c.write_at.new.self) (λ is. c.len.ensures.honest (c.write_unopened.ensures.call.honest.1 (c.sync.ensures.honest (c.write_at.ensures.honest is))))
    (λ honest. omega (arith, c.in_ok-len.ensures.length honest, c.if-branch-ne0.false))
    (λ honest L has.
    let l0 = c.len.ensures.leaves honest in
    let l1 = c.write_unopened.ensures.leaves l0.honest in
    let l2 = c.sync.ensures.leaves l1.honest in
    opened (new_file L c.args.head.now c.args.body.now c.args.first.now) (opens L c.args.head.now c.args.body.now c.args.first.now c.args.segment c.requires.limits.number has c.requires.gate)
    a (view c.len.new.self) (view c.write_unopened.new.disk) (view c.sync.new.self) honest c.len.ensures.time.later c.write_unopened.ensures.call.takes.later c.sync.ensures.time.later l0 l1 l2
    (view c.write_at.new.self) (λ image now. c.in_ok-sync.ensures.durable l1.honest image now ∙ sym l2.contents) (l2.contents ∙ c.in_ok-write_unopened.ensures.written l0.honest L has) (c.write_at.ensures.leaves l2.honest))

pub returns-in_err-sync-2-clause-attempts : goal.returns-in_err-sync-2-clause-attempts
returns-in_err-sync-2-clause-attempts g c =
    let view = g.D.Disk.view in
    let a = view c.args.disk.now in
    attempted c.args.head.now c.args.body.now c.args.first.now c.args.segment c.requires.limits.room a (view c.sync-2.new.self) (λ is. c.len.ensures.honest (c.write_unopened.ensures.call.honest.1 (c.sync.ensures.honest (c.write_at.ensures.honest (c.sync-2.ensures.honest is)))))
    (λ honest. omega (arith, c.in_ok-len.ensures.length honest, c.if-branch-ne0.false))
    (λ honest L has.
    let l0 = c.len.ensures.leaves honest in
    let l1 = c.write_unopened.ensures.leaves l0.honest in
    let l2 = c.sync.ensures.leaves l1.honest in
    let l3 = c.write_at.ensures.leaves l2.honest in
    ended (new_file L c.args.head.now c.args.body.now c.args.first.now) (opens L c.args.head.now c.args.body.now c.args.first.now c.args.segment c.requires.limits.number has c.requires.gate)
    a (view c.len.new.self) (view c.write_unopened.new.disk) (view c.sync.new.self) honest c.len.ensures.time.later c.write_unopened.ensures.call.takes.later c.sync.ensures.time.later l0 l1 l2
    (view c.write_at.new.self) (λ image now. c.in_ok-sync.ensures.durable l1.honest image now ∙ sym l2.contents) (l2.contents ∙ c.in_ok-write_unopened.ensures.written l0.honest L has) l3
    (view c.sync-2.new.self) c.write_at.ensures.time.later (c.sync-2.ensures.leaves l3.honest))

pub returns-clause-attempts : goal.returns-clause-attempts
returns-clause-attempts g c =
    let view = g.D.Disk.view in
    let a = view c.args.disk.now in
    attempted c.args.head.now c.args.body.now c.args.first.now c.args.segment c.requires.limits.room a (view c.sync-2.new.self) (λ is. c.len.ensures.honest (c.write_unopened.ensures.call.honest.1 (c.sync.ensures.honest (c.write_at.ensures.honest (c.sync-2.ensures.honest is)))))
    (λ honest. omega (arith, c.in_ok-len.ensures.length honest, c.if-branch-ne0.false))
    (λ honest L has.
    let l0 = c.len.ensures.leaves honest in
    let l1 = c.write_unopened.ensures.leaves l0.honest in
    let l2 = c.sync.ensures.leaves l1.honest in
    let l3 = c.write_at.ensures.leaves l2.honest in
    ended (new_file L c.args.head.now c.args.body.now c.args.first.now) (opens L c.args.head.now c.args.body.now c.args.first.now c.args.segment c.requires.limits.number has c.requires.gate)
    a (view c.len.new.self) (view c.write_unopened.new.disk) (view c.sync.new.self) honest c.len.ensures.time.later c.write_unopened.ensures.call.takes.later c.sync.ensures.time.later l0 l1 l2
    (view c.write_at.new.self) (λ image now. c.in_ok-sync.ensures.durable l1.honest image now ∙ sym l2.contents) (l2.contents ∙ c.in_ok-write_unopened.ensures.written l0.honest L has) l3
    (view c.sync-2.new.self) c.write_at.ensures.time.later (c.sync-2.ensures.leaves l3.honest))

pub returns-in_err-len-clause-recovers : goal.returns-in_err-len-clause-recovers
returns-in_err-len-clause-recovers g c K h s made refuses honest =
    let view = g.D.Disk.view in
    let a = view c.args.disk.now in
    none_or_made K h s c.args.head.now c.args.body.now c.args.first.now c.args.segment made refuses a (view c.len.new.self) honest
    (looked_at (new_file (K.layout h) c.args.head.now c.args.body.now c.args.first.now) a (view c.len.new.self) (c.len.ensures.leaves honest))

pub returns-then-branch-ne0-clause-recovers : goal.returns-then-branch-ne0-clause-recovers
returns-then-branch-ne0-clause-recovers g c K h s made refuses honest =
    let view = g.D.Disk.view in
    let a = view c.args.disk.now in
    none_or_made K h s c.args.head.now c.args.body.now c.args.first.now c.args.segment made refuses a (view c.len.new.self) honest
    (looked_at (new_file (K.layout h) c.args.head.now c.args.body.now c.args.first.now) a (view c.len.new.self) (c.len.ensures.leaves honest))

pub returns-in_err-write_unopened-clause-recovers : goal.returns-in_err-write_unopened-clause-recovers
returns-in_err-write_unopened-clause-recovers g c K h s made refuses honest =
    let view = g.D.Disk.view in
    let a = view c.args.disk.now in
    none_or_made K h s c.args.head.now c.args.body.now c.args.first.now c.args.segment made refuses a (view c.write_unopened.new.disk) honest
    ((returns-in_err-write_unopened-clause-attempts g c).leaves honest (K.layout h) (lengths K h s c.args.head.now c.args.body.now c.args.first.now c.args.segment made))

pub returns-in_err-sync-clause-recovers : goal.returns-in_err-sync-clause-recovers
returns-in_err-sync-clause-recovers g c K h s made refuses honest =
    let view = g.D.Disk.view in
    let a = view c.args.disk.now in
    none_or_made K h s c.args.head.now c.args.body.now c.args.first.now c.args.segment made refuses a (view c.sync.new.self) honest
    ((returns-in_err-sync-clause-attempts g c).leaves honest (K.layout h) (lengths K h s c.args.head.now c.args.body.now c.args.first.now c.args.segment made))

pub returns-in_err-write_at-clause-recovers : goal.returns-in_err-write_at-clause-recovers
returns-in_err-write_at-clause-recovers g c K h s made refuses honest =
    let view = g.D.Disk.view in
    let a = view c.args.disk.now in
    none_or_made K h s c.args.head.now c.args.body.now c.args.first.now c.args.segment made refuses a (view c.write_at.new.self) honest
    ((returns-in_err-write_at-clause-attempts g c).leaves honest (K.layout h) (lengths K h s c.args.head.now c.args.body.now c.args.first.now c.args.segment made))

pub returns-in_err-sync-2-clause-recovers : goal.returns-in_err-sync-2-clause-recovers
returns-in_err-sync-2-clause-recovers g c K h s made refuses honest =
    let view = g.D.Disk.view in
    let a = view c.args.disk.now in
    none_or_made K h s c.args.head.now c.args.body.now c.args.first.now c.args.segment made refuses a (view c.sync-2.new.self) honest
    ((returns-in_err-sync-2-clause-attempts g c).leaves honest (K.layout h) (lengths K h s c.args.head.now c.args.body.now c.args.first.now c.args.segment made))

pub returns-clause-recovers : goal.returns-clause-recovers
returns-clause-recovers g c K h s made refuses honest =
    let view = g.D.Disk.view in
    let a = view c.args.disk.now in
    none_or_made K h s c.args.head.now c.args.body.now c.args.first.now c.args.segment made refuses a (view c.sync-2.new.self) honest
    ((returns-clause-attempts g c).leaves honest (K.layout h) (lengths K h s c.args.head.now c.args.body.now c.args.first.now c.args.segment made))

pub returns-clause-acknowledged : goal.returns-clause-acknowledged
returns-clause-acknowledged g c K h s made honest image is =
    let l0 = c.len.ensures.leaves honest in
    let l1 = c.write_unopened.ensures.leaves l0.honest in
    let l2 = c.sync.ensures.leaves l1.honest in
    let l3 = c.write_at.ensures.leaves l2.honest in
    let has = lengths K h s c.args.head.now c.args.body.now c.args.first.now c.args.segment made in
    let file = new_file (K.layout h) c.args.head.now c.args.body.now c.args.first.now in
    whole_is_recovered K h s c.args.head.now c.args.body.now c.args.first.now c.args.segment made image
    (c.in_ok-sync-2.ensures.durable l3.honest image (g.met.D.Disk.only_now c.sync-2.new.self image is)
    ∙ gate_opened file (g.D.Disk.view c.sync.new.self).contents (g.D.Disk.view c.write_at.new.self).contents (opens (K.layout h) c.args.head.now c.args.body.now c.args.first.now c.args.segment c.requires.limits.number has c.requires.gate)
    (l2.contents ∙ c.in_ok-write_unopened.ensures.written l0.honest (K.layout h) has) (c.in_ok-write_at.ensures.written l2.honest))

pub returns-clause-made : goal.returns-clause-made
returns-clause-made g c honest =
    let l0 = c.len.ensures.leaves honest in
    let l1 = c.write_unopened.ensures.leaves l0.honest in
    let l2 = c.sync.ensures.leaves l1.honest in
    let l3 = c.write_at.ensures.leaves l2.honest in
    let l4 = c.sync-2.ensures.leaves l3.honest in
    record {
      empty = was_empty _ _ (c.in_ok-len.ensures.length honest) c.if-branch-ne0.false;
      written = λ L has. l4.contents ∙ gate_opened (new_file L c.args.head.now c.args.body.now c.args.first.now) (g.D.Disk.view c.sync.new.self).contents (g.D.Disk.view c.write_at.new.self).contents
          (opens L c.args.head.now c.args.body.now c.args.first.now c.args.segment c.requires.limits.number has c.requires.gate) (l2.contents ∙ c.in_ok-write_unopened.ensures.written l0.honest L has) (c.in_ok-write_at.ensures.written l2.honest);
      durable = λ image is. c.in_ok-sync-2.ensures.durable l3.honest image is ∙ sym l4.contents;
    }

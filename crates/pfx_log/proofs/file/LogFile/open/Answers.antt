use Rattle.std.proofs.Common.{length, refl, sym, ap, subst, arith}
use Rattle.pfx_log.specs.Holding.{Holds}
use Rattle.pfx_log.proofs.Openings.{inside_of}
use Rattle.pfx_log.proofs.Refusals.{held_none}
use Rattle.pfx_log.proofs.file.LogFile.open.Goals as goal

pub invariant_of-result : goal.invariant_of-result
invariant_of-result g c = record {
  inside = λ now.
      let a = g.D.Disk.view c.args.disk in
      let looks = c.in-Ok.ensures.read.looks in
      let honest = looks.honest now in
      let found = c.in-Ok.ensures.read.exact a.contents (record { honest = honest; contents = refl }) in
      let inside = inside_of a.contents found.0 c.in-Ok.place found.1 found.2.end in
      omega (arith, inside, ap length (looks.leaves honest).contents);
}

pub returns-in-Ok-clause-opened : goal.returns-in-Ok-clause-opened
returns-in-Ok-clause-opened g c honest =
    let a = g.D.Disk.view c.args.disk in
    let found = c.in-Ok.ensures.read.exact a.contents (record { honest = honest; contents = refl }) in (
      found.0,
      found.1,
      record {
        honest = (c.in-Ok.ensures.read.looks.leaves honest).honest;
        images = λ image now. subst (λ x. Holds x found.0) (sym (c.in-Ok.ensures.durable honest image now)) found.1;
        end = found.2.end;
        whole = refl;
      },
    )

pub returns-in-Err-clause-none : goal.returns-in-Err-clause-none
returns-in-Err-clause-none g c honest log holds =
    let a = g.D.Disk.view c.args.disk in
    held_none c.in-Err.fault a.contents log (c.in-Err.ensures.read.exact a.contents (record { honest = honest; contents = refl })) holds

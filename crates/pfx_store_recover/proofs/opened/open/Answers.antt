use Rattle.std.proofs.Common.{◌∙◌, ℕ, List, sym, subst, ap, not}
use Rattle.pfx_store_image.specs.Layout.{area_at, segment_at}
use Rattle.pfx_store_image.specs.Recovery.{found}
use Rattle.pfx_store_file.specs.Files.{AreOf, file_in}
use Rattle.pfx_store_file.specs.Holding.{IsGate}
use Rattle.pfx_store_recover.specs.Finding.{IsFound}
use Rattle.pfx_store_recover.specs.Looking.{IsKept}
use Rattle.pfx_store_recover.specs.declared.outline.Outline.{Outline}
use Rattle.pfx_store_recover.specs.declared.contents.Contents.{Contents}
use Rattle.pfx_store_recover.proofs.Stages.{gate_is, refusal_as}
use Rattle.pfx_store_recover.proofs.opened.open.Goals as goal

pub returns-in-Ok-clause-opened : goal.returns-in-Ok-clause-opened
returns-in-Ok-clause-opened g c honest =
    let K = g.F.Format.codec in
    let h = c.in-Ok.outline.header in
    let places = c.in-Ok.contents.places in
    let of = c.in-Ok.ensures.exact honest in
    let kept = c.in-Ok.ensures.holds.kept honest in
    let p = of.parts in
    let bytes = (g.D.Disk.view c.args.disk).contents in
    record {
      parts = p;
      found = of.found;
      file = subst (λ q. AreOf K (file_in K bytes h p) q) (sym c.new.ensures.places) of.file;
      kept = subst (λ (d : g.row.D.Denot). IsKept bytes (g.D.Disk.view d)) (sym c.new.ensures.disk) kept;
      holds = c.new.ensures.holds K g.met.F.Format.laws h p c.in-Ok.contents.state kept.honest (λ image is. kept.only image is ∙ sym kept.contents)
          (ap (λ (l : List ℕ). found K l) kept.contents ∙ of.found) of.file.are c.in-Ok.ensures.holds.usable.unbegun
          (subst (λ (l : List ℕ). IsGate places.area_open (area_at (K.layout h) (not p.area)) l) (sym kept.contents) (gate_is K h bytes places.area_open _ of.file.area_open))
          (subst (λ (l : List ℕ). IsGate places.segment_open (segment_at (K.layout h) (not p.segment)) l) (sym kept.contents) (gate_is K h bytes places.segment_open _ of.file.segment_open));
      between = of.between;
    }

pub returns-in-Err-clause-refused : goal.returns-in-Err-clause-refused
returns-in-Err-clause-refused g c honest =
    let K = g.F.Format.codec in
    let bytes = (g.D.Disk.view c.args.disk).contents in
    refusal_as K bytes (λ (r : Outline g.row.F.Denot g.row.F-Header.Denot g.row.F-State.Denot g.F.Format × Contents g.row.F.Denot g.row.F-Header.Denot g.row.F-State.Denot). IsFound K r.0.header bytes r.1.places r.1.state r.1.middle)
    c.in-Err.fault (c.in-Err.ensures.exact honest)

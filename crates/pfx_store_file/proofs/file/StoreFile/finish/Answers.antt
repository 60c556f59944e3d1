use Rattle.std.proofs.Common.{rules}
use Rattle.std.proofs.Common.{◌≡◌, ◌∙◌, ap, not, refl}
use Rattle.std.proofs.Common.{ℕ, subst}
use Rattle.pfx_segment.specs.Acts.{open_acts}
use Rattle.pfx_disk.specs.CallsMade.{HasMade, HasBrokenOff, HasKeptTo}
use Rattle.pfx_store_file.specs.Files.{area_of}
use Rattle.pfx_store_image.specs.Layout.{area_at}
use Rattle.pfx_store_file.proofs.Keeping.{finish_inside, finish_stand, finish_keeps, finish_holds}
use Rattle.pfx_store_file.proofs.file.StoreFile.finish.Goals as goal

pub returns-in_err-open_gate-clause-keeps : goal.returns-in_err-open_gate-clause-keeps
returns-in_err-open_gate-clause-keeps g c K laws h p s spelling holds =
    let view = g.D.Disk.view in
    let old = c.args.self.now in
    let at = c.area_at-at.result in
    let at_is : c.area_at-at.result ≡ area_at (K.layout h) (not p.area) = c.area_at-at.ensures.at (K.layout h) holds.fits ∙ ap (λ b. area_at (K.layout h) (not b)) holds.area in
    let done = old.places.sizes.body in
    let begun = holds.begun done c.requires.written in
    let whole : done ≡ (K.layout h).body = holds.fits.body in
    let leaves = c.open_gate.ensures.leaves holds.honest spelling (finish_inside K laws h old.places p s spelling (view old.disk) holds at at_is done begun whole) (finish_stand K laws h old.places p s spelling (view old.disk) holds at at_is done begun whole) in
    record {
      holds = search rules;
      keeps = λ start all run. finish_keeps K laws h old.places p s spelling (view old.disk) holds at at_is done begun whole (view c.open_gate.new.disk) leaves start all run;
    }

pub returns-clause-keeps : goal.returns-clause-keeps
returns-clause-keeps g c K laws h p s spelling holds =
    let view = g.D.Disk.view in
    let old = c.args.self.now in
    let at = c.area_at-at.result in
    let at_is : c.area_at-at.result ≡ area_at (K.layout h) (not p.area) = c.area_at-at.ensures.at (K.layout h) holds.fits ∙ ap (λ b. area_at (K.layout h) (not b)) holds.area in
    let done = old.places.sizes.body in
    let begun = holds.begun done c.requires.written in
    let whole : done ≡ (K.layout h).body = holds.fits.body in
    let leaves = c.open_gate.ensures.leaves holds.honest spelling (finish_inside K laws h old.places p s spelling (view old.disk) holds at at_is done begun whole) (finish_stand K laws h old.places p s spelling (view old.disk) holds at at_is done begun whole) in
    record {
      holds = finish_holds K laws h old.places p s spelling (view old.disk) holds at at_is done begun whole (view c.open_gate.new.disk) leaves (c.in_ok-open_gate.ensures.run.durable holds.honest) (c.in_ok-open_gate.ensures.opened holds.honest) _ holds.fits refl refl refl refl refl refl refl;
      keeps = λ start all run. finish_keeps K laws h old.places p s spelling (view old.disk) holds at at_is done begun whole (view c.open_gate.new.disk) leaves start all run;
    }

pub returns-in_err-open_gate-clause-acts : goal.returns-in_err-open_gate-clause-acts
returns-in_err-open_gate-clause-acts g c K f are honest =
    let view = g.D.Disk.view in
    let a = view c.args.self.now.disk in
    let b = view c.open_gate.new.disk in
    let at_is : c.area_at-at.result ≡ area_of K f = c.area_at-at.ensures.at (K.layout f.head) are.are.fits ∙ ap (λ b. area_at (K.layout f.head) (not b)) are.are.area in
    record {
      made = search rules;
      broken_off = λ is. subst (λ (k : ℕ). HasBrokenOff (open_acts k) a b) at_is (c.in_err-open_gate.ensures.run.makes.broken_off honest refl);
      between = subst (λ (k : ℕ). HasKeptTo (open_acts k) a b) at_is (c.open_gate.ensures.run.makes.between honest);
    }

pub returns-clause-acts : goal.returns-clause-acts
returns-clause-acts g c K f are honest =
    let view = g.D.Disk.view in
    let a = view c.args.self.now.disk in
    let b = view c.open_gate.new.disk in
    let at_is : c.area_at-at.result ≡ area_of K f = c.area_at-at.ensures.at (K.layout f.head) are.are.fits ∙ ap (λ b. area_at (K.layout f.head) (not b)) are.are.area in
    record {
      made = subst (λ (k : ℕ). HasMade (open_acts k) a b) at_is (c.in_ok-open_gate.ensures.run.makes.made honest);
      broken_off = search rules;
      between = subst (λ (k : ℕ). HasKeptTo (open_acts k) a b) at_is (c.open_gate.ensures.run.makes.between honest);
    }

pub returns-clause-file : goal.returns-clause-file
returns-clause-file g c K f are =
    record {
      are = record {
        fits = are.are.fits;
        area = ap not are.are.area;
        segment = are.are.segment;
        turned = refl;
        gate = are.are.gate;
        end = are.are.end;
      };
      area_open = refl;
      segment_open = refl;
      checkpoint = refl;
    }

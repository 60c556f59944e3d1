use Rattle.std.proofs.Common.{rules}
use Rattle.std.proofs.Common.{◌≡◌, ◌∙◌, sym, ap, not, refl}
use Rattle.std.proofs.Common.{ℕ, Bool, subst}
use Rattle.pfx_segment.specs.Acts.{close_acts}
use Rattle.pfx_disk.specs.CallsMade.{HasMade, HasBrokenOff, HasKeptTo}
use Rattle.pfx_store_file.specs.Checkpoints.{in_progress}
use Rattle.pfx_store_file.specs.Files.{area_of}
use Rattle.pfx_store_image.specs.Layout.{area_at}
use Rattle.pfx_store_file.proofs.Keeping.{begin_keeps, begin_holds, begin_shut}
use Rattle.pfx_store_file.proofs.file.StoreFile.begin.Goals as goal

pub returns-in_err-close-clause-keeps : goal.returns-in_err-close-clause-keeps
returns-in_err-close-clause-keeps g c K laws h p s spelling holds start all run =
    let view = g.D.Disk.view in
    let old = c.args.self.now in
    let at_is : c.area_at-at.result ≡ area_at (K.layout h) (not p.area) = c.area_at-at.ensures.at (K.layout h) holds.fits ∙ ap (λ b. area_at (K.layout h) (not b)) holds.area in
    begin_keeps K laws h old.places p s spelling (view old.disk) holds c.area_at-at.result at_is (view c.close.new.disk) (c.close.ensures.leaves holds.honest) start all run

pub returns-clause-keeps : goal.returns-clause-keeps
returns-clause-keeps g c K laws h p s spelling holds start all run =
    let view = g.D.Disk.view in
    let old = c.args.self.now in
    let at_is : c.area_at-at.result ≡ area_at (K.layout h) (not p.area) = c.area_at-at.ensures.at (K.layout h) holds.fits ∙ ap (λ b. area_at (K.layout h) (not b)) holds.area in
    begin_keeps K laws h old.places p s spelling (view old.disk) holds c.area_at-at.result at_is (view c.close.new.disk) (c.close.ensures.leaves holds.honest) start all run

pub returns-clause-holds : goal.returns-clause-holds
returns-clause-holds g c K laws h p s spelling holds code read long =
    let view = g.D.Disk.view in
    let old = c.args.self.now in
    let at_is : c.area_at-at.result ≡ area_at (K.layout h) (not p.area) = c.area_at-at.ensures.at (K.layout h) holds.fits ∙ ap (λ b. area_at (K.layout h) (not b)) holds.area in
    begin_holds K laws h old.places p s spelling (view old.disk) holds c.area_at-at.result at_is (view c.close.new.disk) (c.close.ensures.leaves holds.honest)
    (c.in_ok-close.ensures.run.durable holds.honest) (c.in_ok-close.ensures.closed holds.honest (begin_shut K laws h old.places p s spelling (view old.disk) holds c.area_at-at.result at_is)) code (sym holds.turned ∙ ap in_progress c.requires.pending) read long _
    holds.fits refl refl refl refl refl refl refl

pub returns-in_err-close-clause-acts : goal.returns-in_err-close-clause-acts
returns-in_err-close-clause-acts g c K f are honest =
    let view = g.D.Disk.view in
    let a = view c.args.self.now.disk in
    let b = view c.close.new.disk in
    let at_is : c.area_at-at.result ≡ area_of K f = c.area_at-at.ensures.at (K.layout f.head) are.are.fits ∙ ap (λ b. area_at (K.layout f.head) (not b)) are.are.area in
    record {
      made = search rules;
      broken_off = λ is. subst (λ (k : ℕ). HasBrokenOff (close_acts k f.area_open) a b) at_is (subst (λ (o : Bool). HasBrokenOff (close_acts c.area_at-at.result o) a b) are.area_open (c.in_err-close.ensures.run.makes.broken_off honest refl));
      between = subst (λ (k : ℕ). HasKeptTo (close_acts k f.area_open) a b) at_is (subst (λ (o : Bool). HasKeptTo (close_acts c.area_at-at.result o) a b) are.area_open (c.close.ensures.run.makes.between honest));
    }

pub returns-clause-acts : goal.returns-clause-acts
returns-clause-acts g c K f are honest =
    let view = g.D.Disk.view in
    let a = view c.args.self.now.disk in
    let b = view c.close.new.disk in
    let at_is : c.area_at-at.result ≡ area_of K f = c.area_at-at.ensures.at (K.layout f.head) are.are.fits ∙ ap (λ b. area_at (K.layout f.head) (not b)) are.are.area in
    record {
      made = subst (λ (k : ℕ). HasMade (close_acts k f.area_open) a b) at_is (subst (λ (o : Bool). HasMade (close_acts c.area_at-at.result o) a b) are.area_open (c.in_ok-close.ensures.run.makes.made honest));
      broken_off = search rules;
      between = subst (λ (k : ℕ). HasKeptTo (close_acts k f.area_open) a b) at_is (subst (λ (o : Bool). HasKeptTo (close_acts c.area_at-at.result o) a b) are.area_open (c.close.ensures.run.makes.between honest));
    }

pub returns-clause-file : goal.returns-clause-file
returns-clause-file g c K f are =
    record {
      are = record {
        fits = are.are.fits;
        area = are.are.area;
        segment = are.are.segment;
        turned = sym (ap in_progress c.requires.pending) ∙ are.are.turned;
        gate = are.are.gate;
        end = are.are.end;
      };
      area_open = refl;
      segment_open = are.segment_open;
      checkpoint = refl;
    }

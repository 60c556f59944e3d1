use Rattle.std.proofs.Common.{rules}
use Rattle.std.proofs.Common.{◌≡◌, ◌∙◌, ap, not, refl}
use Rattle.std.proofs.Common.{ℕ, Bool, ◌++◌, inl, subst, arith}
use Rattle.pfx_segment.specs.Acts.{close_acts, put_acts}
use Rattle.pfx_disk.specs.CallsMade.{HasMade, HasBrokenOff, HasKeptTo}
use Rattle.pfx_store_file.specs.Files.{segment_of}
use Rattle.pfx_store_image.specs.Layout.{segment_at}
use Rattle.pfx_store_file.proofs.Keeping.{keeps_still, has_frames, turn_known, turn_keeps, turn_holds}
use Rattle.pfx_store_file.proofs.file.StoreFile.turn.Goals as goal

pub returns-then-self-clause-keeps : goal.returns-then-self-clause-keeps
returns-then-self-clause-keeps g c K laws h p s spelling holds begins next =
    record {
      holds = search rules;
      keeps = λ start all run. keeps_still K laws h (g.D.Disk.view c.args.self.now.disk) start all;
    }

pub returns-in_err-prepare-clause-keeps : goal.returns-in_err-prepare-clause-keeps
returns-in_err-prepare-clause-keeps g c K laws h p s spelling holds begins next =
    let view = g.D.Disk.view in
    let old = c.args.self.now in
    let at = c.segment_at-at.result in
    let at_is : c.segment_at-at.result ≡ segment_at (K.layout h) (not p.segment) = c.segment_at-at.ensures.at (K.layout h) holds.fits ∙ ap (λ b. segment_at (K.layout h) (not b)) holds.segment in
    let some = has_frames K laws h old.places p s spelling (view old.disk) holds c.requires.lawful.1 in
    let leaves = c.prepare.ensures.leaves holds.honest (turn_known K laws h old.places p s spelling (view old.disk) holds at at_is c.requires.lawful.0 c.args.start.now begins.long begins.number begins.closed some) in
    record {
      holds = search rules;
      keeps = λ start all run. turn_keeps K laws h old.places p s spelling (view old.disk) holds at at_is c.requires.lawful.0 c.args.start.now begins.long begins.number begins.closed some (view c.prepare.new.disk) leaves start all run;
    }

pub returns-clause-keeps : goal.returns-clause-keeps
returns-clause-keeps g c K laws h p s spelling holds begins next =
    let view = g.D.Disk.view in
    let old = c.args.self.now in
    let at = c.segment_at-at.result in
    let at_is : c.segment_at-at.result ≡ segment_at (K.layout h) (not p.segment) = c.segment_at-at.ensures.at (K.layout h) holds.fits ∙ ap (λ b. segment_at (K.layout h) (not b)) holds.segment in
    let some = has_frames K laws h old.places p s spelling (view old.disk) holds c.requires.lawful.1 in
    let leaves = c.prepare.ensures.leaves holds.honest (turn_known K laws h old.places p s spelling (view old.disk) holds at at_is c.requires.lawful.0 c.args.start.now begins.long begins.number begins.closed some) in
    record {
      holds = turn_holds K laws h old.places p s spelling (view old.disk) holds at at_is c.requires.lawful.0 c.args.start.now begins.long begins.number begins.closed some next (view c.prepare.new.disk) leaves (c.in_ok-prepare.ensures.run.durable holds.honest) (c.in_ok-prepare.ensures.stands holds.honest) _ holds.fits refl refl refl refl refl refl;
      keeps = λ start all run. turn_keeps K laws h old.places p s spelling (view old.disk) holds at at_is c.requires.lawful.0 c.args.start.now begins.long begins.number begins.closed some (view c.prepare.new.disk) leaves start all run;
    }

pub returns-then-self-clause-acts : goal.returns-then-self-clause-acts
returns-then-self-clause-acts g c K f are honest =
    record {
      made = search rules;
      broken_off = search rules;
      between = λ start done follows k image le is. inl is;
    }

pub returns-in_err-prepare-clause-acts : goal.returns-in_err-prepare-clause-acts
returns-in_err-prepare-clause-acts g c K f are honest =
    let view = g.D.Disk.view in
    let a = view c.args.self.now.disk in
    let b = view c.prepare.new.disk in
    let at_is : c.segment_at-at.result ≡ segment_of K f = c.segment_at-at.ensures.at (K.layout f.head) are.are.fits ∙ ap (λ b. segment_at (K.layout f.head) (not b)) are.are.segment in
    record {
      made = search rules;
      broken_off = λ is. subst (λ (k : ℕ). HasBrokenOff (close_acts k f.segment_open ++ put_acts k c.args.start.now) a b) at_is (subst (λ (o : Bool). HasBrokenOff (close_acts c.segment_at-at.result o ++ put_acts c.segment_at-at.result c.args.start.now) a b) are.segment_open (c.in_err-prepare.ensures.run.makes.broken_off honest refl));
      between = subst (λ (k : ℕ). HasKeptTo (close_acts k f.segment_open ++ put_acts k c.args.start.now) a b) at_is (subst (λ (o : Bool). HasKeptTo (close_acts c.segment_at-at.result o ++ put_acts c.segment_at-at.result c.args.start.now) a b) are.segment_open (c.prepare.ensures.run.makes.between honest));
    }

pub returns-clause-acts : goal.returns-clause-acts
returns-clause-acts g c K f are honest =
    let view = g.D.Disk.view in
    let a = view c.args.self.now.disk in
    let b = view c.prepare.new.disk in
    let at_is : c.segment_at-at.result ≡ segment_of K f = c.segment_at-at.ensures.at (K.layout f.head) are.are.fits ∙ ap (λ b. segment_at (K.layout f.head) (not b)) are.are.segment in
    record {
      made = subst (λ (k : ℕ). HasMade (close_acts k f.segment_open ++ put_acts k c.args.start.now) a b) at_is (subst (λ (o : Bool). HasMade (close_acts c.segment_at-at.result o ++ put_acts c.segment_at-at.result c.args.start.now) a b) are.segment_open (c.in_ok-prepare.ensures.run.makes.made honest));
      broken_off = search rules;
      between = subst (λ (k : ℕ). HasKeptTo (close_acts k f.segment_open ++ put_acts k c.args.start.now) a b) at_is (subst (λ (o : Bool). HasKeptTo (close_acts c.segment_at-at.result o ++ put_acts c.segment_at-at.result c.args.start.now) a b) are.segment_open (c.prepare.ensures.run.makes.between honest));
    }

pub returns-clause-file : goal.returns-clause-file
returns-clause-file g c K f are s =
    let at_is : c.segment_at-at.result ≡ segment_of K f = c.segment_at-at.ensures.at (K.layout f.head) are.are.fits ∙ ap (λ b. segment_at (K.layout f.head) (not b)) are.are.segment in
    record {
      are = record {
        fits = are.are.fits;
        area = are.are.area;
        segment = ap not are.are.segment;
        turned = refl;
        gate = omega (arith, at_is);
        end = omega (arith, at_is, are.are.fits.segment);
      };
      area_open = are.area_open;
      segment_open = are.segment_open;
      checkpoint = refl;
    }

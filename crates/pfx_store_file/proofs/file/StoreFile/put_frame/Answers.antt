use Rattle.std.proofs.Common.{rules}
use Rattle.std.proofs.Common.{ℕ, refl, subst, arith}
use Rattle.pfx_segment.specs.Acts.{put_acts}
use Rattle.pfx_disk.specs.CallsMade.{HasMade, HasBrokenOff, HasKeptTo}
use Rattle.pfx_segment.proofs.FrameLemmas.{size-push}
use Rattle.pfx_store_file.proofs.Calling.{works_failed}
use Rattle.pfx_store_file.proofs.Keeping.{append_keeps, append_holds, append_acknowledged}
use Rattle.pfx_store_file.proofs.file.StoreFile.put_frame.Goals as goal

pub returns-in_err-put_behind-clause-commits : goal.returns-in_err-put_behind-clause-commits
returns-in_err-put_behind-clause-commits g c K laws h p s spelling holds body t pending one =
    let view = g.D.Disk.view in
    let old = c.args.self.now in
    record {
      holds = search rules;
      keeps = λ start all run. append_keeps K laws h old.places p s spelling (view old.disk) holds c.args.frame.now body t pending one (omega arith) (view c.put_behind.new.disk) (c.put_behind.ensures.leaves holds.honest) start all run;
      acknowledged = search rules;
    }

pub returns-clause-commits : goal.returns-clause-commits
returns-clause-commits g c K laws h p s spelling holds body t pending one =
    let view = g.D.Disk.view in
    let old = c.args.self.now in
    record {
      holds = append_holds K laws h old.places p s spelling (view old.disk) holds c.args.frame.now body t pending one (omega arith) (view c.put_behind.new.disk) (c.put_behind.ensures.leaves holds.honest) (c.in_ok-put_behind.ensures.run.durable holds.honest) (c.in_ok-put_behind.ensures.written holds.honest) _ holds.fits refl refl refl refl refl refl refl;
      keeps = λ start all run. append_keeps K laws h old.places p s spelling (view old.disk) holds c.args.frame.now body t pending one (omega arith) (view c.put_behind.new.disk) (c.put_behind.ensures.leaves holds.honest) start all run;
      acknowledged = λ start all run. append_acknowledged K laws h old.places p s spelling (view old.disk) holds c.args.frame.now body t pending one (omega arith) (view c.put_behind.new.disk) (c.put_behind.ensures.leaves holds.honest) (c.in_ok-put_behind.ensures.run.durable holds.honest) (c.in_ok-put_behind.ensures.written holds.honest) (g.met.D.Disk.only_now c.put_behind.new.disk) start all run;
    }

pub returns-in_err-put_behind-clause-acts : goal.returns-in_err-put_behind-clause-acts
returns-in_err-put_behind-clause-acts g c K f are honest =
    let view = g.D.Disk.view in
    let a = view c.args.self.now.disk in
    let b = view c.put_behind.new.disk in
    record {
      made = search rules;
      broken_off = λ is. subst (λ (k : ℕ). HasBrokenOff (put_acts k c.args.frame.now) a b) are.are.gate (c.in_err-put_behind.ensures.run.makes.broken_off honest refl);
      between = subst (λ (k : ℕ). HasKeptTo (put_acts k c.args.frame.now) a b) are.are.gate (c.put_behind.ensures.run.makes.between honest);
    }

pub returns-clause-acts : goal.returns-clause-acts
returns-clause-acts g c K f are honest =
    let view = g.D.Disk.view in
    let a = view c.args.self.now.disk in
    let b = view c.put_behind.new.disk in
    record {
      made = subst (λ (k : ℕ). HasMade (put_acts k c.args.frame.now) a b) are.are.gate (c.in_ok-put_behind.ensures.run.makes.made honest);
      broken_off = search rules;
      between = subst (λ (k : ℕ). HasKeptTo (put_acts k c.args.frame.now) a b) are.are.gate (c.put_behind.ensures.run.makes.between honest);
    }

pub returns-clause-file : goal.returns-clause-file
returns-clause-file g c K f are next long =
    record {
      are = record {
        fits = are.are.fits;
        area = are.are.area;
        segment = are.are.segment;
        turned = are.are.turned;
        gate = omega (arith, are.are.gate, long, size-push f.parts.frames next);
        end = are.are.end;
      };
      area_open = are.area_open;
      segment_open = are.segment_open;
      checkpoint = are.checkpoint;
    }

pub returns-in_err-put_behind-clause-call : goal.returns-in_err-put_behind-clause-call
returns-in_err-put_behind-clause-call g c = record {
  works = works_failed _ _ c.args.self.now.broken c.from_residual.result c.requires.whole (c.in_err-put_behind.ensures.run.call.failed refl) c.from_residual.ensures.1;
  takes = search rules;
  honest = c.put_behind.ensures.run.call.honest;
  roomy = search rules;
  broken = search rules;
  parts = search rules;
}

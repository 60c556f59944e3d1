use Rattle.std.proofs.Common.{◌∙◌, ap, sym, subst, rules}
use Rattle.pfx_store_file.specs.Checkpoints.{in_progress}
use Rattle.pfx_store_file.specs.Holding.{Holds}
use Rattle.pfx_store_file.specs.declared.faults.StoreFault.TheVariants.{Broken, NoRoom}
use Rattle.pfx_store_file.proofs.Calling.{works_handed, fault_back}
use Rattle.pfx_store_file.proofs.Keeping.{still_on, has_ended}
use Rattle.pfx_store_file.proofs.file.StoreFile.tend.Goals as goal

pub returns-in_err-begin-in-Pending-clause-keeps : goal.returns-in_err-begin-in-Pending-clause-keeps
returns-in_err-begin-in-Pending-clause-keeps g c K laws h p s holds reads =
    record {
      holds = search rules;
      keeps = c.begin.ensures.keeps K laws h p s c.args.spelling.now holds;
    }

pub returns-in_ok-begin-in-Pending-clause-keeps : goal.returns-in_ok-begin-in-Pending-clause-keeps
returns-in_ok-begin-in-Pending-clause-keeps g c K laws h p s holds reads =
    let then = c.begin.new.self in
    let spelling = c.args.spelling.now in
    record {
      holds = subst (λ q. Holds K h then.places q s spelling (g.D.Disk.view then.disk)) (sym (still_on (in_progress then.places.checkpoint) p (ap in_progress c.in_ok-begin-in-Pending.ensures.step.moved)))
          (c.in_ok-begin-in-Pending.ensures.holds K laws h p s spelling holds spelling (reads (sym holds.turned ∙ ap in_progress c.in-Pending.is)) (c.requires.long ∙ holds.fits.body));
      keeps = c.begin.ensures.keeps K laws h p s spelling holds;
    }

pub returns-in_err-write_piece-in-Writing-clause-keeps : goal.returns-in_err-write_piece-in-Writing-clause-keeps
returns-in_err-write_piece-in-Writing-clause-keeps g c K laws h p s holds reads =
    record {
      holds = search rules;
      keeps = (c.write_piece.ensures.keeps K laws h p s holds).keeps;
    }

pub returns-then-done-self-clause-keeps : goal.returns-then-done-self-clause-keeps
returns-then-done-self-clause-keeps g c K laws h p s holds reads =
    let then = c.write_piece.new.self in
    record {
      holds = subst (λ q. Holds K h then.places q s c.args.spelling.now (g.D.Disk.view then.disk)) (sym (still_on (in_progress then.places.checkpoint) p (ap in_progress c.in_ok-write_piece-in-Writing.ensures.step.moved)))
          (c.in_ok-write_piece-in-Writing.ensures.keeps K laws h p s holds).holds;
      keeps = (c.write_piece.ensures.keeps K laws h p s holds).keeps;
    }

pub returns-in_err-finish-in-Writing-clause-keeps : goal.returns-in_err-finish-in-Writing-clause-keeps
returns-in_err-finish-in-Writing-clause-keeps g c K laws h p s holds reads =
    record {
      holds = search rules;
      keeps = (c.finish.ensures.keeps K laws h p s c.args.spelling.now holds).keeps;
    }

pub returns-in_ok-finish-in-Writing-clause-keeps : goal.returns-in_ok-finish-in-Writing-clause-keeps
returns-in_ok-finish-in-Writing-clause-keeps g c K laws h p s holds reads =
    let then = c.finish.new.self in
    record {
      holds = subst (λ q. Holds K h then.places q s c.args.spelling.now (g.D.Disk.view then.disk)) (sym (has_ended (in_progress then.places.checkpoint) p (ap in_progress c.in_ok-finish-in-Writing.ensures.step.moved) (sym holds.turned ∙ ap in_progress c.in-Writing.is)))
          (c.in_ok-finish-in-Writing.ensures.keeps K laws h p s c.args.spelling.now holds).holds;
      keeps = (c.finish.ensures.keeps K laws h p s c.args.spelling.now holds).keeps;
    }

pub returns-in_err-begin-in-Pending-clause-call : goal.returns-in_err-begin-in-Pending-clause-call
returns-in_err-begin-in-Pending-clause-call g c = record {
  works = works_handed _ _ _ _ c.begin.result c.from_residual.result _ (c.in_err-begin-in-Pending.was) c.from_residual.ensures.1 c.begin.ensures.call.works;
  takes = search rules;
  honest = c.begin.ensures.call.honest;
  roomy = λ is. c.begin.ensures.call.roomy (fault_back _ c.begin.result _ NoRoom (c.in_err-begin-in-Pending.was) c.from_residual.ensures.1 is);
  broken = λ is. c.begin.ensures.call.broken (fault_back _ c.begin.result _ Broken (c.in_err-begin-in-Pending.was) c.from_residual.ensures.1 is);
  parts = c.begin.ensures.call.parts;
}

pub returns-in_err-write_piece-in-Writing-clause-call : goal.returns-in_err-write_piece-in-Writing-clause-call
returns-in_err-write_piece-in-Writing-clause-call g c =
    let result = c.from_residual-in_err-write_piece-in-Writing.result in
    let handed = c.from_residual-in_err-write_piece-in-Writing.ensures.1 in
    record {
      works = works_handed _ _ _ _ c.write_piece.result result _ (c.in_err-write_piece-in-Writing.was) handed c.write_piece.ensures.call.works;
      takes = search rules;
      honest = c.write_piece.ensures.call.honest;
      roomy = λ is. c.write_piece.ensures.call.roomy (fault_back _ c.write_piece.result _ NoRoom (c.in_err-write_piece-in-Writing.was) handed is);
      broken = λ is. c.write_piece.ensures.call.broken (fault_back _ c.write_piece.result _ Broken (c.in_err-write_piece-in-Writing.was) handed is);
      parts = c.write_piece.ensures.call.parts;
    }

pub returns-then-done-self-clause-acts : goal.returns-then-done-self-clause-acts
returns-then-done-self-clause-acts g c K f are honest = record {
  made = search rules;
  broken_off = search rules;
  between = search rules;
}

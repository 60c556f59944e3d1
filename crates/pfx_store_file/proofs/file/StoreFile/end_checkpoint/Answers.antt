use Rattle.std.proofs.Common.{◌∙◌, rules, subst, sym}
use Rattle.pfx_store_file.specs.Checkpoints.{in_progress}
use Rattle.pfx_store_file.specs.Holding.{Holds}
use Rattle.pfx_store_file.proofs.Keeping.{keeps_then, still_on, has_settled}
use Rattle.pfx_store_file.specs.Acts.{stepped_file}
use Rattle.pfx_store_file.proofs.Calling.{fault_back}
use Rattle.pfx_store_file.specs.declared.faults.StoreFault.TheVariants.{Device}
use Rattle.pfx_store_file.proofs.Ends.{walked_none, walked_on, walked_broken, walked_within, all_made, all_within, all_file}
use Rattle.pfx_store_file.proofs.file.StoreFile.end_checkpoint.Goals as goal

pub steps-preserved : goal.steps-preserved
steps-preserved g c =
    let view = g.D.Disk.view in
    let inv = c.steps.invariant in
    record {
      whole = search rules;
      long = search rules;
      goes = search rules;
      spent = search rules;
      worked = search rules;
      honest = (λ was. c.tend.ensures.call.honest.0 (inv.honest.0 was), λ is. inv.honest.1 (c.tend.ensures.call.honest.1 is));
      parts = search rules;
      stays = search rules;
      holds = λ K laws h p s holds reads.
          let now = subst (λ q. Holds K h c.steps.self.places q s c.args.spelling.now (view c.steps.self.disk)) (still_on (in_progress c.steps.self.places.checkpoint) p (sym c.in_progress-in-steps.ensures ∙ c.steps-test.true)) (inv.holds K laws h p s holds reads) in
          (c.in_ok-_tended.ensures.keeps K laws h p s now reads).holds;
      walked = λ K f are honest.
          let w = inv.walked K f are honest in
          let file = stepped_file K w.n f in
          walked_on K f c.args.spelling.now c.steps.self.places (view c.args.self.now.disk) (view c.steps.self.disk) (view c.tend.new.self.disk) inv.goes.later w c.tend.new.self.places
          (c.in_ok-_tended.ensures.file K file w.are) (c.in_ok-_tended.ensures.acts K file w.are (inv.honest.0 honest)).made (c.tend.ensures.acts K file w.are (inv.honest.0 honest)).between;
      keeps = λ K laws h p s holds reads start all run.
          let now = subst (λ q. Holds K h c.steps.self.places q s c.args.spelling.now (view c.steps.self.disk)) (still_on (in_progress c.steps.self.places.checkpoint) p (sym c.in_progress-in-steps.ensures ∙ c.steps-test.true)) (inv.holds K laws h p s holds reads) in
          keeps_then K start all all all (view c.args.self.now.disk) (view c.steps.self.disk) (view c.tend.new.self.disk) inv.goes.later
          (inv.keeps K laws h p s holds reads start all run) ((c.tend.ensures.keeps K laws h p s now reads).keeps start all run);
    }

pub returns-in_err-_tended-clause-keeps : goal.returns-in_err-_tended-clause-keeps
returns-in_err-_tended-clause-keeps g c K laws h p s holds reads =
    let view = g.D.Disk.view in
    let inv = c.steps.invariant in
    let now = subst (λ q. Holds K h c.steps.self.places q s c.args.spelling.now (view c.steps.self.disk)) (still_on (in_progress c.steps.self.places.checkpoint) p (sym c.in_progress-in-steps.ensures ∙ c.steps-test.true)) (inv.holds K laws h p s holds reads) in
    record {
      holds = search rules;
      keeps = λ start all run. keeps_then K start all all all (view c.args.self.now.disk) (view c.steps.self.disk) (view c.tend.new.self.disk) inv.goes.later (inv.keeps K laws h p s holds reads start all run) ((c.tend.ensures.keeps K laws h p s now reads).keeps start all run);
    }

pub returns-clause-keeps : goal.returns-clause-keeps
returns-clause-keeps g c K laws h p s holds reads =
    let inv = c.steps.invariant in
    record {
      holds = subst (λ q. Holds K h c.steps.self.places q s c.args.spelling.now (g.D.Disk.view c.steps.self.disk)) (has_settled (in_progress c.steps.self.places.checkpoint) p (sym c.in_progress-in-steps.ensures ∙ c.steps-test.false)) (c.steps.invariant.holds K laws h p s holds reads);
      keeps = inv.keeps K laws h p s holds reads;
    }

pub returns-in_err-_tended-clause-acts : goal.returns-in_err-_tended-clause-acts
returns-in_err-_tended-clause-acts g c K f are honest =
    let view = g.D.Disk.view in
    let inv = c.steps.invariant in
    let w = inv.walked K f are honest in
    let file = stepped_file K w.n f in
    let spelling = c.args.spelling.now in
    let a = view c.args.self.now.disk in
    let b = view c.steps.self.disk in
    record {
      made = search rules;
      broken_off = λ is. walked_broken K f spelling c.steps.self.places a b (view c.tend.new.self.disk) inv.goes.later w (sym c.in_progress-in-steps.ensures ∙ c.steps-test.true) ((c.tend.ensures.acts K file w.are (inv.honest.0 honest)).broken_off (fault_back _ c.tend.result _ Device (c.in_err-_tended.was) c.from_residual.ensures.1 is));
      between = walked_within K f spelling c.steps.self.places a b (view c.tend.new.self.disk) inv.goes.later w (sym c.in_progress-in-steps.ensures ∙ c.steps-test.true) ((c.tend.ensures.acts K file w.are (inv.honest.0 honest)).between);
    }

pub returns-clause-acts : goal.returns-clause-acts
returns-clause-acts g c K f are honest =
    let view = g.D.Disk.view in
    let inv = c.steps.invariant in
    let w = inv.walked K f are honest in
    let file = stepped_file K w.n f in
    let spelling = c.args.spelling.now in
    let a = view c.args.self.now.disk in
    let b = view c.steps.self.disk in
    record {
      made = all_made K f spelling c.steps.self.places a b (sym c.in_progress-in-steps.ensures ∙ c.steps-test.false) w;
      broken_off = search rules;
      between = all_within K f spelling c.steps.self.places a b (sym c.in_progress-in-steps.ensures ∙ c.steps-test.false) w;
    }

pub returns-then-not-in_progress-clause-acts : goal.returns-then-not-in_progress-clause-acts
returns-then-not-in_progress-clause-acts g c K f are honest =
    let a = g.D.Disk.view c.args.self.now.disk in
    let places = c.args.self.now.places in
    record {
      made = all_made K f c.args.spelling.now places a a (sym c.in_progress.ensures ∙ c.if-not-in_progress.true) (walked_none K f c.args.spelling.now places a are);
      broken_off = search rules;
      between = search rules;
    }

pub returns-clause-file : goal.returns-clause-file
returns-clause-file g c K f are honest =
    let view = g.D.Disk.view in
    let inv = c.steps.invariant in
    let w = inv.walked K f are honest in
    let file = stepped_file K w.n f in
    let spelling = c.args.spelling.now in
    let a = view c.args.self.now.disk in
    let b = view c.steps.self.disk in
    all_file K f spelling c.steps.self.places a b (sym c.in_progress-in-steps.ensures ∙ c.steps-test.false) w

pub returns-then-not-in_progress-clause-file : goal.returns-then-not-in_progress-clause-file
returns-then-not-in_progress-clause-file g c K f are honest =
    let a = g.D.Disk.view c.args.self.now.disk in
    let places = c.args.self.now.places in
    all_file K f c.args.spelling.now places a a (sym c.in_progress.ensures ∙ c.if-not-in_progress.true) (walked_none K f c.args.spelling.now places a are)

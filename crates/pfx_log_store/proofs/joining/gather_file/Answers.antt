use Rattle.std.proofs.Common.{◌≡◌, ◌∙◌, rules, true, false}
use Rattle.pfx_store_format.specs.Format.{layout}
use Rattle.pfx_store_file.specs.Checkpoints.{in_progress}
use Rattle.pfx_log_store.specs.Joining.{gathering}
use Rattle.pfx_log_store.proofs.Gathering.{handed, same_bytes}
use Rattle.pfx_log_store.proofs.Reading.{are_first, are_two, first, gathers_first, gathers_two, match_map, next, next_two, number, one_done, small, two_done}
use Rattle.pfx_log_store.proofs.joining.gather_file.Goals as goal

pub returns-in_err-number-clause-exact : goal.returns-in_err-number-clause-exact
returns-in_err-number-clause-exact g c honest h p s found are =
    let start = g.D.Disk.view c.args.disk.now in
    let x = start.contents in
    let at_is = c.segment_at-at.ensures.at (layout h) are.fits in
    handed _ c.from_residual.result _ c.from_residual.ensures.1 (c.in_err-number.ensures.exact honest p.base.number (small g.J.Job.kind g.met.J.Job.laws h p s x found c.args.places are c.first_segment.result c.first_segment.ensures c.segment_at-at.result at_is) (number g.J.Job.kind g.met.J.Job.laws h p s x found c.args.places are c.first_segment.result c.first_segment.ensures c.segment_at-at.result at_is))

pub returns-in_err-before-clause-exact : goal.returns-in_err-before-clause-exact
returns-in_err-before-clause-exact g c honest h p s found are =
    let start = g.D.Disk.view c.args.disk.now in
    let x = start.contents in
    let at_is = c.segment_at-at.ensures.at (layout h) are.fits in
    let now = same_bytes start (g.D.Disk.view c.number_before.new.disk) c.number_before.ensures.call.looks honest in
    let n_is = c.in_ok-number.ensures.exact honest p.base.number (small g.J.Job.kind g.met.J.Job.laws h p s x found c.args.places are c.first_segment.result c.first_segment.ensures c.segment_at-at.result at_is) (number g.J.Job.kind g.met.J.Job.laws h p s x found c.args.places are c.first_segment.result c.first_segment.ensures c.segment_at-at.result at_is) in
    let frames = (first g.J.Job.kind g.met.J.Job.laws h p s x found c.args.places are c.first_segment.result c.first_segment.ensures c.segment_at-at.result at_is).frames in
    let stand = are_first g.J.Job.kind g.met.J.Job.laws h p s x found c.args.places are c.first_segment.result c.first_segment.ensures c.segment_at-at.result at_is (g.D.Disk.view c.number_before.new.disk).contents now.1 in
    let gathers = gathers_first g.J.Job.kind g.met.J.Job.laws h p s x found c.args.places are c.first_segment.result c.first_segment.ensures c.segment_at-at.result at_is c.args.last c.new.result.items c.in_ok-number.number c.new.ensures.items n_is in
    handed _ c.from_residual-in_err-before.result _ c.from_residual-in_err-before.ensures.1
    (c.in_err-before.ensures.exact now.0 frames (next g.J.Job.kind g.met.J.Job.laws h p s x found c.args.places are c.first_segment.result c.first_segment.ensures c.segment_at-at.result at_is c.args.last) stand gathers)

pub returns-then-not-in_progress-clause-exact : goal.returns-then-not-in_progress-clause-exact
returns-then-not-in_progress-clause-exact g c honest h p s found are =
    let start = g.D.Disk.view c.args.disk.now in
    let x = start.contents in
    let at_is = c.segment_at-at.ensures.at (layout h) are.fits in
    let now = same_bytes start (g.D.Disk.view c.number_before.new.disk) c.number_before.ensures.call.looks honest in
    let n_is = c.in_ok-number.ensures.exact honest p.base.number (small g.J.Job.kind g.met.J.Job.laws h p s x found c.args.places are c.first_segment.result c.first_segment.ensures c.segment_at-at.result at_is) (number g.J.Job.kind g.met.J.Job.laws h p s x found c.args.places are c.first_segment.result c.first_segment.ensures c.segment_at-at.result at_is) in
    let frames = (first g.J.Job.kind g.met.J.Job.laws h p s x found c.args.places are c.first_segment.result c.first_segment.ensures c.segment_at-at.result at_is).frames in
    let stand = are_first g.J.Job.kind g.met.J.Job.laws h p s x found c.args.places are c.first_segment.result c.first_segment.ensures c.segment_at-at.result at_is (g.D.Disk.view c.number_before.new.disk).contents now.1 in
    let gathers = gathers_first g.J.Job.kind g.met.J.Job.laws h p s x found c.args.places are c.first_segment.result c.first_segment.ensures c.segment_at-at.result at_is c.args.last c.new.result.items c.in_ok-number.number c.new.ensures.items n_is in
    let single : in_progress c.args.places.checkpoint ≡ false = search rules in
    one_done g.J.Job.kind g.met.J.Job.laws h p s x found c.args.places are c.first_segment.result c.first_segment.ensures c.segment_at-at.result at_is c.args.last (gathering c.in_ok-before.before)
    (c.in_ok-before.ensures.exact now.0 frames (next g.J.Job.kind g.met.J.Job.laws h p s x found c.args.places are c.first_segment.result c.first_segment.ensures c.segment_at-at.result at_is c.args.last) stand gathers) single

pub returns-clause-exact : goal.returns-clause-exact
returns-clause-exact g c honest h p s found are =
    let start = g.D.Disk.view c.args.disk.now in
    let x = start.contents in
    let at_is = c.segment_at-at.ensures.at (layout h) are.fits in
    let now = same_bytes start (g.D.Disk.view c.number_before.new.disk) c.number_before.ensures.call.looks honest in
    let n_is = c.in_ok-number.ensures.exact honest p.base.number (small g.J.Job.kind g.met.J.Job.laws h p s x found c.args.places are c.first_segment.result c.first_segment.ensures c.segment_at-at.result at_is) (number g.J.Job.kind g.met.J.Job.laws h p s x found c.args.places are c.first_segment.result c.first_segment.ensures c.segment_at-at.result at_is) in
    let frames = (first g.J.Job.kind g.met.J.Job.laws h p s x found c.args.places are c.first_segment.result c.first_segment.ensures c.segment_at-at.result at_is).frames in
    let stand = are_first g.J.Job.kind g.met.J.Job.laws h p s x found c.args.places are c.first_segment.result c.first_segment.ensures c.segment_at-at.result at_is (g.D.Disk.view c.number_before.new.disk).contents now.1 in
    let gathers = gathers_first g.J.Job.kind g.met.J.Job.laws h p s x found c.args.places are c.first_segment.result c.first_segment.ensures c.segment_at-at.result at_is c.args.last c.new.result.items c.in_ok-number.number c.new.ensures.items n_is in
    let double : in_progress c.args.places.checkpoint ≡ true = search rules in
    let so_far = gathering c.in_ok-before.before in
    let reached = c.in_ok-before.ensures.exact now.0 frames (next g.J.Job.kind g.met.J.Job.laws h p s x found c.args.places are c.first_segment.result c.first_segment.ensures c.segment_at-at.result at_is c.args.last) stand gathers in
    let later = same_bytes (g.D.Disk.view c.number_before.new.disk) (g.D.Disk.view c.gather.new.disk) c.gather.ensures.call.looks now.0 in
    let last_at = c.segment_at-at-2.ensures.at (layout h) are.fits in
    match_map _ _ _ c.gather-2.result (λ end same. two_done g.J.Job.kind g.met.J.Job.laws h p s x found c.args.places are c.first_segment.result c.first_segment.ensures c.segment_at-at.result at_is c.args.last so_far reached double (gathering end) same)
    (c.gather-2.ensures.exact later.0 p.frames (next_two g.J.Job.kind g.met.J.Job.laws h p s x found c.args.places are c.first_segment.result c.first_segment.ensures c.segment_at-at.result at_is c.args.last so_far reached double)
    (are_two g.J.Job.kind g.met.J.Job.laws h p s x found c.args.places are c.first_segment.result c.first_segment.ensures c.segment_at-at.result at_is c.args.last so_far reached double c.segment_at-at-2.result (g.D.Disk.view c.gather.new.disk).contents last_at (later.1 ∙ now.1))
    (gathers_two g.J.Job.kind g.met.J.Job.laws h p s x found c.args.places are c.first_segment.result c.first_segment.ensures c.segment_at-at.result at_is c.args.last so_far reached double))

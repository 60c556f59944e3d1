use Rattle.std.proofs.Common.{◌≡◌, ◌<◌, ◌≤◌, ◌+◌, Some, drop, length, map, sym, subst, refl}
use Rattle.pfx_record.specs.Records.{plain}
use Rattle.pfx_record_redo.specs.Applying.{applied, is_right}
use Rattle.pfx_replay.specs.Judged.{GivesAll}
use Rattle.pfx_replay.specs.Stated.{plain_of}
use Rattle.pfx_replay.specs.declared.judged.Judged.TheVariants.{Agrees, Differs}
use Rattle.pfx_replay.proofs.Following.{applied-cons, applied_by, gives-cons, gives-none, gives-wrong, none_left, split}
use Rattle.pfx_replay.proofs.judging.judge_all.Goals as goal

pub returns-in-Differs : goal.returns-in-Differs
returns-in-Differs g c =
    let K = g.J.Job.kind in
    let records = c.args.records.now in
    let s = plain_of c.loop-entry.reached in
    let i = c.loop-entry.entry-index in
    let x = c.entry-item.result in
    let v = Differs c.in-Differs.number c.in-Differs.what in
    let within : i < length records = c.loop-entry-test.true in
    let rest = map plain (drop (i + 1) records) in
    let e = rw c.in-Differs.is at c.in_ok-next.ensures in
    c.loop-entry.invariant.gives v
    (subst (λ rs. GivesAll K g.J.Units.unit s rs v) (sym (split records i x x c.entry-item.is within)) (gives-wrong K g.met.J.Job.laws g.J.Units.unit s (plain x) rest c.in-Differs.number c.in-Differs.what e.0 e.1))

pub loop-entry-preserved : goal.loop-entry-preserved
loop-entry-preserved g c =
    let K = g.J.Job.kind in
    let L = g.met.J.Job.laws in
    let records = c.args.records.now in
    let s = plain_of c.loop-entry.reached in
    let i = c.loop-entry.entry-index in
    let x = c.entry-item.result in
    let within : i < length records = c.loop-entry-test.true in
    let rest = map plain (drop (i + 1) records) in
    let e = rw c.in-Agrees.is at c.in_ok-next.ensures in
    let parts = split records i x x c.entry-item.is within in
    let run = c.loop-entry.invariant.right in
    let by = applied_by K s run.0 (plain x) rest (is_right K s (plain x)) refl (subst (λ rs. applied K s rs ≡ Some run.0) parts run.1) in
    record {
      right = (run.0, subst (λ t. applied K t rest ≡ Some run.0) (sym e.3) (applied-cons K L g.J.Units.unit s (plain x) e.0 e.1 e.2 rest run.0 by.1));
      gives = λ v h. c.loop-entry.invariant.gives v (subst (λ rs. GivesAll K g.J.Units.unit s rs v) (sym parts) (gives-cons K L g.J.Units.unit s (plain x) e.0 e.1 e.2 rest v (subst (λ t. GivesAll K g.J.Units.unit t rest v) e.3 h)));
    }

pub returns : goal.returns
returns g c =
    let K = g.J.Job.kind in
    let records = c.args.records.now in
    let s = plain_of c.loop-entry.reached in
    let past : length records ≤ c.loop-entry.entry-index = c.loop-entry-test.false in
    c.loop-entry.invariant.gives (Agrees c.loop-entry.reached)
    (subst (λ rest. GivesAll K g.J.Units.unit s rest (Agrees c.loop-entry.reached)) (sym (none_left records c.loop-entry.entry-index past)) (gives-none K g.met.J.Job.laws g.J.Units.unit s c.loop-entry.reached refl))

use Rattle.std.proofs.Common.{◌≡◌, ◌<◌, ◌≤◌, ◌+◌, ◌∷◌, [], Some, drop, length, map, sym, subst, refl, IsTrue, rules}
use Rattle.pfx_record.specs.Records.{plain}
use Rattle.pfx_record_redo.specs.Applying.{applied, is_right}
use Rattle.pfx_replay.specs.Stated.{plain_of}
use Rattle.pfx_replay.specs.declared.judged.Judged.TheVariants.{Agrees, Differs}
use Rattle.pfx_replay.specs.declared.verdict.Difference.TheVariants.{Checkpoint}
use Rattle.pfx_replay.proofs.Following.{applied-cons, applied_by, none_left, split}
use Rattle.pfx_replay_audit.specs.Marks.{Gives, Meets}
use Rattle.pfx_replay_audit.proofs.Marking.{gives_cons, gives_none, gives_wrong, unmet}
use Rattle.pfx_replay_audit.proofs.marks.judge_marked.Goals as goal

pub returns-in-Differs : goal.returns-in-Differs
returns-in-Differs g c =
    let K = g.J.Job.kind in
    let unit = g.J.Units.unit in
    let marks = map plain_of c.args.marks.now in
    let records = c.args.records.now in
    let s = plain_of c.loop-entry.reached in
    let i = c.loop-entry.entry-index in
    let x = c.entry-item.result in
    let n = c.in-Differs.number in
    let what = c.in-Differs.what in
    let within : i < length records = c.loop-entry-test.true in
    let rest = map plain (drop (i + 1) records) in
    let e = rw c.in-Differs.is at c.in_ok-next.ensures in
    c.loop-entry.invariant.gives (Differs n what)
    (subst (λ rs. Gives K unit marks s rs (Differs n what)) (sym (split records i x x c.entry-item.is within)) (gives_wrong K g.met.J.Job.laws unit marks s (plain x ∷ rest) n what (e rest)))

pub loop-entry-preserved : goal.loop-entry-preserved
loop-entry-preserved g c =
    let K = g.J.Job.kind in
    let L = g.met.J.Job.laws in
    let unit = g.J.Units.unit in
    let marks = map plain_of c.args.marks.now in
    let records = c.args.records.now in
    let s = plain_of c.loop-entry.reached in
    let i = c.loop-entry.entry-index in
    let x = c.entry-item.result in
    let within : i < length records = c.loop-entry-test.true in
    let rest = map plain (drop (i + 1) records) in
    let both = rw c.in-Agrees.is at c.in_ok-next.ensures in
    let met = both.0 in
    let e = both.1 in
    let parts = split records i x x c.entry-item.is within in
    let run = c.loop-entry.invariant.right in
    let by = applied_by K s run.0 (plain x) rest (is_right K s (plain x)) refl (subst (λ rs. applied K s rs ≡ Some run.0) parts run.1) in
    record {
      right = (run.0, subst (λ t. applied K t rest ≡ Some run.0) (sym e.3) (applied-cons K L unit s (plain x) e.0 e.1 e.2 rest run.0 by.1));
      gives = λ v h. c.loop-entry.invariant.gives v (subst (λ rs. Gives K unit marks s rs v) (sym parts) (gives_cons K L unit marks s (plain x) e.0 e.1 e.2 met rest v (subst (λ t. Gives K unit marks t rest v) e.3 h)));
    }

pub returns-then-not-meets : goal.returns-then-not-meets
returns-then-not-meets g c =
    let K = g.J.Job.kind in
    let L = g.met.J.Job.laws in
    let unit = g.J.Units.unit in
    let marks = map plain_of c.args.marks.now in
    let records = c.args.records.now in
    let s = plain_of c.loop-entry.reached in
    let past : length records ≤ c.loop-entry.entry-index = c.loop-entry-test.false in
    let no : Meets marks s → ⊥ = λ h. (let yes = c.meets.ensures.1 h in search rules) in
    c.loop-entry.invariant.gives (Differs s.number Checkpoint)
    (subst (λ rest. Gives K unit marks s rest (Differs s.number Checkpoint)) (sym (none_left records c.loop-entry.entry-index past)) (gives_wrong K L unit marks s [] s.number Checkpoint (unmet K L unit marks s [] no)))

pub returns : goal.returns
returns g c =
    let K = g.J.Job.kind in
    let L = g.met.J.Job.laws in
    let unit = g.J.Units.unit in
    let marks = map plain_of c.args.marks.now in
    let records = c.args.records.now in
    let t = c.loop-entry.reached in
    let past : length records ≤ c.loop-entry.entry-index = c.loop-entry-test.false in
    let yes : IsTrue c.meets.result = search rules in
    c.loop-entry.invariant.gives (Agrees t)
    (subst (λ rest. Gives K unit marks (plain_of t) rest (Agrees t)) (sym (none_left records c.loop-entry.entry-index past)) (gives_none K L unit marks (plain_of t) t (c.meets.ensures.0 yes) refl))

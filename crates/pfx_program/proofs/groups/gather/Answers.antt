use Rattle.std.proofs.Common.{rules, ◌≡◌, ◌<◌, ◌+◌, ◌∷◌, [], ◌++◌, length, ap, subst, ◌∙◌, arith}
use Rattle.std.proofs.lemmas.List.{length_push}
use Rattle.csv.specs.Records.{fields_of}
use Rattle.pfx_kinds.specs.declared.any.AnyJob.{AnyJob}
use Rattle.pfx_machine.specs.Plain.{Plain}
use Rattle.pfx_program_script.specs.Records.{Takes}
use Rattle.pfx_program.specs.Groups.{Joins}
use Rattle.pfx_store_engine.specs.Sharing.{IsChange}
use Rattle.pfx_program.proofs.GroupLemmas.{changes_append, gathers_more, gathers_none}
use Rattle.pfx_program.proofs.StepLemmas.{same, same_then}
use Rattle.pfx_program.proofs.groups.gather.Goals as goal

pub records-init : goal.records-init
records-init g c =
    let P = g.E.Engine.promise in
    record {
      gathers = rw c.new-group.ensures.items (gathers_none (P.state c.args.engine.now) c.args.script.now);
      same = same P g.met.E.Engine.laws c.args.engine.now;
      settled = λ h. h;
      changes = rw c.new-group.ensures.items tt;
      few = rw c.new-group.ensures.items (omega arith);
    }

pub returns-in-Apart-clause-same : goal.returns-in-Apart-clause-same
returns-in-Apart-clause-same g c =
    same_then g.E.Engine.promise g.met.E.Engine.laws c.args.engine.now c.records.engine c.joining_row.new.engine c.records.invariant.same c.records.invariant.settled c.joining_row.ensures.same

pub returns-in-Failed-clause-same : goal.returns-in-Failed-clause-same
returns-in-Failed-clause-same g c =
    same_then g.E.Engine.promise g.met.E.Engine.laws c.args.engine.now c.records.engine c.joining_row.new.engine c.records.invariant.same c.records.invariant.settled c.joining_row.ensures.same

pub returns-then-is_err-clause-same : goal.returns-then-is_err-clause-same
returns-then-is_err-clause-same g c =
    same_then g.E.Engine.promise g.met.E.Engine.laws c.args.engine.now c.records.engine c.joining_row.new.engine c.records.invariant.same c.records.invariant.settled c.joining_row.ensures.same

pub returns-then-len-most-clause-behind : goal.returns-then-len-most-clause-behind
returns-then-len-most-clause-behind g c =
    let P = g.E.Engine.promise in
    let group = c.records.group.items in
    let command = c.in-Joins.command in
    let row = fields_of c.next.new.row in
    let pushed : c.push.new.self.items ≡ group ++ command ∷ [] = search rules in
    let long : length c.push.new.self.items ≡ length group + 1 = ap length pushed ∙ length_push group command in
    let took : Takes c.records.script row c.next.new.self = rw c.in-Ok-true.field-0-test at c.in-Ok-true.ensures.reads in
    let joins : (length group < c.args.most) × IsChange command × Joins (P.state c.records.engine) group command row = rw c.deref.ensures.value at c.in-Joins.ensures.joins in (
      omega (arith, long),
      rw pushed (gathers_more (P.state c.args.engine.now) c.args.script.now c.records.script c.next.new.self group command row c.records.invariant.gathers took
          (subst (λ (s : Plain AnyJob). Joins s group command row) c.records.invariant.same.state joins.2)),
    )

pub returns-then-len-most-clause-changes : goal.returns-then-len-most-clause-changes
returns-then-len-most-clause-changes g c =
    let P = g.E.Engine.promise in
    let group = c.records.group.items in
    let command = c.in-Joins.command in
    let row = fields_of c.next.new.row in
    let pushed : c.push.new.self.items ≡ group ++ command ∷ [] = search rules in
    let joins : (length group < c.args.most) × IsChange command × Joins (P.state c.records.engine) group command row = rw c.deref.ensures.value at c.in-Joins.ensures.joins in
    rw pushed (changes_append group command c.records.invariant.changes joins.1)

pub returns-then-len-most-clause-same : goal.returns-then-len-most-clause-same
returns-then-len-most-clause-same g c =
    same_then g.E.Engine.promise g.met.E.Engine.laws c.args.engine.now c.records.engine c.joining_row.new.engine c.records.invariant.same c.records.invariant.settled c.joining_row.ensures.same

pub records-preserved : goal.records-preserved
records-preserved g c =
    let P = g.E.Engine.promise in
    let group = c.records.group.items in
    let command = c.in-Joins.command in
    let row = fields_of c.next.new.row in
    let before = c.records.invariant in
    let pushed : c.push.new.self.items ≡ group ++ command ∷ [] = search rules in
    let long : length c.push.new.self.items ≡ length group + 1 = ap length pushed ∙ length_push group command in
    let took : Takes c.records.script row c.next.new.self = rw c.in-Ok-true.field-0-test at c.in-Ok-true.ensures.reads in
    let joins : (length group < c.args.most) × IsChange command × Joins (P.state c.records.engine) group command row = rw c.deref.ensures.value at c.in-Joins.ensures.joins in
    let few = joins.0 in
    record {
      gathers = rw pushed (gathers_more (P.state c.args.engine.now) c.args.script.now c.records.script c.next.new.self group command row before.gathers took
          (subst (λ (s : Plain AnyJob). Joins s group command row) before.same.state joins.2));
      same = same_then P g.met.E.Engine.laws c.args.engine.now c.records.engine c.joining_row.new.engine before.same before.settled c.joining_row.ensures.same;
      settled = λ h. c.in-Joins.ensures.settled tt (before.settled h);
      changes = rw pushed (changes_append group command before.changes joins.1);
      few = omega (arith, few, long);
    }

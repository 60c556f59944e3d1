use Rattle.std.proofs.Common.{rules, ◌≡◌, ◌<◌, inl, [], List, length, map, refl, sym, ap, subst, ◌∙◌, append-nil, arith}
use Rattle.std.proofs.lemmas.List.{length-map}
use Rattle.pfx_store.specs.Groups.{AreRecordsOf}
use Rattle.pfx_store.proofs.Grouping.{common_kept}
use Rattle.pfx_machine.specs.Plain.{Plain, IsState}
use Rattle.pfx_machine.specs.Outcome.{outcome}
use Rattle.pfx_machine.specs.declared.command.Command.{Command}
use Rattle.pfx_machine.proofs.Compose.{outcome-none}
use Rattle.pfx_store_engine.specs.Sharing.{AreTold, accepted_of}
use Rattle.pfx_record.specs.Records.{plain}
use Rattle.pfx_store_engine.specs.Keeping.{KeepsFrom}
use Rattle.pfx_store_engine.specs.Failing.{stopped_at}
use Rattle.pfx_store_engine.specs.KeepingLaws.{keeps_none}
use Rattle.pfx_store_engine.proofs.Keeps.{worked}
use Rattle.pfx_store_engine.proofs.Promising.{keeps_all, keeps_some}
use Rattle.pfx_store_engine.proofs.WindowLemmas.{accepted_few, no_records, records_long}
use Rattle.pfx_store_engine.proofs.durable.DurableEngineEngine.all.Goals as goal

pub returns-in-Some-clause-left : goal.returns-in-Some-clause-left
returns-in-Some-clause-left g c =
    let kept = g.K.BatchKeeper.kept in
    let failed = g.K.BatchKeeper.failed in
    let old = c.args.self.now in
    record {
      took = [];
      rest = c.args.commands.items;
      split = refl;
      said = [];
      answered = tt;
      state = inl refl;
      keeps = keeps_none g.J.Job.kind (g.D.Disk.view (kept old.keeper).file.disk) (failed old.keeper) (kept old.keeper).state;
    }

pub returns-in_default-run_changes-clause-left : goal.returns-in_default-run_changes-clause-left
returns-in_default-run_changes-clause-left g c =
    let kept = g.K.BatchKeeper.kept in
    let failed = g.K.BatchKeeper.failed in
    let old = c.args.self.now in
    record {
      took = [];
      rest = c.args.commands.items;
      split = refl;
      said = [];
      answered = tt;
      state = inl refl;
      keeps = keeps_none g.J.Job.kind (g.D.Disk.view (kept old.keeper).file.disk) (failed old.keeper) (kept old.keeper).state;
    }

pub returns-then-is_empty-clause-done : goal.returns-then-is_empty-clause-done
returns-then-is_empty-clause-done g c =
    let kept = g.K.BatchKeeper.kept in
    let failed = g.K.BatchKeeper.failed in
    let V = g.D.Disk.view in
    let old = c.args.self.now in
    let at = old.same (sym c.in_default.ensures.answer) in
    let told = c.in-Ok.field-0.told.items in
    let G : List (Command g.row.J.Denot) = accepted_of c.args.commands.items told in
    let mine : AreRecordsOf g.J.Job.kind (kept old.keeper).state G (map plain c.in-Ok.field-0.records.items) = subst (λ (s : Plain g.row.J.Denot). AreRecordsOf g.J.Job.kind s G (map plain c.in-Ok.field-0.records.items)) at c.in-Ok.ensures.recorded in
    let none : length c.in-Ok.field-0.records.items ≡ 0 = search rules in
    let empty : G ≡ [] = no_records g.J.Job.kind (kept old.keeper).state G (map plain c.in-Ok.field-0.records.items) mine (length-map c.in-Ok.field-0.records.items plain ∙ none) in
    record {
      answered = subst (λ (s : Plain g.row.J.Denot). AreTold g.J.Job.kind s c.args.commands.items told) at c.in-Ok.ensures.told;
      state = sym (ap (outcome g.J.Job.kind (kept old.keeper).state) empty ∙ outcome-none g.J.Job.kind (kept old.keeper).state);
      keeps = subst (λ (l : List (Command g.row.J.Denot)). KeepsFrom g.J.Job.kind (V (kept old.keeper).file.disk) (failed old.keeper) (kept old.keeper).state l (length l) (V (kept old.keeper).file.disk) (kept old.keeper).state) (sym empty)
          (keeps_none g.J.Job.kind (V (kept old.keeper).file.disk) (failed old.keeper) (kept old.keeper).state);
      settled = search rules;
    }

pub commit-requires-clause-few : goal.commit-requires-clause-few
commit-requires-clause-few g c =
    let old = c.args.self.now in
    let G : List (Command g.row.J.Denot) = accepted_of c.args.commands.items c.in-Ok.field-0.told.items in
    let long = records_long g.J.Job.kind plain old.state G c.in-Ok.field-0.records.items c.in-Ok.ensures.recorded in
    let few = accepted_few c.args.commands.items c.in-Ok.field-0.told.items in
    omega (arith, long, few, c.requires.few)

pub returns-in-Ok-commit-clause-done : goal.returns-in-Ok-commit-clause-done
returns-in-Ok-commit-clause-done g c =
    let kept = g.K.BatchKeeper.kept in
    let failed = g.K.BatchKeeper.failed in
    let V = g.D.Disk.view in
    let old = c.args.self.now in
    let at = old.same (sym c.in_default.ensures.answer) in
    let told = c.in-Ok.field-0.told.items in
    let G : List (Command g.row.J.Denot) = accepted_of c.args.commands.items told in
    let mine : AreRecordsOf g.J.Job.kind (kept old.keeper).state G (map plain c.in-Ok.field-0.records.items) = subst (λ (s : Plain g.row.J.Denot). AreRecordsOf g.J.Job.kind s G (map plain c.in-Ok.field-0.records.items)) at c.in-Ok.ensures.recorded in
    let moved : (kept c.commit.new.keeper).state ≡ outcome g.J.Job.kind (kept old.keeper).state G = c.in-Ok-commit.ensures.state G (common_kept _ _ _ _ mine) in
    record {
      answered = subst (λ (s : Plain g.row.J.Denot). AreTold g.J.Job.kind s c.args.commands.items told) at c.in-Ok.ensures.told;
      state = moved;
      keeps = keeps_all g.J.Job.kind (V (kept old.keeper).file.disk) (V (kept c.commit.new.keeper).file.disk) (failed old.keeper) (kept old.keeper).state (kept c.commit.new.keeper).state G mine.accepted moved c.in-Ok-commit.ensures.call.follows.honest.0
          c.in-Ok-commit.ensures.acknowledged;
      settled = search rules;
    }

pub returns-in-Err-clause-left : goal.returns-in-Err-clause-left
returns-in-Err-clause-left g c =
    let kept = g.K.BatchKeeper.kept in
    let failed = g.K.BatchKeeper.failed in
    let V = g.D.Disk.view in
    let old = c.args.self.now in
    let at = old.same (sym c.in_default.ensures.answer) in
    let told = c.in-Ok.field-0.told.items in
    let G : List (Command g.row.J.Denot) = accepted_of c.args.commands.items told in
    let mine : AreRecordsOf g.J.Job.kind (kept old.keeper).state G (map plain c.in-Ok.field-0.records.items) = subst (λ (s : Plain g.row.J.Denot). AreRecordsOf g.J.Job.kind s G (map plain c.in-Ok.field-0.records.items)) at c.in-Ok.ensures.recorded in
    let long = records_long g.J.Job.kind plain (kept old.keeper).state G c.in-Ok.field-0.records.items mine in
    let some : 0 < length c.in-Ok.field-0.records.items = search rules in
    let same : (kept c.commit.new.keeper).state ≡ (kept old.keeper).state = c.in-Err.ensures.call.same in
    record {
      took = c.args.commands.items;
      rest = [];
      split = sym (append-nil c.args.commands.items);
      said = told;
      answered = subst (λ (s : Plain g.row.J.Denot). AreTold g.J.Job.kind s c.args.commands.items told) at c.in-Ok.ensures.told;
      state = inl same;
      keeps = keeps_some g.J.Job.kind (V (kept old.keeper).file.disk) (V (kept c.commit.new.keeper).file.disk) (failed old.keeper) (kept old.keeper).state (kept c.commit.new.keeper).state G (subst IsState at c.number-number.ensures.state) mine.accepted
          (omega (arith, some, long)) c.in-Err.ensures.call.follows.goes.later c.in-Err.ensures.call.follows.honest.0 (λ honest start H h all there. c.in-Err.ensures.keeps honest start H G h all there (common_kept _ _ _ _ mine));
    }

pub invariant_of-self-then-is_empty : goal.invariant_of-self-then-is_empty
invariant_of-self-then-is_empty g c = record {
  same = λ whole.
      let old = c.args.self.now in
      let G : List (Command g.row.J.Denot) = accepted_of c.args.commands.items c.in-Ok.field-0.told.items in
      let none : length c.in-Ok.field-0.records.items ≡ 0 = search rules in
      let empty : G ≡ [] = no_records g.J.Job.kind old.state G (map plain c.in-Ok.field-0.records.items) c.in-Ok.ensures.recorded (length-map c.in-Ok.field-0.records.items plain ∙ none) in
      c.in-Ok.ensures.moves ∙ ap (outcome g.J.Job.kind old.state) empty ∙ outcome-none g.J.Job.kind old.state ∙ old.same whole;
}

pub returns-in-Some-clause-fails : goal.returns-in-Some-clause-fails
returns-in-Some-clause-fails g c = rw c.stopped.ensures (c.in-Some.cause, (c.args.self.now.keeper, sym c.in-Some.ensures.answer), refl)

pub returns-in-Err-clause-fails : goal.returns-in-Err-clause-fails
returns-in-Err-clause-fails g c =
    rw c.stopped-in-Err.ensures (c.in-Err.cause, (c.commit.new.keeper, c.in-Err.ensures.call.fails), ap (λ (s : Plain g.row.J.Denot). stopped_at s.number c.in-Err.cause) c.in-Err.ensures.call.same)

pub invariant_of-self-2 : goal.invariant_of-self-2
invariant_of-self-2 g c = record {
  same = λ whole.
      let kept = g.K.BatchKeeper.kept in
      let old = c.args.self.now in
      let at = old.same (sym c.in_default.ensures.answer) in
      let ran = c.in-Ok.ensures in
      let G : List (Command g.row.J.Denot) = accepted_of c.args.commands.items c.in-Ok.field-0.told.items in
      let mine : AreRecordsOf g.J.Job.kind (kept old.keeper).state G (map plain c.in-Ok.field-0.records.items) = subst (λ (s : Plain g.row.J.Denot). AreRecordsOf g.J.Job.kind s G (map plain c.in-Ok.field-0.records.items)) at ran.recorded in
      ran.moves ∙ (ap (λ (s : Plain g.row.J.Denot). outcome g.J.Job.kind s G) at
      ∙ sym (worked c.commit.result _ c.commit.ensures.call.fails whole (c.commit.ensures.state G (common_kept _ _ _ _ mine))));
}

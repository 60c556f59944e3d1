use Rattle.std.proofs.Common.{rules, ◌≡◌, ◌+◌, ◌∷◌, [], ◌++◌, ℕ, List, Ok, Err, None, map, sym, ap, subst, ◌∙◌, arith}
use Rattle.std.proofs.lemmas.List.{length_push, map_push}
use Rattle.pfx_record_redo.specs.Recording.{record_of}
use Rattle.pfx_store.specs.Groups.{AreRecordsOf}
use Rattle.pfx_machine.specs.Plain.{Plain}
use Rattle.pfx_machine.specs.Refusals.{refusal}
use Rattle.pfx_machine.specs.Runs.{answer}
use Rattle.pfx_machine.specs.declared.command.Command.{Command}
use Rattle.pfx_machine.specs.declared.command.Reply.{Reply}
use Rattle.pfx_machine.proofs.Compose.{outcome-none}
use Rattle.pfx_machine.proofs.RunLemmas.{split_next}
use Rattle.pfx_store_engine.specs.Sharing.{accepted_of}
use Rattle.pfx_store_engine.proofs.Sharing.{accepted_err, accepted_ok, change_next, change_refused, ran_err, ran_ok}
use Rattle.pfx_record.specs.Records.{plain}
use Rattle.pfx_record.specs.Records as recorded
use Rattle.pfx_store_engine.proofs.WindowLemmas.{change_common, none_recorded, recorded_snoc}
use Rattle.pfx_store_engine.proofs.windows.run_changes.Goals as goal

pub loop-command-init : goal.loop-command-init
loop-command-init g c = record {
  long = c.in_ok-told.ensures.len;
  records = omega (arith, c.in_ok-records.ensures.len);
  room = omega (arith, c.in_ok-told.ensures.capacity);
  records_room = omega (arith, c.in_ok-records.ensures.capacity);
  told = rw c.in_ok-told.ensures.items tt;
  recorded = rw c.in_ok-records.ensures.items (none_recorded g.J.Job.kind c.args.state.now);
  state = sym (outcome-none g.J.Job.kind c.args.state.now);
  split = sym c.into_iter-command-iterator.ensures.into_iter_gives.0;
}

pub loop-command-preserved-in-Ok : goal.loop-command-preserved-in-Ok
loop-command-preserved-in-Ok g c =
    let s = c.args.state.now in
    let gone = c.loop-command.yielded in
    let kept = c.loop-command.invariant in
    let command = c.in-Some.command in
    let told = c.loop-command.told.items in
    let done = c.in-Ok.ensures in
    let x : ℕ × Reply = (c.number-last.result + 1, c.in-Ok.field-0.reply) in
    let change = change_next c.args.commands.items gone command c.loop-command.command-iterator.rest.items c.next.new.self.rest.items c.requires.changes kept.split c.in-Some.ensures.steps.0 in
    let accepted : answer g.J.Job.kind c.loop-command.state command ≡ Ok x.1 = search rules in
    let next : x.0 ≡ c.loop-command.state.number + 1 = ap (λ (n : ℕ). n + 1) c.number-last.ensures.number in
    let both = ran_ok g.J.Job.kind g.met.J.Job.laws s c.loop-command.state c.apply_recorded.new.state gone told command x kept.told kept.state accepted next done.outcome in
    let records = map (plain {J = g.row.J.Denot}) c.loop-command.records.items in
    let pushed : map (plain {J = g.row.J.Denot}) c.push_reserved-in-Ok.new.self.items ≡ records ++ plain c.in-Ok.field-0.entry ∷ [] =
    ap (map plain) c.push_reserved-in-Ok.ensures.items ∙ map_push plain c.loop-command.records.items c.in-Ok.field-0.entry in
    let more = length_push gone command in
    record {
      long = omega (arith, c.push_reserved.ensures.len, kept.long, more);
      records = omega (arith, c.push_reserved-in-Ok.ensures.len, kept.records, more);
      room = omega (arith, c.push_reserved.ensures.capacity, kept.room);
      records_room = omega (arith, c.push_reserved-in-Ok.ensures.capacity, kept.records_room);
      told = rw c.push_reserved.ensures.items both.0;
      recorded = rw c.push_reserved.ensures.items (subst (λ (l : List (recorded.Recorded g.row.J.Denot)). AreRecordsOf g.J.Job.kind s (accepted_of (gone ++ command ∷ []) (told ++ Ok x ∷ [])) l) (sym pushed)
          (subst (λ (H : List (Command g.row.J.Denot)). AreRecordsOf g.J.Job.kind s H (records ++ plain c.in-Ok.field-0.entry ∷ [])) (sym (accepted_ok g.J.Job.kind s gone told command x kept.told))
          (recorded_snoc g.J.Job.kind g.met.J.Job.laws s (accepted_of gone told) command records (plain c.in-Ok.field-0.entry) kept.recorded (change_common command change) (subst (λ (t : Plain g.row.J.Denot). refusal g.J.Job.kind t command ≡ None) kept.state done.exact)
          (done.kept_as ∙ ap (λ (t : Plain g.row.J.Denot). record_of g.J.Job.kind t command) kept.state))));
      state = rw c.push_reserved.ensures.items both.1;
      split = split_next c.args.commands.items gone command c.loop-command.command-iterator.rest.items c.next.new.self.rest.items kept.split c.in-Some.ensures.steps.0;
    }

pub loop-command-preserved : goal.loop-command-preserved
loop-command-preserved g c =
    let s = c.args.state.now in
    let gone = c.loop-command.yielded in
    let kept = c.loop-command.invariant in
    let command = c.in-Some.command in
    let told = c.loop-command.told.items in
    let rest = c.loop-command.command-iterator.rest.items in
    let left = c.next.new.self.rest.items in
    let change = change_next c.args.commands.items gone command rest left c.requires.changes kept.split c.in-Some.ensures.steps.0 in
    let why : answer g.J.Job.kind c.loop-command.state command ≡ Err c.in-Err.fault = change_refused g.J.Job.kind c.loop-command.state command c.in-Err.fault change c.in-Err.ensures.exact in
    let both = ran_err g.J.Job.kind g.met.J.Job.laws s c.loop-command.state c.apply_recorded.new.state gone told command c.in-Err.fault kept.told kept.state why c.in-Err.ensures.kept in
    let more = length_push gone command in
    record {
      long = omega (arith, c.push_reserved-in-Err.ensures.len, kept.long, more);
      records = omega (arith, kept.records, more);
      room = omega (arith, c.push_reserved-in-Err.ensures.capacity, kept.room);
      records_room = kept.records_room;
      told = rw c.push_reserved-in-Err.ensures.items both.0;
      recorded = rw c.push_reserved-in-Err.ensures.items (subst (λ (H : List (Command g.row.J.Denot)). AreRecordsOf g.J.Job.kind s H (map plain c.loop-command.records.items)) (sym (accepted_err g.J.Job.kind s gone told command c.in-Err.fault kept.told)) kept.recorded);
      state = rw c.push_reserved-in-Err.ensures.items both.1;
      split = split_next c.args.commands.items gone command rest left kept.split c.in-Some.ensures.steps.0;
    }

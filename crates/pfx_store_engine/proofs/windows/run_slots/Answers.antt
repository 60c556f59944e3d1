use Rattle.std.proofs.Common.{rules, ◌≡◌, ◌<◌, ◌+◌, ◌∷◌, [], ℕ, List, ◌++◌, Ok, Err, None, length, map, sym, ap, subst, ◌∙◌, arith}
use Rattle.std.proofs.lemmas.List.{map_push}
use Rattle.pfx_record_redo.specs.Recording.{record_of}
use Rattle.pfx_store.specs.Groups.{AreRecordsOf}
use Rattle.pfx_machine.specs.Plain.{Plain}
use Rattle.pfx_machine.specs.Outcome.{outcome}
use Rattle.pfx_machine.specs.Refusals.{refusal}
use Rattle.pfx_machine.specs.Runs.{answer}
use Rattle.pfx_machine.specs.declared.command.Command.TheVariants.{Slot}
use Rattle.pfx_machine.specs.declared.command.Reply.{Reply}
use Rattle.pfx_machine.proofs.Compose.{outcome-none}
use Rattle.pfx_store_engine.specs.Promises.{slots_for}
use Rattle.pfx_store_engine.proofs.Slots.{answered_more, none_yet, slots_more}
use Rattle.pfx_record.specs.Records.{plain}
use Rattle.pfx_record.specs.Records as recorded
use Rattle.pfx_store_engine.specs.Executing.{Fills}
use Rattle.pfx_store_engine.proofs.WindowLemmas.{ends_early, none_recorded, recorded_more}
use Rattle.pfx_store_engine.proofs.windows.run_slots.Goals as goal

pub loop-init : goal.loop-init
loop-init g c = record {
  long = c.in-Ok.ensures.len;
  records = c.in-Ok-with_capacity.ensures.len;
  room = omega (arith, c.in-Ok.ensures.capacity);
  records_room = omega (arith, c.in-Ok-with_capacity.ensures.capacity);
  answered = rw c.in-Ok.ensures.items tt;
  recorded = rw (c.in-Ok.ensures.items, c.in-Ok-with_capacity.ensures.items) (none_recorded g.J.Job.kind c.args.state.now);
  state = rw c.in-Ok.ensures.items (sym (outcome-none g.J.Job.kind c.args.state.now));
}

pub push_reserved-requires : goal.push_reserved-requires
push_reserved-requires g c = omega (arith, c.loop.invariant.long, c.loop.invariant.room, c.loop-test.true)

pub push_reserved-requires-in-Ok-apply_recorded : goal.push_reserved-requires-in-Ok-apply_recorded
push_reserved-requires-in-Ok-apply_recorded g c = omega (arith, c.loop.invariant.records, c.loop.invariant.records_room, c.loop-test.true)

pub returns-in-Err-clause-ran : goal.returns-in-Err-clause-ran
returns-in-Err-clause-ran g c =
    let some : 0 < length c.loop.said.items = search rules in
    record {
      some = some;
      few = search rules;
      answered = c.loop.invariant.answered;
      recorded = c.loop.invariant.recorded;
      state = c.in-Err.ensures.kept ∙ c.loop.invariant.state;
    }

pub returns-in-Err-clause-fills : goal.returns-in-Err-clause-fills
returns-in-Err-clause-fills g c =
    subst (λ (t : Plain g.row.J.Denot). Fills g.J.Job.kind c.args.count c.loop.said.items t c.is_memory.result) (sym c.in-Err.ensures.kept)
    (ends_early g.J.Job.kind c.args.count c.loop.said.items c.loop.state c.in-Err.fault c.is_memory.result c.in-Err.ensures.exact c.is_memory.ensures)

pub returns-in-Err-2-clause-stays : goal.returns-in-Err-2-clause-stays
returns-in-Err-2-clause-stays g c =
    let none : length c.loop.said.items ≡ 0 = search rules in
    c.in-Err.ensures.kept ∙ none_yet g.J.Job.kind c.args.state.now c.loop.state c.loop.said.items none c.loop.invariant.state

pub returns-in-Err-2-clause-why : goal.returns-in-Err-2-clause-why
returns-in-Err-2-clause-why g c = returns-in-Err-2-clause-stays g c

pub returns-in-Err-3-clause-stays : goal.returns-in-Err-3-clause-stays
returns-in-Err-3-clause-stays g c =
    let none : length c.loop.said.items ≡ 0 = search rules in
    c.in-Err.ensures.kept ∙ none_yet g.J.Job.kind c.args.state.now c.loop.state c.loop.said.items none c.loop.invariant.state

pub returns-in-Err-3-clause-refused : goal.returns-in-Err-3-clause-refused
returns-in-Err-3-clause-refused g c =
    let none : length c.loop.said.items ≡ 0 = search rules in
    let same : c.loop.state ≡ c.args.state.now = none_yet g.J.Job.kind c.args.state.now c.loop.state c.loop.said.items none c.loop.invariant.state in
    let why : answer g.J.Job.kind c.loop.state Slot ≡ Err c.in-Err.fault = search rules in
    (subst (λ (s : Plain g.row.J.Denot). answer g.J.Job.kind s Slot ≡ Err c.in-Err.fault) same why, c.in-Err.ensures.kept ∙ same)

pub returns-in-Err-3-clause-why : goal.returns-in-Err-3-clause-why
returns-in-Err-3-clause-why g c = returns-in-Err-3-clause-stays g c

pub loop-preserved : goal.loop-preserved
loop-preserved g c =
    let s = c.args.state.now in
    let said = c.loop.said.items in
    let at = c.loop.invariant.state in
    let done = c.in-Ok-apply_recorded.ensures in
    let x : ℕ × Reply = (c.number-before.result + 1, c.in-Ok-apply_recorded.field-0.reply) in
    let accepted : answer g.J.Job.kind c.loop.state Slot ≡ Ok x.1 = search rules in
    let next : x.0 ≡ c.loop.state.number + 1 = ap (λ (n : ℕ). n + 1) c.number-before.ensures.number in
    let pushed : map (plain {J = g.row.J.Denot}) c.push_reserved-in-Ok-apply_recorded.new.self.items ≡ map plain c.loop.records.items ++ plain c.in-Ok-apply_recorded.field-0.entry ∷ [] =
    ap (map plain) c.push_reserved-in-Ok-apply_recorded.ensures.items ∙ map_push plain c.loop.records.items c.in-Ok-apply_recorded.field-0.entry in
    record {
      long = omega (arith, c.push_reserved.ensures.len, c.loop.invariant.long);
      records = omega (arith, c.push_reserved-in-Ok-apply_recorded.ensures.len, c.loop.invariant.records);
      room = omega (arith, c.push_reserved.ensures.capacity, c.loop.invariant.room);
      records_room = omega (arith, c.push_reserved-in-Ok-apply_recorded.ensures.capacity, c.loop.invariant.records_room);
      answered = rw c.push_reserved.ensures.items (answered_more g.J.Job.kind g.met.J.Job.laws s said x c.loop.invariant.answered (subst (λ (t : Plain g.row.J.Denot). answer g.J.Job.kind t Slot ≡ Ok x.1) at accepted)
          (subst (λ (t : Plain g.row.J.Denot). x.0 ≡ t.number + 1) at next));
      recorded = rw c.push_reserved.ensures.items (subst (λ (l : List (recorded.Recorded g.row.J.Denot)). AreRecordsOf g.J.Job.kind s (slots_for (said ++ x ∷ [])) l) (sym pushed)
          (recorded_more g.J.Job.kind g.met.J.Job.laws s said x (map plain c.loop.records.items) (plain c.in-Ok-apply_recorded.field-0.entry) c.loop.invariant.recorded (subst (λ (t : Plain g.row.J.Denot). refusal g.J.Job.kind t Slot ≡ None) at done.exact)
          (done.kept_as ∙ ap (λ (t : Plain g.row.J.Denot). record_of g.J.Job.kind t Slot) at)));
      state = rw c.push_reserved.ensures.items (done.outcome s (slots_for said) at ∙ ap (outcome g.J.Job.kind s) (sym (slots_more said x)));
    }

pub returns-clause-ran : goal.returns-clause-ran
returns-clause-ran g c = record {
  some = omega (arith, c.loop.invariant.long, c.loop-test.false, c.requires.some, c.loop.said.ok.0);
  few = omega (arith, c.loop.invariant.long, c.loop.auto.counter-end, c.loop.said.ok.0);
  answered = c.loop.invariant.answered;
  recorded = c.loop.invariant.recorded;
  state = c.loop.invariant.state;
}

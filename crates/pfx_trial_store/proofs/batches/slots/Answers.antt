use Rattle.std.proofs.Common.{◌≡◌, ◌∷◌, [], ◌++◌, List, length, map, sym, ◌∙◌, ap, arith, length-append, subst}
use Rattle.std.specs.Prelude.{Bool, if◌then◌else◌, not}
use Rattle.pfx_store.specs.Groups.{AreRecordsOf}
use Rattle.pfx_machine.specs.declared.command.Command.TheVariants.{Slot}
use Rattle.pfx_machine.proofs.Compose.{outcome-none}
use Rattle.pfx_record.specs.Records.{plain}
use Rattle.pfx_record.specs.declared.record.Record.{Record}
use Rattle.pfx_trial_store.proofs.Slots.{records_more, records_none}
use Rattle.pfx_trial_store.proofs.batches.slots.Goals as goal

pub loop-slot-init : goal.loop-slot-init
loop-slot-init g c = record {
  records = (
    [],
    subst (λ (l : List (Record g.row.J.Denot)). AreRecordsOf g.J.Job.kind c.args.state.now [] (map plain l)) (sym c.new-records.ensures.items) (records_none g.J.Job.kind c.args.state.now),
    sym (outcome-none g.J.Job.kind c.args.state.now),
  );
  count = ap length c.new-records.ensures.items;
}

pub loop-slot-preserved : goal.loop-slot-preserved
loop-slot-preserved g c =
    let K = g.J.Job.kind in
    let s = c.args.state.now in
    let r = c.loop-slot.invariant.records in
    let long = c.loop-slot.invariant.count in
    let done = c.in-Ok.ensures in
    let more = records_more K g.met.J.Job.laws s c.loop-slot.state r.0 Slot c.loop-slot.records.items c.in-Ok.done.entry r.1 tt r.2 done.exact done.kept_as in
    let old = c.loop-slot.records.items in
    let grown : c.push.new.self.items ≡ old ++ c.in-Ok.done.entry ∷ [] =
    c.push.ensures.items ∙ ap (λ (b : Bool). if b then old ++ c.in-Ok.done.entry ∷ [] else old) (c.is_err.ensures.negation ∙ ap not c.if-is_err.false) in
    record {
      records = (
        r.0 ++ Slot ∷ [],
        subst (λ (l : List (Record g.row.J.Denot)). AreRecordsOf K s (r.0 ++ Slot ∷ []) (map plain l)) (sym grown) more,
        done.outcome s r.0 r.2,
      );
      count = omega (arith, ap length grown, long, length-append old (c.in-Ok.done.entry ∷ []));
    }

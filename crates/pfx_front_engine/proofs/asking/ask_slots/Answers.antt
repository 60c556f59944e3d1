use Rattle.std.proofs.Common.{rules, ◌<◌, ℕ, length, refl, arith}
use Rattle.pfx_machine.specs.declared.command.Command.TheVariants.{Slot}
use Rattle.pfx_machine.specs.declared.command.Reply.{Reply}
use Rattle.pfx_front_engine.proofs.Promising.{answered_next, kept_next, kept_so_far}
use Rattle.pfx_front_engine.specs.Asking.{IsAnswered, IsUnanswered}
use Rattle.pfx_front_engine.specs.KeepingLaws.{keeps_none}
use Rattle.pfx_front_engine.proofs.asking.ask_slots.Goals as goal

pub loop-init : goal.loop-init
loop-init g c = record {
  long = c.in-Ok.ensures.len;
  room = omega (arith, c.in-Ok.ensures.capacity);
  answered = rw c.in-Ok.ensures.items tt;
  kept = rw c.in-Ok.ensures.items (keeps_none _ _);
  same = λ _. refl;
}

pub loop-preserved : goal.loop-preserved
loop-preserved g c =
    let B = g.B.Named.start in
    let said = c.loop.said.items in
    let x : ℕ × Reply = c.in-Ok-ask.reply in
    let a : IsAnswered g.J.Job.kind B c.loop.client Slot x.0 x.1 c.ask.new.client = c.in-Ok-ask.ensures.ok in
    let was = c.loop.invariant in
    record {
      long = omega (arith, c.push_reserved.ensures.len, was.long);
      room = omega (arith, c.push_reserved.ensures.capacity, was.room);
      answered = rw c.push_reserved.ensures.items (answered_next g.J.Job.kind g.met.J.Job.laws B c.args.client.now c.loop.client c.ask.new.client said was.kept x was.answered a);
      kept = rw c.push_reserved.ensures.items (kept_next g.J.Job.kind g.met.J.Job.laws B c.args.client.now c.loop.client c.ask.new.client said was.kept x a);
      same = λ none. absurd (omega (arith, none, c.push_reserved.ensures.len));
    }

pub returns-in-Err-clause-ok : goal.returns-in-Err-clause-ok
returns-in-Err-clause-ok g c =
    let B = g.B.Named.start in
    let some : 0 < length c.loop.said.items = search rules in
    let u : IsUnanswered g.J.Job.kind B c.loop.client Slot c.ask.new.client c.in-Err.field-0 = c.in-Err.ensures.err in
    record {
      some = some;
      few = omega (arith, c.loop.invariant.long, c.loop-test.true);
      answered = c.loop.invariant.answered;
      kept = kept_so_far g.J.Job.kind g.met.J.Job.laws B c.args.client.now c.loop.client c.ask.new.client c.loop.said.items c.loop.invariant.kept u.stays;
    }

use Rattle.std.proofs.Common.{rules, ◌≡◌, ◌+◌, ℕ, Ok, Err, length, sym, ap, subst, ◌∙◌, arith}
use Rattle.pfx_machine.specs.Plain.{Plain}
use Rattle.pfx_machine.specs.Outcome.{outcome}
use Rattle.pfx_machine.specs.Runs.{answer}
use Rattle.pfx_machine.specs.declared.command.Command.TheVariants.{Slot}
use Rattle.pfx_machine.specs.declared.command.Reply.{Reply}
use Rattle.pfx_machine.proofs.Compose.{outcome-none}
use Rattle.pfx_store_engine.specs.Promises.{slots_for}
use Rattle.pfx_store_engine.proofs.Slots.{answered_more, none_yet, slots_more}
use Rattle.pfx_store_engine.proofs.memory.StateEngine.slots.Goals as goal

pub loop-init : goal.loop-init
loop-init g c = record {
  long = c.in-Ok.ensures.len;
  room = omega (arith, c.in-Ok.ensures.capacity);
  answered = rw c.in-Ok.ensures.items tt;
  state = rw c.in-Ok.ensures.items (sym (outcome-none g.J.Job.kind c.args.self.now));
}

pub returns-in-Err-NoRow-NoMemory-clause-not_done : goal.returns-in-Err-NoRow-NoMemory-clause-not_done
returns-in-Err-NoRow-NoMemory-clause-not_done g c =
    let none : length c.loop.said.items ≡ 0 = search rules in
    let same : c.loop.self ≡ c.args.self.now = none_yet g.J.Job.kind c.args.self.now c.loop.self c.loop.said.items none c.loop.invariant.state in
    (tt, record { state = c.in-Err.ensures.kept ∙ same; keeps = tt })

pub returns-in-Err-2 : goal.returns-in-Err-2
returns-in-Err-2 g c =
    let none : length c.loop.said.items ≡ 0 = search rules in
    let same : c.loop.self ≡ c.args.self.now = none_yet g.J.Job.kind c.args.self.now c.loop.self c.loop.said.items none c.loop.invariant.state in
    let why : answer g.J.Job.kind c.loop.self Slot ≡ Err c.in-Err.field-0 = search rules in
    record { done = tt; not_done = (subst (λ (s : Plain g.row.J.Denot). answer g.J.Job.kind s Slot ≡ Err c.in-Err.field-0) same why, record { state = c.in-Err.ensures.kept ∙ same; keeps = tt }, λ h. tt) }

pub loop-preserved : goal.loop-preserved
loop-preserved g c =
    let s = c.args.self.now in
    let said = c.loop.said.items in
    let x : ℕ × Reply = (c.number-before.result + 1, c.in-Ok-apply.reply) in
    let accepted : answer g.J.Job.kind c.loop.self Slot ≡ Ok c.in-Ok-apply.reply = search rules in
    let next : x.0 ≡ c.loop.self.number + 1 = ap (λ (n : ℕ). n + 1) c.number-before.ensures.number in
    let at = c.loop.invariant.state in
    record {
      long = omega (arith, c.push_reserved.ensures.len, c.loop.invariant.long);
      room = omega (arith, c.push_reserved.ensures.capacity, c.loop.invariant.room);
      answered = rw c.push_reserved.ensures.items (answered_more g.J.Job.kind g.met.J.Job.laws s said x c.loop.invariant.answered (subst (λ (t : Plain g.row.J.Denot). answer g.J.Job.kind t Slot ≡ Ok c.in-Ok-apply.reply) at accepted)
          (subst (λ (t : Plain g.row.J.Denot). x.0 ≡ t.number + 1) at next));
      state = rw c.push_reserved.ensures.items (c.in-Ok-apply.ensures.outcome s (slots_for said) at ∙ ap (outcome g.J.Job.kind s) (sym (slots_more said x)));
    }

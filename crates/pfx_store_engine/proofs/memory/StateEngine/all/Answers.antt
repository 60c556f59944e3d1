use Rattle.std.proofs.Common.{rules, ◌≡◌, ◌+◌, [], ℕ, Ok, Err, sym, ap, inl, refl, arith}
use Rattle.std.proofs.lemmas.List.{length_push}
use Rattle.pfx_machine.specs.Runs.{answer}
use Rattle.pfx_machine.specs.declared.command.Reply.{Reply}
use Rattle.pfx_machine.proofs.Compose.{outcome-none}
use Rattle.pfx_machine.proofs.RunLemmas.{split_next}
use Rattle.pfx_store_engine.proofs.Sharing.{change_next, change_refused, ran_err, ran_ok}
use Rattle.pfx_store_engine.proofs.memory.StateEngine.all.Goals as goal

pub returns-in_default-clause-left : goal.returns-in_default-clause-left
returns-in_default-clause-left g c = record {
  took = [];
  rest = c.args.commands.items;
  split = refl;
  said = [];
  answered = tt;
  state = inl refl;
  keeps = tt;
}

pub loop-change-init : goal.loop-change-init
loop-change-init g c = record {
  long = c.in-Ok.ensures.len;
  room = omega (arith, c.in-Ok.ensures.capacity);
  told = rw c.in-Ok.ensures.items tt;
  state = sym (outcome-none g.J.Job.kind c.args.self.now);
  split = sym c.into_iter-change-iterator.ensures.into_iter_gives.0;
}

pub loop-change-preserved-in-Ok-apply : goal.loop-change-preserved-in-Ok-apply
loop-change-preserved-in-Ok-apply g c =
    let gone = c.loop-change.yielded in
    let kept = c.loop-change.invariant in
    let command = c.in-Some.change in
    let x : ℕ × Reply = (c.number-before.result + 1, c.in-Ok-apply.reply) in
    let accepted : answer g.J.Job.kind c.loop-change.self command ≡ Ok x.1 = search rules in
    let next : x.0 ≡ c.loop-change.self.number + 1 = ap (λ (n : ℕ). n + 1) c.number-before.ensures.number in
    let both = ran_ok g.J.Job.kind g.met.J.Job.laws c.args.self.now c.loop-change.self c.apply.new.self gone c.loop-change.told.items command x kept.told kept.state accepted next c.in-Ok-apply.ensures.outcome in
    let more = length_push gone command in
    record {
      long = omega (arith, c.push_reserved.ensures.len, kept.long, more);
      room = omega (arith, c.push_reserved.ensures.capacity, kept.room);
      told = rw c.push_reserved.ensures.items both.0;
      state = rw c.push_reserved.ensures.items both.1;
      split = split_next c.args.commands.items gone command c.loop-change.change-iterator.rest.items c.next.new.self.rest.items kept.split c.in-Some.ensures.steps.0;
    }

pub loop-change-preserved : goal.loop-change-preserved
loop-change-preserved g c =
    let gone = c.loop-change.yielded in
    let kept = c.loop-change.invariant in
    let command = c.in-Some.change in
    let rest = c.loop-change.change-iterator.rest.items in
    let left = c.next.new.self.rest.items in
    let change = change_next c.args.commands.items gone command rest left c.requires.changes kept.split c.in-Some.ensures.steps.0 in
    let why : answer g.J.Job.kind c.loop-change.self command ≡ Err c.in-Err.fault = change_refused g.J.Job.kind c.loop-change.self command c.in-Err.fault change c.in-Err.ensures.exact in
    let both = ran_err g.J.Job.kind g.met.J.Job.laws c.args.self.now c.loop-change.self c.apply.new.self gone c.loop-change.told.items command c.in-Err.fault kept.told kept.state why c.in-Err.ensures.kept in
    let more = length_push gone command in
    record {
      long = omega (arith, c.push_reserved-in-Err.ensures.len, kept.long, more);
      room = omega (arith, c.push_reserved-in-Err.ensures.capacity, kept.room);
      told = rw c.push_reserved-in-Err.ensures.items both.0;
      state = rw c.push_reserved-in-Err.ensures.items both.1;
      split = split_next c.args.commands.items gone command rest left kept.split c.in-Some.ensures.steps.0;
    }

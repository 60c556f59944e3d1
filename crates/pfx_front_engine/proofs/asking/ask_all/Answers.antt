use Rattle.std.proofs.Common.{◌∷◌, [], ◌++◌, refl, sym, subst, arith}
use Rattle.std.proofs.lemmas.List.{length_push}
use Rattle.pfx_machine.proofs.RunLemmas.{split_next}
use Rattle.pfx_front_engine.proofs.Promising.{told_fails, told_next, told_none, told_refused}
use Rattle.pfx_front_engine.specs.Asking.{IsUnanswered}
use Rattle.pfx_front_engine.proofs.asking.ask_all.Goals as goal

pub returns-in_default-clause-err : goal.returns-in_default-clause-err
returns-in_default-clause-err g c = record { took = []; rest = c.args.commands.items; split = refl; said = []; asked = told_none g.J.Job.kind g.B.Named.start c.args.client.now }

pub loop-command-init : goal.loop-command-init
loop-command-init g c = record {
  long = c.in-Ok.ensures.len;
  room = omega (arith, c.in-Ok.ensures.capacity);
  asked = rw c.in-Ok.ensures.items (told_none g.J.Job.kind g.B.Named.start c.args.client.now);
  split = sym c.into_iter-command-iterator.ensures.into_iter_gives.0;
}

pub loop-command-preserved-in-Ok-ask : goal.loop-command-preserved-in-Ok-ask
loop-command-preserved-in-Ok-ask g c =
    let gone = c.loop-command.yielded in
    let kept = c.loop-command.invariant in
    let command = c.in-Some.command in
    let more = length_push gone command in
    record {
      long = omega (arith, c.push_reserved.ensures.len, kept.long, more);
      room = omega (arith, c.push_reserved.ensures.capacity, kept.room);
      asked = rw c.push_reserved.ensures.items (told_next g.J.Job.kind g.met.J.Job.laws g.B.Named.start c.args.client.now c.loop-command.client c.ask.new.client gone c.loop-command.told.items kept.asked command c.in-Ok-ask.reply c.in-Ok-ask.ensures.ok);
      split = split_next c.args.commands.items gone command c.loop-command.command-iterator.rest.items c.next.new.self.rest.items kept.split c.in-Some.ensures.steps.0;
    }

pub loop-command-preserved : goal.loop-command-preserved
loop-command-preserved g c =
    let gone = c.loop-command.yielded in
    let kept = c.loop-command.invariant in
    let command = c.in-Some.command in
    let more = length_push gone command in
    record {
      long = omega (arith, c.push_reserved-in-Err-Refused.ensures.len, kept.long, more);
      room = omega (arith, c.push_reserved-in-Err-Refused.ensures.capacity, kept.room);
      asked = rw c.push_reserved-in-Err-Refused.ensures.items
          (told_refused g.J.Job.kind g.met.J.Job.laws g.B.Named.start c.args.client.now c.loop-command.client c.ask.new.client gone c.loop-command.told.items kept.asked command c.in-Err-Refused.fault
          (subst (IsUnanswered g.J.Job.kind g.B.Named.start c.loop-command.client command c.ask.new.client) c.in-Err-Refused.field-0-is c.in-Err-Refused.ensures.err));
      split = split_next c.args.commands.items gone command c.loop-command.command-iterator.rest.items c.next.new.self.rest.items kept.split c.in-Some.ensures.steps.0;
    }

pub returns-in-Err-Failed-clause-err : goal.returns-in-Err-Failed-clause-err
returns-in-Err-Failed-clause-err g c =
    let kept = c.loop-command.invariant in
    told_fails g.J.Job.kind g.met.J.Job.laws g.B.Named.start c.args.client.now c.loop-command.client c.ask.new.client c.loop-command.yielded c.loop-command.told.items kept.asked c.args.commands.items c.in-Some.command
    c.loop-command.command-iterator.rest.items c.in-Err-Failed.fault kept.split
    (subst (IsUnanswered g.J.Job.kind g.B.Named.start c.loop-command.client c.in-Some.command c.ask.new.client) c.in-Err-Failed.field-0-is c.in-Err-Failed.ensures.err)

use Rattle.std.proofs.Common.{◌≡◌, ◌≤◌, Some, sym, ap, ◌∙◌, subst, arith, length}
use Rattle.std.proofs.Math.Logic.{∥∥₁_map}
use Rattle.pfx_front_board.specs.Word.{records_of}
use Rattle.pfx_record_redo.specs.Applying.{applied}
use Rattle.pfx_record_redo.proofs.States.{applied_behind}
use Rattle.pfx_front_board.specs.Lasting.{Recovers}
use Rattle.pfx_front.specs.Lasting.{HasNumber}
use Rattle.pfx_front.proofs.durable.Acknowledged.new.Goals as goal

pub invariant_of-result-clause-durable : goal.invariant_of-result-clause-durable
invariant_of-result-clause-durable g c held image left =
    let K = g.J.Job.kind in
    let o = g.B.Begun.origin in
    let word = c.new.result.word in
    let reaches = c.new.result.reaches in
    ∥∥₁_map (c.args.durable.durable held image left) (λ (r : Recovers K o c.args.durable.word image).
    let leads : applied K o (records_of word) ≡ Some r.state = subst (λ w. applied K o (records_of w) ≡ Some r.state) (sym c.new.ensures.word) r.leads in
    let behind = (applied_behind K o r.state (records_of word) leads).number in
    record {
      recovers = record { state = r.state; recovered = r.recovered; leads = leads };
      number = omega (arith, reaches, behind);
    })

pub invariant_of-result-clause-given : goal.invariant_of-result-clause-given
invariant_of-result-clause-given g c = c.args.durable.last_is c.in-Some.mark c.in-Some.is

use Rattle.std.proofs.Common.{◌≡◌, drop, length}
use Rattle.pfx_record.specs.Effect.{jobs_from}
use Rattle.pfx_record.specs.Records.{ran}
use Rattle.pfx_record_redo.proofs.applying.put_states.Given as goal

-- the states that are left make of the jobs what the whole row makes of the first ones
abbrev pub invariant-loop-place : goal.invariant-loop-place
invariant-loop-place g l = record {
  jobs : jobs_from (ran (drop l.place-index l.row)) 0 l.state.jobs ≡ jobs_from (ran l.row) 0 l.initial.state.jobs;
  number : l.state.number ≡ l.initial.state.number;
  from : l.state.from ≡ l.initial.state.from;
  ledger : l.state.ledger ≡ l.initial.state.ledger;
  segment : l.state.segment ≡ l.initial.state.segment;
  long : length l.state.jobs ≡ length l.initial.state.jobs;
}

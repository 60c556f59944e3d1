use Rattle.std.proofs.Common.{ap, rules, subst, sym}
use Rattle.pfx_store_header.specs.Headers.{IsSegmentSize}
use Rattle.pfx_machine.specs.Plain.{Plain, empty}
use Rattle.pfx_store.specs.Stores.{as_store}
use Rattle.pfx_store.specs.Working.{MakesStore}
use Rattle.pfx_store.proofs.Made.{left_alone, still_none}
use Rattle.pfx_store.proofs.making.made_empty.Goals as goal

pub made-requires : goal.made-requires
made-requires g c = record {
  same = ap (λ (s : Plain g.row.J.Denot). s.ledger.set) c.in-Ok.ensures;
  size = subst (λ (s : Plain g.row.J.Denot). IsSegmentSize s.ledger.set.workers s.segment) (sym c.in-Ok.ensures) c.requires;
}

pub returns-in_default : goal.returns-in_default
returns-in_default g c = record {
  unmade = record { size = search rules; device = λ is. search rules; not_empty = λ honest is. search rules; one_call = λ is. search rules; unasked = λ never. search rules };
  vacant = λ honest some. left_alone (g.D.Disk.view c.args.disk) honest;
  calls = record { only = search rules; calls_made = search rules; honest = search rules; takes = record { ok = search rules; later = search rules; at_most = search rules; no_fewer = search rules } };
  made = search rules;
  stands = search rules;
  recovers = λ honest. still_none g.J.Job.kind (empty c.args.set.now c.args.segment) (g.D.Disk.view c.args.disk);
}

pub returns : goal.returns
returns g c = subst (λ s. MakesStore g.D.Disk.view g.J.Job.kind s c.args.disk (as_store c.made.result)) c.in-Ok.ensures c.made.ensures

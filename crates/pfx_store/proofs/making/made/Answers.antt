use Rattle.std.proofs.Common.{rules}
use Rattle.pfx_store.proofs.Made.{left_alone, still_none}
use Rattle.pfx_store.proofs.making.made.Goals as goal

pub returns-in_default : goal.returns-in_default
returns-in_default g c = record {
  unmade = record { size = search rules; device = λ is. search rules; not_empty = λ honest is. search rules; one_call = λ is. search rules; unasked = λ never. search rules };
  vacant = λ honest some. left_alone (g.D.Disk.view c.args.disk) honest;
  calls = record { only = search rules; calls_made = search rules; honest = search rules; takes = record { ok = search rules; later = search rules; at_most = search rules; no_fewer = search rules } };
  made = search rules;
  stands = search rules;
  recovers = λ honest. still_none g.J.Job.kind c.args.state (g.D.Disk.view c.args.disk);
}

pub returns-in_default-frozen : goal.returns-in_default-frozen
returns-in_default-frozen g c = record {
  unmade = record { size = search rules; device = λ is. search rules; not_empty = λ honest is. search rules; one_call = λ is. search rules; unasked = λ never. search rules };
  vacant = λ honest some. left_alone (g.D.Disk.view c.args.disk) honest;
  calls = record { only = search rules; calls_made = search rules; honest = search rules; takes = record { ok = search rules; later = search rules; at_most = search rules; no_fewer = search rules } };
  made = search rules;
  stands = search rules;
  recovers = λ honest. still_none g.J.Job.kind c.args.state (g.D.Disk.view c.args.disk);
}

pub returns-in_default-with_capacity : goal.returns-in_default-with_capacity
returns-in_default-with_capacity g c = record {
  unmade = record { size = search rules; device = λ is. search rules; not_empty = λ honest is. search rules; one_call = λ is. search rules; unasked = λ never. search rules };
  vacant = λ honest some. left_alone (g.D.Disk.view c.args.disk) honest;
  calls = record { only = search rules; calls_made = search rules; honest = search rules; takes = record { ok = search rules; later = search rules; at_most = search rules; no_fewer = search rules } };
  made = search rules;
  stands = search rules;
  recovers = λ honest. still_none g.J.Job.kind c.args.state (g.D.Disk.view c.args.disk);
}

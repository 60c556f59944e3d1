-- Which state the plain numbers and jobs are.
use Rattle.pfx_machine.specs.Plain.{Plain}
use Rattle.pfx_replay.specs.Shown.{ledger_of}
use Rattle.pfx_replay.specs.declared.jobs.PlainState.{PlainState}

abbrev pub plain_of : {J : Type 0} → PlainState J → Plain J
plain_of s = record { number = s.number; from = s.from; ledger = ledger_of s.ledger; jobs = s.jobs.items; segment = s.segment }

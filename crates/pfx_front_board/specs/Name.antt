-- The state that stands for none.
use Rattle.std.specs.Prelude.{[]}
use Rattle.pfx_machine.specs.Plain.{Plain}

-- the state of no board
abbrev pub nowhere : {J : Type 0} → Plain J
nowhere = record { number = 0; from = 0; ledger = record { set = record { workers = 0; real = 0; hyper = 0; weights = [] }; slot = 0; allocs = [] }; jobs = []; segment = 0 }

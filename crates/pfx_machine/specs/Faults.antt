-- The refusal that says nothing of the state.
use Rattle.pfx_choice.specs.declared.faults.ChoiceFault.TheVariants.{NoMemory}
use Rattle.pfx_machine.specs.declared.faults.MachineFault.{MachineFault}
use Rattle.pfx_machine.specs.declared.faults.MachineFault.TheVariants.{NoRow}

-- an allocation failed, which a Slot and a Reweigh need
abbrev pub no_memory : MachineFault
no_memory = NoRow NoMemory

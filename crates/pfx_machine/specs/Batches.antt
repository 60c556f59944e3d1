-- Which commands may be kept in one batch.
use Rattle.std.specs.Prelude.{List, [], ◌∷◌, ⊤}
use Rattle.pfx_machine.specs.declared.command.Command.{Command}
use Rattle.pfx_machine.specs.declared.command.Command.TheVariants.{Submit, Slot, Withdraw, Reweigh}

module _ {J : Type 0} where
  -- a command that may share a batch with others: all but a Reweigh
  abbrev pub IsCommon : Command J → Type 0
  IsCommon (Submit task job) = ⊤
  IsCommon (Withdraw task) = ⊤
  IsCommon Slot = ⊤
  IsCommon (Reweigh workers weights) = ⊥

  abbrev pub AreCommon : List (Command J) → Type 0
  AreCommon [] = ⊤
  AreCommon (c ∷ H) = IsCommon c × AreCommon H

  -- the commands may be a batch: one alone, or common ones
  abbrev pub IsBatchable : List (Command J) → Type 0
  IsBatchable [] = ⊤
  IsBatchable (c ∷ []) = ⊤
  IsBatchable (c ∷ d ∷ H) = AreCommon (c ∷ d ∷ H)

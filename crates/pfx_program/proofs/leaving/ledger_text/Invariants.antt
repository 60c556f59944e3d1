use Rattle.std.proofs.Common.{◌≡◌, ◌++◌, drop, string_bytes}
use denote.Text.{Utf8}
use denote.Shadow.{shadow}
use Rattle.pfx_program.specs.Leaving.{numbers_after, ledger_text}
use Rattle.pfx_program.proofs.leaving.ledger_text.Given as goal

-- what is written so far stands before the numbers that are left
abbrev pub invariant-loop-x : goal.invariant-loop-x
invariant-loop-x l = shadow (Utf8 l.sign) × (string_bytes l.text ++ numbers_after l.sign (drop l.x l.columns.allocs) ≡ ledger_text l.columns)

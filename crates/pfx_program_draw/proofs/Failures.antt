-- A start that is refused is no picture.
use Rattle.std.proofs.Common.{ℕ, List, Option, inl}
use Rattle.pfx_fault.specs.declared.refusals.Fault.{Fault}
use Rattle.pfx_fault.specs.declared.refusals.Fault.TheVariants as fault
use Rattle.pfx_program_draw.specs.Start.{StartIsRefused}
use Rattle.pfx_program_draw.specs.Picture.{PictureFails}

pub refused_fails : (bytes : List ℕ) (at : Option (List ℕ)) (slots : ℕ) (f : Fault) → StartIsRefused bytes at f → PictureFails bytes at slots f
refused_fails bytes at slots fault.InputFailed h = tt
refused_fails bytes at slots fault.NoMemory h = tt
refused_fails bytes at slots other h = inl h

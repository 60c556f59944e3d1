use Rattle.std.proofs.Common.{◌≡◌, ◌+◌, ◌∙◌, ap, List, ℕ, drop, arith, length-drop}
use Rattle.std.proofs.lemmas.List.{get_or-drop, take_rest}
use Rattle.byteorder.specs.Endian.{little_number}
use Rattle.pfx_record.proofs.Again.{begins_number}
use Rattle.pfx_record.proofs.numbers.u16_at.Goals as goal

pub returns-clause-value : goal.returns-clause-value
returns-clause-value c = c.read_u16.ensures ∙ ap (λ (l : List ℕ). little_number 2 l) (take_rest c.args.bytes.now c.args.at)

pub returns-clause-begins : goal.returns-clause-begins
returns-clause-begins c =
    let bytes = c.args.bytes.now in
    let rest = drop c.args.at bytes in
    let is : c.read_u16.result ≡ little_number 2 rest = c.read_u16.ensures ∙ ap (λ (l : List ℕ). little_number 2 l) (take_rest bytes c.args.at) in
    begins_number 2 rest c.read_u16.result (omega (arith, length-drop c.args.at bytes, c.requires))
    (λ i. omega (arith, c.type_inv.bytes (c.args.at + i), get_or-drop c.args.at bytes i 0)) is

use Rattle.std.proofs.Common.{◌≡◌, ◌+◌, ◌++◌, ◌∙◌, ap, arith, take, append_assoc}
use Rattle.std.specs.Prelude.{ℕ}
use Rattle.byteorder.specs.Endian.{little_bytes}
use Rattle.pfx_store_header.proofs.writing.put_task.Goals as goal

pub returns-clause-front : goal.returns-clause-front
returns-clause-front c =
    let at = c.args.at in
    let a = little_bytes 4 c.args.weight.0 in
    let b = little_bytes 4 c.args.weight.1 in
    let end : at + 8 ≡ at + 4 + 4 = omega arith in
    ap (λ (n : ℕ). take n c.put_u32-2.new.out) end
    ∙ (c.put_u32-2.ensures.front
    ∙ (ap (λ t. t ++ b) c.put_u32.ensures.front
    ∙ append_assoc (take at c.args.out.now) a b))

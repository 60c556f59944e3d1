use Rattle.std.proofs.Common.{◌≡◌, ◌++◌, ◌∷◌, [], ◌∙◌, ap, arith, length}
use Rattle.std.proofs.lemmas.List.{take_more_set}
use Rattle.byteorder.specs.Endian.{little_bytes}
use Rattle.pfx_columns.specs.Ledgers.{Ledger}
use Rattle.pfx_machine.specs.Plain.{whole}
use Rattle.pfx_checkpoint.proofs.whole.put_before.Goals as goal

pub returns-clause-front : goal.returns-clause-front
returns-clause-front g c =
    let s = c.args.state.now in
    let third = c.put_number-3.new.bytes in
    let m = c.workers.result in
    let number : c.number.result ≡ s.number = c.number.ensures.number in
    let slot : c.slot.result ≡ whole s = c.slot.ensures.slot in
    let from : c.from.result ≡ s.from = c.from.ensures in
    let workers : m ≡ s.ledger.set.workers = c.workers.ensures ∙ ap (λ (l : Ledger). l.set.workers) c.columns-2.ensures in
    let long : length third ≡ length c.args.head.now = c.put_number-3.ensures.long ∙ (c.put_number-2.ensures.long ∙ c.put_number.ensures.long) in
    take_more_set third 24 m (omega (arith, long, c.requires))
    ∙ (ap (λ t. t ++ m ∷ []) c.put_number-3.ensures.front
    ∙ (ap (λ t. (t ++ little_bytes 8 c.from.result) ++ m ∷ []) c.put_number-2.ensures.front
    ∙ (ap (λ t. ((t ++ little_bytes 8 c.slot.result) ++ little_bytes 8 c.from.result) ++ m ∷ []) c.put_number.ensures.front
    ∙ (λ i. little_bytes 8 (number i) ++ (little_bytes 8 (slot i) ++ (little_bytes 8 (from i) ++ workers i ∷ []))))))

use Rattle.std.proofs.Common.{rules, ◌≡◌, ◌++◌, ◌∷◌, [], ◌∙◌, ap, arith, length}
use Rattle.byteorder.specs.Endian.{little_bytes}
use Rattle.sha2.specs.Sha256.{sha256}
use Rattle.pfx_log.proofs.Joined.{header_pieces}
use Rattle.pfx_log.proofs.Spelled.{small_bytes}
use Rattle.pfx_log.proofs.heads.first_head.Goals as goal

pub returns-clause-value : goal.returns-clause-value
returns-clause-value c =
    let front = c.header_front-letters.result in
    let state = c.args.state.now in
    let before = c.args.before.now in
    let is : front ≡ (0x50 ∷ 0x46 ∷ 0x58 ∷ 0x41 ∷ 0x55 ∷ 0x44 ∷ 0x49 ∷ 0x54 ∷ 1 ∷ c.args.version ∷ []) ++ little_bytes 4 (length state) = search rules in
    let h1 = c.update.ensures [] c.new-hasher.ensures in
    let h2 = c.update-2.ensures front h1 in
    let h3 = c.update-3.ensures (front ++ state) h2 in
    c.finalize.ensures ((front ++ state) ++ before) h3 ∙ ap sha256 (header_pieces c.args.version front state before is)

pub returns-clause-bytes : goal.returns-clause-bytes
returns-clause-bytes c = (small_bytes c.args.state.now (λ i. omega (arith, c.type_inv.state i)), small_bytes c.args.before.now (λ i. omega (arith, c.type_inv.before i)))

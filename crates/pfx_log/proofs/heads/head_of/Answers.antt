use Rattle.std.proofs.Common.{◌++◌, [], ◌∙◌, ap, arith}
use Rattle.sha2.specs.Sha256.{sha256}
use Rattle.pfx_log.proofs.Joined.{hashed}
use Rattle.pfx_log.proofs.Spelled.{small_bytes}
use Rattle.pfx_log.proofs.heads.head_of.Goals as goal

pub returns-clause-value : goal.returns-clause-value
returns-clause-value c =
    let head = c.args.head.now in
    let front = c.block_front-front.result in
    let frames = c.args.frames.now in
    let h1 = c.update.ensures [] c.new-hasher.ensures in
    let h2 = c.update-2.ensures head h1 in
    let h3 = c.update-3.ensures (head ++ front) h2 in
    c.finalize.ensures ((head ++ front) ++ frames) h3 ∙ ap sha256 (hashed head front frames c.args.first c.args.last c.block_front-front.ensures)

pub returns-clause-bytes : goal.returns-clause-bytes
returns-clause-bytes c = small_bytes c.args.frames.now (λ i. omega (arith, c.type_inv.frames i))

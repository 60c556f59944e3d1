use Rattle.std.proofs.Common.{rules, ◌≡◌, List, ℕ, [], ◌∷◌, ◌++◌, ◌∙◌, ap, length}
use Rattle.byteorder.specs.Endian.{little_bytes}
use Rattle.pfx_log.proofs.Joined.{header_pieces}
use Rattle.pfx_log.proofs.heads.header_and_gate.Goals as goal

pub returns : goal.returns
returns c =
    let front = c.header_front-front.result in
    let state = c.args.state.now in
    let before = c.args.before.now in
    let is : front ≡ (0x50 ∷ 0x46 ∷ 0x58 ∷ 0x41 ∷ 0x55 ∷ 0x44 ∷ 0x49 ∷ 0x54 ∷ 1 ∷ c.args.version ∷ []) ++ little_bytes 4 (length state) = search rules in
    let i1 = c.in_ok-extend_from_slice.ensures.items ∙ ap (λ (l : List ℕ). l ++ front) c.in_ok-bytes.ensures.items in
    let i2 = c.in_ok-extend_from_slice-2.ensures.items ∙ ap (λ (l : List ℕ). l ++ state) i1 in
    let i3 = c.in_ok-extend_from_slice-3.ensures.items ∙ ap (λ (l : List ℕ). l ++ before) i2 in
    c.in_ok-push.ensures.items ∙ ap (λ (l : List ℕ). l ++ 0 ∷ []) (i3 ∙ header_pieces c.args.version front state before is)

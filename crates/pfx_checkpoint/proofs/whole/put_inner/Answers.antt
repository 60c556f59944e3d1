use Rattle.std.proofs.Common.{◌≡◌, ◌+◌, ◌*◌, ◌-◌, ◌++◌, [], length, take, drop, ◌∙◌, ap, ap₂, arith, append_assoc, append-nil}
use Rattle.std.specs.Prelude.{ℕ}
use Rattle.std.proofs.Math.ListN.{drop_of_length-le}
use Rattle.std.proofs.lemmas.List.{length-drop}
use Rattle.byteorder.specs.Endian.{little_bytes}
use Rattle.pfx_checkpoint.specs.Found.{number_at}
use Rattle.pfx_checkpoint.specs.Spelling.{state_len}
use Rattle.pfx_checkpoint.proofs.whole.put_inner.Goals as goal

pub returns : goal.returns
returns c =
    let set = c.args.set.now in
    let bytes = c.args.bytes.now in
    let room = c.put_number-2.new.bytes in
    let copy = c.copy_from_slice.new.self in
    let real = c.real.ensures in
    let len = c.state_len-len.ensures in
    let number = little_bytes 8 (number_at 0 bytes) in
    let slot = little_bytes 8 (number_at 8 bytes - number_at 16 bytes) in
    let slot_is : c.saturating_sub-slot.result ≡ number_at 8 bytes - number_at 16 bytes =
    c.saturating_sub-slot.ensures ∙ ap₂ (λ (a b : ℕ). a - b) c.number_at-2.ensures c.number_at-3.ensures in
    let front : take 16 room ≡ number ++ slot =
    c.put_number-2.ensures.front ∙ ap₂ (λ x n. x ++ little_bytes 8 n) (c.put_number.ensures.front ∙ ap (little_bytes 8) c.number_at.ensures) slot_is in
    let count : 25 + 8 * c.real.result + (c.state_len-len.result - 16) - (25 + 8 * c.real.result) ≡ state_len set - 16 = omega (arith, len) in
    let at : 25 + 8 * c.real.result ≡ 25 + 8 * set.real = omega (arith, real) in
    let tasks = take (state_len set - 16) (drop (25 + 8 * set.real) bytes) in
    let copied : copy ≡ tasks = c.copy_from_slice.ensures.after ∙ ap₂ (λ (n m : ℕ). take n (drop m bytes)) count at in
    let left = length-drop 16 room in
    let none : drop (length room - 16) (drop 16 room) ≡ [] = drop_of_length-le (drop 16 room) (omega (arith, left)) in
    ap₂ (λ x y. x ++ (copy ++ y)) front none
    ∙ (ap (λ t. (number ++ slot) ++ t) (append-nil copy ∙ copied) ∙ append_assoc number slot tasks)

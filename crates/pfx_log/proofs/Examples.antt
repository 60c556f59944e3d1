-- Worked rows: what the definitions say of small logs, and what each of their fields refuses.
use Rattle.std.proofs.Common.{◌≡◌, ⊎_elim, ℕ, ◌+◌, ◌^◌, ◌≤◌, ◌<◌, List, [], ◌∷◌, length, get_or, refl, sym, ap, arith}
use Rattle.pfx_disk.specs.declared.gates.TheConstants.{GATE_OPEN}
use Rattle.pfx_log.specs.Holding.{IsShutBehind, IsUnmade}
use Rattle.pfx_log.specs.Logs.{AreBlocks, IsBlock, IsHeader, block_of, block_text, header_text, log_bytes, new_log, number_behind, number_of, with_block}
use Rattle.pfx_log.specs.declared.place.TheConstants.{MOST}

header_row : header_text (new_log 2 (7 ∷ 8 ∷ []) (9 ∷ [])) ≡ 0x50 ∷ 0x46 ∷ 0x58 ∷ 0x41 ∷ 0x55 ∷ 0x44 ∷ 0x49 ∷ 0x54 ∷ 1 ∷ 2 ∷ 2 ∷ 0 ∷ 0 ∷ 0 ∷ 7 ∷ 8 ∷ 9 ∷ []
unfolding header_text
header_row = refl

block_row : block_text (block_of 6 258 (1 ∷ 2 ∷ 3 ∷ [])) ≡ 3 ∷ 0 ∷ 0 ∷ 0 ∷ 0 ∷ 0 ∷ 0 ∷ 0 ∷ 6 ∷ 0 ∷ 0 ∷ 0 ∷ 0 ∷ 0 ∷ 0 ∷ 0 ∷ 2 ∷ 1 ∷ 0 ∷ 0 ∷ 0 ∷ 0 ∷ 0 ∷ 0 ∷ 1 ∷ 2 ∷ 3 ∷ []
unfolding block_text
block_row = refl

-- a log without blocks is its header behind an open gate
log_row : log_bytes (new_log 2 (7 ∷ []) []) ≡ GATE_OPEN ∷ 0x50 ∷ 0x46 ∷ 0x58 ∷ 0x41 ∷ 0x55 ∷ 0x44 ∷ 0x49 ∷ 0x54 ∷ 1 ∷ 2 ∷ 1 ∷ 0 ∷ 0 ∷ 0 ∷ 7 ∷ []
unfolding log_bytes header_text
log_row = refl

number_row : number_of (5 ∷ 1 ∷ 0 ∷ 0 ∷ 0 ∷ 0 ∷ 0 ∷ 0 ∷ 9 ∷ []) ≡ 261
number_row = refl

last_row : number_behind 5 (block_of 6 6 [] ∷ block_of 7 9 [] ∷ []) ≡ 9
last_row = refl

more_row : (with_block (new_log 2 [] []) (block_of 6 6 [])).blocks ≡ block_of 6 6 [] ∷ []
more_row = refl

-- what a header refuses

not_version : (state before : List ℕ) → IsHeader (new_log 256 state before) → ⊥
not_version state before is = let v = is.version in omega (arith, v)

not_short : (before : List ℕ) → IsHeader (new_log 2 (5 ∷ 0 ∷ 0 ∷ 0 ∷ 0 ∷ 0 ∷ 0 ∷ []) before) → ⊥
not_short before is = let s = is.some in omega (arith, s)

not_long : (state before : List ℕ) → length state ≡ MOST + 1 → IsHeader (new_log 2 state before) → ⊥
not_long state before long is = let m = is.most in omega (arith, m, long)

not_head : (state : List ℕ) → IsHeader (new_log 2 state (1 ∷ [])) → ⊥
not_head state is = let l : 1 ≡ 32 = is.long in omega (arith, l)

not_state : (state before : List ℕ) → IsHeader (new_log 2 (256 ∷ state) before) → ⊥
not_state state before is = let b : 256 < 256 = is.state 0 0 (omega arith) in omega (arith, b)

not_before : (state before : List ℕ) → IsHeader (new_log 2 state (256 ∷ before)) → ⊥
not_before state before is = let b : 256 < 256 = is.before 0 0 (omega arith) in omega (arith, b)

-- what a block behind the number 5 refuses

not_next : (frames : List ℕ) → IsBlock 5 (block_of 7 7 frames) → ⊥
not_next frames is = let n : 7 ≡ 6 = is.next in omega (arith, n)

not_backwards : (frames : List ℕ) → IsBlock 5 (block_of 6 5 frames) → ⊥
not_backwards frames is = let s : 6 ≤ 5 = is.some in omega (arith, s)

not_small : (frames : List ℕ) → IsBlock 5 (block_of 6 (2 ^ 64) frames) → ⊥
not_small frames is = let s = is.small in omega (arith, s)

not_frames : (frames : List ℕ) → length frames ≡ MOST + 1 → IsBlock 5 (block_of 6 6 frames) → ⊥
not_frames frames long is = let m = is.most in omega (arith, m, long)

not_bytes : (frames : List ℕ) → IsBlock 5 (block_of 6 6 (256 ∷ frames)) → ⊥
not_bytes frames is = let b : 256 < 256 = is.bytes 0 0 (omega arith) in omega (arith, b)

-- nor do blocks leave a number out
not_gap : AreBlocks 5 (block_of 6 6 [] ∷ block_of 8 8 [] ∷ []) → ⊥
not_gap are = let n : 8 ≡ 7 = are.1.0.next in omega (arith, n)

-- a closed gate behind the bytes, and none

shut_row : IsShutBehind (1 ∷ 2 ∷ []) (1 ∷ 2 ∷ 0 ∷ 9 ∷ [])
shut_row = record { gate = 0; rest = 9 ∷ []; whole = refl; shut = λ opened. omega (arith, opened) }

not_open : IsShutBehind [] (GATE_OPEN ∷ 9 ∷ []) → ⊥
not_open is = is.shut (sym (ap (λ l. get_or l 0 0) is.whole))

not_cut : IsShutBehind (1 ∷ 2 ∷ []) (1 ∷ 2 ∷ []) → ⊥
not_cut is = let long = ap length is.whole in omega (arith, long)

not_front : IsShutBehind (1 ∷ []) (2 ∷ 0 ∷ []) → ⊥
not_front is = let first : 2 ≡ 1 = ap (λ l. get_or l 0 0) is.whole in omega (arith, first)

not_unmade : IsUnmade (GATE_OPEN ∷ 9 ∷ []) → ⊥
not_unmade is = ⊎_elim (λ few. omega (arith, few)) (λ shut. not_open shut) is

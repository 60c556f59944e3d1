-- Bytes that were written one piece behind the other.
use Rattle.std.proofs.Common.{◌≡◌, ℕ, List, [], ◌∷◌, ◌++◌, length, ◌∙◌, ap, append_assoc}
use Rattle.byteorder.specs.Endian.{little_bytes}
use Rattle.pfx_log.specs.Logs.{block_of, block_text, header_text, new_log}

-- a front and frames are a block
pub front_and_frames : (front frames : List ℕ) (first last : ℕ) → front ≡ little_bytes 8 (length frames) ++ (little_bytes 8 first ++ little_bytes 8 last) → front ++ frames ≡ block_text (block_of first last frames)
unfolding block_text
front_and_frames front frames first last is =
    ap (λ f. f ++ frames) is ∙ append_assoc (little_bytes 8 (length frames)) (little_bytes 8 first ++ little_bytes 8 last) frames
    ∙ ap (λ t. little_bytes 8 (length frames) ++ t) (append_assoc (little_bytes 8 first) (little_bytes 8 last) frames)

pub hashed : (head front frames : List ℕ) (first last : ℕ) → front ≡ little_bytes 8 (length frames) ++ (little_bytes 8 first ++ little_bytes 8 last) → (head ++ front) ++ frames ≡ head ++ block_text (block_of first last frames)
hashed head front frames first last is = append_assoc head front frames ∙ ap (λ t. head ++ t) (front_and_frames front frames first last is)

-- a header's front, state and head before it
pub header_pieces : (version : ℕ) (front state before : List ℕ) → front ≡ (0x50 ∷ 0x46 ∷ 0x58 ∷ 0x41 ∷ 0x55 ∷ 0x44 ∷ 0x49 ∷ 0x54 ∷ 1 ∷ version ∷ []) ++ little_bytes 4 (length state)
    → (front ++ state) ++ before ≡ header_text (new_log version state before)
unfolding header_text
header_pieces version front state before is =
    append_assoc front state before ∙ ap (λ f. f ++ (state ++ before)) is
    ∙ append_assoc (0x50 ∷ 0x46 ∷ 0x58 ∷ 0x41 ∷ 0x55 ∷ 0x44 ∷ 0x49 ∷ 0x54 ∷ 1 ∷ version ∷ []) (little_bytes 4 (length state)) (state ++ before)

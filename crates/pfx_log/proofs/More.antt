-- A log with one block more.
use Rattle.std.proofs.Common.{◌≡◌, ℕ, ◌+◌, List, [], ◌∷◌, ◌++◌, length, refl, sym, ◌∙◌, ap, arith, append_assoc, append-nil, length-append}
use Rattle.pfx_disk.specs.declared.gates.TheConstants.{GATE_OPEN}
use Rattle.pfx_log.specs.Logs.{AreBlocks, Block, IsBlock, IsLog, Log, block_bytes, block_text, blocks_bytes, head_behind, head_of, header_text, last_head, last_number, log_bytes, number_behind, number_of, with_block}
use Rattle.pfx_log.proofs.Fronts.{block_long}
use Rattle.pfx_log.proofs.Hashes.{sha256_long}

blocks_more : (us : List Block) (h : List ℕ) (b : Block) → blocks_bytes h (us ++ b ∷ []) ≡ blocks_bytes h us ++ block_bytes (head_behind h us) b
blocks_more [] h b = append-nil (block_bytes h b)
blocks_more (u ∷ us) h b = ap (λ l. block_bytes h u ++ l) (blocks_more us (head_of h u) b) ∙ sym (append_assoc (block_bytes h u) (blocks_bytes (head_of h u) us) (block_bytes (head_behind (head_of h u) us) b))

head_more : (us : List Block) (h : List ℕ) (b : Block) → head_behind h (us ++ b ∷ []) ≡ head_of (head_behind h us) b
head_more [] h b = refl
head_more (u ∷ us) h b = head_more us (head_of h u) b

number_more : (us : List Block) (n : ℕ) (b : Block) → number_behind n (us ++ b ∷ []) ≡ b.last
number_more [] n b = refl
number_more (u ∷ us) n b = number_more us u.last b

are_more : (us : List Block) (n : ℕ) (b : Block) → AreBlocks n us → IsBlock (number_behind n us) b → AreBlocks n (us ++ b ∷ [])
are_more [] n b are is = (is, tt)
are_more (u ∷ us) n b are is = (are.0, are_more us u.last b are.1 is)

pub log_more : (l : Log) (b : Block) → log_bytes (with_block l b) ≡ log_bytes l ++ block_bytes (last_head l) b
unfolding log_bytes header_text
log_more l b = ap (λ t. (GATE_OPEN ∷ header_text l) ++ t) (blocks_more l.blocks _ b) ∙ sym (append_assoc (GATE_OPEN ∷ header_text l) (blocks_bytes _ l.blocks) (block_bytes _ b))

pub last_head_more : (l : Log) (b : Block) → last_head (with_block l b) ≡ head_of (last_head l) b
unfolding header_text
last_head_more l b = head_more l.blocks _ b

pub last_number_more : (l : Log) (b : Block) → last_number (with_block l b) ≡ b.last
last_number_more l b = number_more l.blocks (number_of l.state) b

pub is_log_more : (l : Log) (b : Block) → IsLog l → IsBlock (last_number l) b → IsLog (with_block l b)
is_log_more l b is block = record {
  header = record { version = is.header.version; some = is.header.some; most = is.header.most; long = is.header.long; state = is.header.state; before = is.header.before };
  blocks = are_more l.blocks (number_of l.state) b is.blocks block;
}

pub block_bytes_long : (h : List ℕ) (b : Block) → length (block_bytes h b) ≡ 57 + length b.frames
block_bytes_long h b = let one = length-append (block_text b) (head_of h b) in let two = block_long b in let three = sha256_long (h ++ block_text b) in omega (arith, one, two, three)

pub log_more_long : (l : Log) (b : Block) → length (log_bytes (with_block l b)) ≡ length (log_bytes l) + 57 + length b.frames
log_more_long l b = ap length (log_more l b) ∙ length-append (log_bytes l) (block_bytes (last_head l) b) ∙ (let long = block_bytes_long (last_head l) b in omega (arith, long))

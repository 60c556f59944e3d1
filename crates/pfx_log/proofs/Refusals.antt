-- What is refused holds no log.
use Rattle.std.proofs.Common.{◌≡◌, ◌≢◌, ⊎_elim, ℕ, ◌+◌, ◌≤◌, List, [], ◌∷◌, ◌++◌, length, get_or, take, drop, refl, sym, ◌∙◌, ap, subst, arith, length-append}
use Rattle.byteorder.specs.Endian.{little_bytes, little_number}
use Rattle.byteorder.specs.Numbers.{length-bytes_low_first, little_number-reads_back}
use Rattle.pfx_disk.specs.declared.gates.TheConstants.{GATE_OPEN}
use Rattle.pfx_log.specs.Faults.{IsBlockFault, IsFault, IsHeaderFault, IsOfMachine, state_len}
use Rattle.pfx_log.specs.Holding.{Holds}
use Rattle.pfx_log.specs.Logs.{AreBlocks, Block, IsBlock, Log, block_text, blocks_bytes, first_head, head_of, last_head, last_number, mark}
use Rattle.pfx_log.specs.declared.faults.Damage.TheVariants.{Header, Block as BlockIs, Number, Head}
use Rattle.pfx_log.specs.declared.faults.LogFault.{LogFault}
use Rattle.pfx_log.specs.declared.faults.LogFault.TheVariants.{NoMemory, Device, NotALog, WrongVersion, Damaged, TooLong}
use Rattle.pfx_log.proofs.Chains.{is_more, log_split, regrouped}
use Rattle.pfx_log.proofs.Hashes.{sha256_long}
use Rattle.pfx_log.proofs.Strings.{block_split, fronts, header_split, heads_of, is_sized, long_number, one_block, one_number}

module _ (image : List ℕ) (l : Log) (holds : Holds image l) where
  -- what stands behind the state's length
  behind : List ℕ
  behind = l.state ++ (l.before ++ (blocks_bytes (first_head l) l.blocks ++ holds.stands.gate ∷ holds.stands.rest))

  image_is : image ≡ (mark ++ (1 ∷ l.version ∷ [])) ++ (little_bytes 4 (length l.state) ++ (l.state ++ (l.before ++ (blocks_bytes (first_head l) l.blocks ++ holds.stands.gate ∷ holds.stands.rest))))
  image_is = holds.stands.whole ∙ log_split l (holds.stands.gate ∷ holds.stands.rest)
      ∙ ap (λ t. GATE_OPEN ∷ t) (header_split l (blocks_bytes (first_head l) l.blocks ++ holds.stands.gate ∷ holds.stands.rest))

  letters : take 9 image ≡ mark
  letters = ap (take 9) image_is

  version : get_or image 9 0 ≡ 1
  version = ap (λ t. get_or t 9 0) image_is

  state_is : state_len image ≡ length l.state
  state_is = ap (λ t. little_number 4 (drop 11 t)) image_is ∙ little_number-reads_back 4 (length l.state) behind (let m = holds.is_log.header.most in omega (arith, m))

  long_image : 48 + length l.state ≤ length image
  long_image =
      let whole = ap length image_is in
      let a = length-bytes_low_first 0 4 (length l.state) in
      let b = length-append (little_bytes 4 (length l.state)) behind in
      let c = length-append l.state (l.before ++ (blocks_bytes (first_head l) l.blocks ++ holds.stands.gate ∷ holds.stands.rest)) in
      let d = length-append l.before (blocks_bytes (first_head l) l.blocks ++ holds.stands.gate ∷ holds.stands.rest) in
      let e = length-append (blocks_bytes (first_head l) l.blocks) (holds.stands.gate ∷ holds.stands.rest) in
      let f = holds.is_log.header.long in
      omega (arith, whole, a, b, c, d, e, f)

  header_none : (e : LogFault) → IsHeaderFault e image → IsOfMachine e
  header_none NoMemory is = tt
  header_none Device is = tt
  header_none NotALog is = ⊎_elim (λ few. absurd (omega (arith, few, long_image))) (λ other. absurd (other letters)) is
  header_none (WrongVersion v) is = absurd (is.2 (sym is.1 ∙ version))
  header_none (TooLong at) is = absurd (let m = holds.is_log.header.most in let t = is.2 in omega (arith, m, t, state_is))
  header_none (Damaged at Header) is = ⊎_elim (λ few. absurd (let s = holds.is_log.header.some in omega (arith, s, few, state_is))) (λ cut. absurd (omega (arith, cut, state_is, long_image))) is.2
  header_none (Damaged at BlockIs) is = absurd is
  header_none (Damaged at Number) is = absurd is
  header_none (Damaged at Head) is = absurd is

-- a closed gate behind a log is no fault
shut_none : (e : LogFault) (log : Log) (p : ℕ) (gate : ℕ) (rest : List ℕ) → gate ≢ GATE_OPEN → IsBlockFault e log p (gate ∷ rest) → IsOfMachine e
shut_none NoMemory log p gate rest shut is = tt
shut_none Device log p gate rest shut is = tt
shut_none NotALog log p gate rest shut is = absurd is
shut_none (WrongVersion v) log p gate rest shut is = absurd is
shut_none (TooLong at) log p gate rest shut is = absurd (shut (heads_of gate GATE_OPEN rest (little_bytes 8 is.1 ++ is.2) is.4).0)
shut_none (Damaged at Header) log p gate rest shut is = absurd is
shut_none (Damaged at BlockIs) log p gate rest shut is = absurd (shut is.1)
shut_none (Damaged at Number) log p gate rest shut is = absurd (shut (heads_of gate GATE_OPEN rest (block_text is.1 ++ is.2) is.4).0)
shut_none (Damaged at Head) log p gate rest shut is = absurd (shut (heads_of gate GATE_OPEN rest (block_text is.1 ++ (is.2 ++ is.3)) is.5).0)

-- nor is a block
block_none : (e : LogFault) (log : Log) (p : ℕ) (b : Block) (more : List ℕ) → IsBlock (last_number log) b → IsBlockFault e log p (GATE_OPEN ∷ (block_text b ++ (head_of (last_head log) b ++ more))) → IsOfMachine e
block_none NoMemory log p b more block is = tt
block_none Device log p b more block is = tt
block_none NotALog log p b more block is = absurd is
block_none (WrongVersion v) log p b more block is = absurd is
block_none (TooLong at) log p b more block is =
    let tails = (heads_of GATE_OPEN GATE_OPEN (block_text b ++ (head_of (last_head log) b ++ more)) (little_bytes 8 is.1 ++ is.2) is.4).1 in
    let m = block.most in
    let small = is.3 in
    let n_is = one_number 8 (length b.frames) is.1 (omega (arith, m)) (omega (arith, small)) (fronts (little_bytes 8 (length b.frames)) (little_bytes 8 is.1) _ _ (long_number 8 (length b.frames) is.1) (sym (block_split b (head_of (last_head log) b ++ more)) ∙ tails)).0 in
    let over = is.5 in
    absurd (omega (arith, m, n_is, over))
block_none (Damaged at Header) log p b more block is = absurd is
block_none (Damaged at BlockIs) log p b more block is = absurd (is.2 b (head_of (last_head log) b) more (is_sized (last_number log) b block) (sha256_long (last_head log ++ block_text b)) refl)
block_none (Damaged at Number) log p b more block is =
    let tails = (heads_of GATE_OPEN GATE_OPEN (block_text b ++ (head_of (last_head log) b ++ more)) (block_text is.1 ++ is.2) is.4).1 in
    let one = (one_block b is.1 (head_of (last_head log) b ++ more) is.2 (is_sized (last_number log) b block) is.3 tails).0 in
    let next = block.next in
    let some = block.some in
    ⊎_elim (λ other. absurd (other (ap (λ (c : Block). c.first) (sym one) ∙ next)))
    (λ below. absurd (let f = ap (λ (c : Block). c.first) one in let l = ap (λ (c : Block). c.last) one in omega (arith, below, some, f, l))) is.5
block_none (Damaged at Head) log p b more block is =
    let tails = (heads_of GATE_OPEN GATE_OPEN (block_text b ++ (head_of (last_head log) b ++ more)) (block_text is.1 ++ (is.2 ++ is.3)) is.5).1 in
    let one = one_block b is.1 (head_of (last_head log) b ++ more) (is.2 ++ is.3) (is_sized (last_number log) b block) is.4 tails in
    let heads = (fronts (head_of (last_head log) b) is.2 more is.3 (sha256_long (last_head log ++ block_text b) ∙ sym is.6) one.1).0 in
    absurd (is.7 (sym heads ∙ ap (head_of (last_head log)) one.0))

behind_none : (e : LogFault) (log : Log) (p : ℕ) (more : List Block) (gate : ℕ) (rest bytes : List ℕ) → gate ≢ GATE_OPEN → AreBlocks (last_number log) more → bytes ≡ blocks_bytes (last_head log) more ++ gate ∷ rest → IsBlockFault e log p bytes → IsOfMachine e
behind_none e log p [] gate rest bytes shut are is fault = shut_none e log p gate rest shut (subst (IsBlockFault e log p) is fault)
behind_none e log p (b ∷ more) gate rest bytes shut are is fault =
    block_none e log p b (blocks_bytes (head_of (last_head log) b) more ++ gate ∷ rest) are.0 (subst (IsBlockFault e log p) (is ∙ regrouped (last_head log) b more (gate ∷ rest)) fault)

pub held_none : (e : LogFault) (image : List ℕ) (l : Log) → IsFault e image → Holds image l → IsOfMachine e
held_none e image l is holds = ⊎_elim (λ fault. header_none image l holds e fault)
    (λ f.
    let log = f.0 in
    let begins = f.2 in
    let on = is_more log l (drop f.1.at image) holds.stands.gate holds.stands.rest begins.is_log holds.is_log holds.stands.shut (sym begins.whole ∙ holds.stands.whole) in
    behind_none e log f.1.at on.more holds.stands.gate holds.stands.rest (drop f.1.at image) holds.stands.shut on.are on.rest f.3) is

-- The chain of heads, and the blocks that an image fixes.
use Rattle.std.proofs.Common.{◌≡◌, ◌≢◌, ◌⊎◌, inl, inr, ⊎_elim, ℕ, List, [], ◌∷◌, ◌++◌, length, refl, sym, ◌∙◌, ap, subst, arith, append_assoc, append-nil, length-append}
use Rattle.pfx_disk.specs.declared.gates.TheConstants.{GATE_OPEN}
use Rattle.sha2.specs.Sha256.{sha256}
use Rattle.pfx_log.specs.Logs.{AreBytes, AreBlocks, Block, IsBlock, IsHeader, IsLog, Log, block_text, blocks_bytes, first_head, head_behind, head_of, header_text, last_head, last_number, log_bytes, number_behind, number_of}
use Rattle.pfx_log.specs.Holding.{Collision, Holds, IsUnmade}
use Rattle.pfx_log.proofs.Strings.{bytes_append, bytes_cons, fronts, heads_of, is_sized, one_block, one_header, same_or_not}
use Rattle.pfx_log.proofs.Hashes.{little_are_bytes, sha256_are_bytes, sha256_long}
use Rattle.byteorder.specs.Endian.{little_bytes}

block_are_bytes : (n : ℕ) (b : Block) → IsBlock n b → AreBytes (block_text b)
unfolding block_text
block_are_bytes n b is = bytes_append (little_bytes 8 (length b.frames)) (little_bytes 8 b.first ++ (little_bytes 8 b.last ++ b.frames)) (little_are_bytes 8 (length b.frames))
    (bytes_append (little_bytes 8 b.first) (little_bytes 8 b.last ++ b.frames) (little_are_bytes 8 b.first) (bytes_append (little_bytes 8 b.last) b.frames (little_are_bytes 8 b.last) is.bytes))

letters_are_bytes : (l : Log) → IsHeader l → AreBytes (0x50 ∷ 0x46 ∷ 0x58 ∷ 0x41 ∷ 0x55 ∷ 0x44 ∷ 0x49 ∷ 0x54 ∷ 1 ∷ l.version ∷ [])
letters_are_bytes l is = bytes_cons 0x50 (0x46 ∷ 0x58 ∷ 0x41 ∷ 0x55 ∷ 0x44 ∷ 0x49 ∷ 0x54 ∷ 1 ∷ l.version ∷ []) (omega arith) (bytes_cons 0x46 (0x58 ∷ 0x41 ∷ 0x55 ∷ 0x44 ∷ 0x49 ∷ 0x54 ∷ 1 ∷ l.version ∷ []) (omega arith) (bytes_cons 0x58 (0x41 ∷ 0x55 ∷ 0x44 ∷ 0x49 ∷ 0x54 ∷ 1 ∷ l.version ∷ []) (omega arith) (bytes_cons 0x41 (0x55 ∷ 0x44 ∷ 0x49 ∷ 0x54 ∷ 1 ∷ l.version ∷ []) (omega arith) (bytes_cons 0x55 (0x44 ∷ 0x49 ∷ 0x54 ∷ 1 ∷ l.version ∷ []) (omega arith) (bytes_cons 0x44 (0x49 ∷ 0x54 ∷ 1 ∷ l.version ∷ []) (omega arith) (bytes_cons 0x49 (0x54 ∷ 1 ∷ l.version ∷ []) (omega arith) (bytes_cons 0x54 (1 ∷ l.version ∷ []) (omega arith) (bytes_cons 1 (l.version ∷ []) (omega arith) (bytes_cons l.version [] is.version (λ i d below. absurd (omega (arith, below))))))))))))

header_are_bytes : (l : Log) → IsHeader l → AreBytes (header_text l)
unfolding header_text
header_are_bytes l is = bytes_append (0x50 ∷ 0x46 ∷ 0x58 ∷ 0x41 ∷ 0x55 ∷ 0x44 ∷ 0x49 ∷ 0x54 ∷ 1 ∷ l.version ∷ []) (little_bytes 4 (length l.state) ++ (l.state ++ l.before)) (letters_are_bytes l is)
    (bytes_append (little_bytes 4 (length l.state)) (l.state ++ l.before) (little_are_bytes 4 (length l.state)) (bytes_append l.state l.before is.state is.before))

-- strings with one SHA-256 are one, or they collide
one_or_two : (x y : List ℕ) → AreBytes x → AreBytes y → sha256 x ≡ sha256 y → (x ≡ y) ⊎ Collision
one_or_two x y bx by same = ⊎_elim (λ is. inl is) (λ no. inr (record { one = x; other = y; one_bytes = bx; other_bytes = by; differ = no; same = same })) (same_or_not x y)

-- heads of 32 bytes
record IsHead (h : List ℕ) : Type 0 where
  pub long : length h ≡ 32
  pub bytes : AreBytes h

head_is : (m : List ℕ) → IsHead (sha256 m)
head_is m = record { long = sha256_long m; bytes = sha256_are_bytes m }

chained : (us vs : List Block) (h k : List ℕ) (m n : ℕ) → IsHead h → IsHead k → AreBlocks m us → AreBlocks n vs → length us ≡ length vs → head_behind h us ≡ head_behind k vs
    → ((h ≡ k) × (us ≡ vs)) ⊎ Collision
chained [] [] h k m n ih ik ia ib long is = inl (is, refl)
chained [] (b ∷ vs) h k m n ih ik ia ib long is = absurd (omega (arith, long))
chained (a ∷ us) [] h k m n ih ik ia ib long is = absurd (omega (arith, long))
chained (a ∷ us) (b ∷ vs) h k m n ih ik ia ib long is = ⊎_elim (λ one. first one) (λ two. inr two)
    (chained us vs (head_of h a) (head_of k b) a.last b.last (head_is (h ++ block_text a)) (head_is (k ++ block_text b)) ia.1 ib.1 (omega (arith, long)) is)
  where
    first : ((head_of h a ≡ head_of k b) × (us ≡ vs)) → ((h ≡ k) × ((a ∷ us) ≡ (b ∷ vs))) ⊎ Collision
    first one = ⊎_elim
        (λ text.
        let f = fronts h k (block_text a) (block_text b) (ih.long ∙ sym ik.long) text in
        let g = one_block a b [] [] (is_sized m a ia.0) (is_sized n b ib.0) (append-nil (block_text a) ∙ f.1 ∙ sym (append-nil (block_text b))) in
        inl (f.0, λ i. g.0 i ∷ one.1 i))
        (λ two. inr two)
        (one_or_two (h ++ block_text a) (k ++ block_text b) (bytes_append h (block_text a) ih.bytes (block_are_bytes m a ia.0)) (bytes_append k (block_text b) ik.bytes (block_are_bytes n b ib.0)) one.0)

pub one_chain : (a b : Log) → IsLog a → IsLog b → length a.blocks ≡ length b.blocks → last_head a ≡ last_head b → (a ≡ b) ⊎ Collision
one_chain a b ia ib long is = ⊎_elim
    (λ one. ⊎_elim
    (λ text. let h = one_header a b [] [] ia.header ib.header (append-nil (header_text a) ∙ text ∙ sym (append-nil (header_text b))) in
    inl (λ i. record { version = h.version i; state = h.state i; before = h.before i; blocks = one.1 i }))
    (λ two. inr two) (one_or_two (header_text a) (header_text b) (header_are_bytes a ia.header) (header_are_bytes b ib.header) one.0))
    (λ two. inr two)
    (chained a.blocks b.blocks (first_head a) (first_head b) (number_of a.state) (number_of b.state) (head_is (header_text a)) (head_is (header_text b)) ia.blocks ib.blocks long is)

-- what stands behind blocks, from the first of them on
pub regrouped : (h : List ℕ) (a : Block) (us : List Block) (r : List ℕ) → blocks_bytes h (a ∷ us) ++ r ≡ GATE_OPEN ∷ (block_text a ++ (head_of h a ++ (blocks_bytes (head_of h a) us ++ r)))
regrouped h a us r = ap (λ l. GATE_OPEN ∷ l) (append_assoc (block_text a ++ head_of h a) (blocks_bytes (head_of h a) us) r ∙ append_assoc (block_text a) (head_of h a) (blocks_bytes (head_of h a) us ++ r))

-- blocks that an image begins with are the first of the blocks that it holds, and the rest stands behind them
pub record GoesOn (h : List ℕ) (m : ℕ) (us vs : List Block) (r s : List ℕ) : Type 0 where
  pub more : List Block
  pub all : vs ≡ us ++ more
  pub are : AreBlocks (number_behind m us) more
  pub rest : r ≡ blocks_bytes (head_behind h us) more ++ s

pub goes_on : (us vs : List Block) (h : List ℕ) (m : ℕ) (r : List ℕ) (gate : ℕ) (s : List ℕ) → AreBlocks m us → AreBlocks m vs → gate ≢ GATE_OPEN
    → blocks_bytes h us ++ r ≡ blocks_bytes h vs ++ gate ∷ s → GoesOn h m us vs r (gate ∷ s)
goes_on [] vs h m r gate s ia ib shut is = record { more = vs; all = refl; are = ib; rest = is }
goes_on (a ∷ us) [] h m r gate s ia ib shut is = absurd (shut (sym (heads_of GATE_OPEN gate _ _ (sym (regrouped h a us r) ∙ is)).0))
goes_on (a ∷ us) (b ∷ vs) h m r gate s ia ib shut is =
    let tails = (heads_of GATE_OPEN GATE_OPEN _ _ (sym (regrouped h a us r) ∙ is ∙ regrouped h b vs (gate ∷ s))).1 in
    let one = one_block a b _ _ (is_sized m a ia.0) (is_sized m b ib.0) tails in
    let heads = fronts (head_of h a) (head_of h b) _ _ (sha256_long (h ++ block_text a) ∙ sym (sha256_long (h ++ block_text b))) one.1 in
    let on = goes_on us vs (head_of h a) a.last r gate s ia.1 (subst (λ (c : Block). AreBlocks c.last vs) (sym one.0) ib.1) shut
    (heads.1 ∙ ap (λ (c : Block). blocks_bytes (head_of h c) vs ++ gate ∷ s) (sym one.0)) in
    record { more = on.more; all = λ i. sym one.0 i ∷ on.all i; are = on.are; rest = on.rest }

-- the header's bytes, and what stands behind them
pub log_split : (l : Log) (r : List ℕ) → log_bytes l ++ r ≡ GATE_OPEN ∷ (header_text l ++ (blocks_bytes (first_head l) l.blocks ++ r))
unfolding log_bytes
log_split l r = append_assoc (GATE_OPEN ∷ header_text l) (blocks_bytes (first_head l) l.blocks) r

-- the log that an image begins with is the first part of the log that it holds
pub record IsMore (a b : Log) (r s : List ℕ) : Type 0 where
  pub more : List Block
  pub all : b ≡ record a { blocks = a.blocks ++ more }
  pub are : AreBlocks (last_number a) more
  pub rest : r ≡ blocks_bytes (last_head a) more ++ s

text_alone : (x y : Log) → x.version ≡ y.version → x.state ≡ y.state → x.before ≡ y.before → first_head x ≡ first_head y
unfolding header_text
text_alone x y v s b = λ i. sha256 ((0x50 ∷ 0x46 ∷ 0x58 ∷ 0x41 ∷ 0x55 ∷ 0x44 ∷ 0x49 ∷ 0x54 ∷ 1 ∷ v i ∷ []) ++ (little_bytes 4 (length (s i)) ++ (s i ++ b i)))

pub is_more : (a b : Log) (r : List ℕ) (gate : ℕ) (s : List ℕ) → IsLog a → IsLog b → gate ≢ GATE_OPEN → log_bytes a ++ r ≡ log_bytes b ++ gate ∷ s → IsMore a b r (gate ∷ s)
is_more a b r gate s ia ib shut is =
    let text = (heads_of GATE_OPEN GATE_OPEN _ _ (sym (log_split a r) ∙ is ∙ log_split b (gate ∷ s))).1 in
    let h = one_header a b _ _ ia.header ib.header text in
    let c : Log = record { version = a.version; state = a.state; before = a.before; blocks = b.blocks } in
    let same : b ≡ c = λ i. record { version = sym h.version i; state = sym h.state i; before = sym h.before i; blocks = b.blocks } in
    let heads : first_head b ≡ first_head a = ap first_head same ∙ text_alone c a refl refl refl in
    let on = goes_on a.blocks b.blocks (first_head a) (number_of a.state) r gate s ia.blocks (subst (λ (l : List ℕ). AreBlocks (number_of l) b.blocks) (sym h.state) ib.blocks) shut
    (h.rest ∙ ap (λ k. blocks_bytes k b.blocks ++ gate ∷ s) heads) in
    record { more = on.more; all = same ∙ ap (λ vs. record { version = a.version; state = a.state; before = a.before; blocks = vs }) on.all; are = on.are; rest = on.rest }

pub one_held : (image : List ℕ) (a b : Log) → Holds image a → Holds image b → a ≡ b
one_held image a b ha hb =
    let on = is_more a b (ha.stands.gate ∷ ha.stands.rest) hb.stands.gate hb.stands.rest ha.is_log hb.is_log hb.stands.shut (sym ha.stands.whole ∙ hb.stands.whole) in
    none on.more on.all on.rest
  where
    none : (more : List Block) → b ≡ record a { blocks = a.blocks ++ more } → ha.stands.gate ∷ ha.stands.rest ≡ blocks_bytes (last_head a) more ++ hb.stands.gate ∷ hb.stands.rest → a ≡ b
    none [] all rest = sym (all ∙ ap (λ vs. record { version = a.version; state = a.state; before = a.before; blocks = vs }) (append-nil a.blocks))
    none (c ∷ more) all rest = absurd (ha.stands.shut (heads_of ha.stands.gate GATE_OPEN _ _ (rest ∙ regrouped (last_head a) c more (hb.stands.gate ∷ hb.stands.rest))).0)

pub unmade : (image : List ℕ) (l : Log) → IsUnmade image → Holds image l → ⊥
unmade image l is holds = ⊎_elim
    (λ few. omega (arith, few, ap length (holds.stands.whole ∙ log_split l (holds.stands.gate ∷ holds.stands.rest)), length-append (header_text l) (blocks_bytes (first_head l) l.blocks ++ holds.stands.gate ∷ holds.stands.rest), length-append (blocks_bytes (first_head l) l.blocks) (holds.stands.gate ∷ holds.stands.rest)))
    (λ shut. shut.shut (heads_of shut.gate GATE_OPEN _ _ (sym shut.whole ∙ holds.stands.whole ∙ log_split l (holds.stands.gate ∷ holds.stands.rest))).0) is

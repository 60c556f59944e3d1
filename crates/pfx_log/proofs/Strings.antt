-- Strings of bytes, and what of them is fixed by the whole.
use Rattle.std.proofs.Common.{◌≡◌, ◌≢◌, ◌⊎◌, inl, inr, ⊎_elim, ℕ, zero, suc, ◌^◌, ◌<◌, List, [], ◌∷◌, ◌++◌, length, get_or, take, drop, refl, sym, ◌∙◌, ap, arith, append_assoc}
use Rattle.std.proofs.Math.Seq.{take-append_seam, drop-append_seam}
use Rattle.std.proofs.lemmas.Bool.{cases_eq}
use Rattle.byteorder.specs.Endian.{little_bytes, little_number}
use Rattle.byteorder.specs.Numbers.{little_number-reads_back, length-bytes_low_first}
use Rattle.pfx_log.specs.Logs.{AreBytes, Block, IsBlock, IsHeader, Log, block_text, header_text}
use Rattle.pfx_log.specs.Faults.{IsSized}

-- as many bytes in front are the same bytes
pub fronts : (a b x y : List ℕ) → length a ≡ length b → a ++ x ≡ b ++ y → (a ≡ b) × (x ≡ y)
fronts a b x y long is = (
  sym (take-append_seam a x) ∙ ap (take (length a)) is ∙ ap (λ n. take n (b ++ y)) long ∙ take-append_seam b y,
  sym (drop-append_seam a x) ∙ ap (drop (length a)) is ∙ ap (λ n. drop n (b ++ y)) long ∙ drop-append_seam b y,
)

pub heads_of : (a b : ℕ) (x y : List ℕ) → a ∷ x ≡ b ∷ y → (a ≡ b) × (x ≡ y)
heads_of a b x y is = (ap (λ l. get_or l 0 0) is, ap (drop 1) is)

pub one_number : (n a b : ℕ) → a < 256 ^ n → b < 256 ^ n → little_bytes n a ≡ little_bytes n b → a ≡ b
one_number n a b small small_b is = sym (little_number-reads_back n a [] small) ∙ ap (λ l. little_number n (l ++ [])) is ∙ little_number-reads_back n b [] small_b

pub long_number : (n a b : ℕ) → length (little_bytes n a) ≡ length (little_bytes n b)
long_number n a b = length-bytes_low_first 0 n a ∙ sym (length-bytes_low_first 0 n b)

pub is_sized : (n : ℕ) (b : Block) → IsBlock n b → IsSized b
is_sized n b is = record { most = is.most; first = (let s = is.some in let l = is.small in omega (arith, s, l)); last = is.small }

-- the parts of a block one behind the other
pub block_split : (b : Block) (x : List ℕ) → block_text b ++ x ≡ little_bytes 8 (length b.frames) ++ (little_bytes 8 b.first ++ (little_bytes 8 b.last ++ (b.frames ++ x)))
unfolding block_text
block_split b x =
    append_assoc (little_bytes 8 (length b.frames)) (little_bytes 8 b.first ++ (little_bytes 8 b.last ++ b.frames)) x
    ∙ ap (λ l. little_bytes 8 (length b.frames) ++ l) (append_assoc (little_bytes 8 b.first) (little_bytes 8 b.last ++ b.frames) x
    ∙ ap (λ l. little_bytes 8 b.first ++ l) (append_assoc (little_bytes 8 b.last) b.frames x))

-- a block is fixed by the bytes that begin with it
pub one_block : (a b : Block) (x y : List ℕ) → IsSized a → IsSized b → block_text a ++ x ≡ block_text b ++ y → (a ≡ b) × (x ≡ y)
one_block a b x y sa sb is =
    let whole = sym (block_split a x) ∙ is ∙ block_split b y in
    let ma = sa.most in
    let mb = sb.most in
    let l = fronts (little_bytes 8 (length a.frames)) (little_bytes 8 (length b.frames)) _ _ (long_number 8 (length a.frames) (length b.frames)) whole in
    let long = one_number 8 (length a.frames) (length b.frames) (omega (arith, ma)) (omega (arith, mb)) l.0 in
    let f = fronts (little_bytes 8 a.first) (little_bytes 8 b.first) _ _ (long_number 8 a.first b.first) l.1 in
    let first = one_number 8 a.first b.first (let s = sa.first in omega (arith, s)) (let s = sb.first in omega (arith, s)) f.0 in
    let t = fronts (little_bytes 8 a.last) (little_bytes 8 b.last) _ _ (long_number 8 a.last b.last) f.1 in
    let last = one_number 8 a.last b.last (let s = sa.last in omega (arith, s)) (let s = sb.last in omega (arith, s)) t.0 in
    let r = fronts a.frames b.frames x y long t.1 in
    (λ i. record { first = first i; last = last i; frames = r.0 i }, r.1)

pub header_split : (l : Log) (x : List ℕ) → header_text l ++ x ≡ (0x50 ∷ 0x46 ∷ 0x58 ∷ 0x41 ∷ 0x55 ∷ 0x44 ∷ 0x49 ∷ 0x54 ∷ 1 ∷ l.version ∷ []) ++ (little_bytes 4 (length l.state) ++ (l.state ++ (l.before ++ x)))
unfolding header_text
header_split l x =
    ap (λ t. (0x50 ∷ 0x46 ∷ 0x58 ∷ 0x41 ∷ 0x55 ∷ 0x44 ∷ 0x49 ∷ 0x54 ∷ 1 ∷ l.version ∷ []) ++ t)
    (append_assoc (little_bytes 4 (length l.state)) (l.state ++ l.before) x ∙ ap (λ t. little_bytes 4 (length l.state) ++ t) (append_assoc l.state l.before x))

-- a header is fixed by the bytes that begin with it
pub record AreOne (a b : Log) (x y : List ℕ) : Type 0 where
  pub version : a.version ≡ b.version
  pub state : a.state ≡ b.state
  pub before : a.before ≡ b.before
  pub rest : x ≡ y

pub one_header : (a b : Log) (x y : List ℕ) → IsHeader a → IsHeader b → header_text a ++ x ≡ header_text b ++ y → AreOne a b x y
one_header a b x y ha hb is =
    let whole = sym (header_split a x) ∙ is ∙ header_split b y in
    let ma = ha.most in
    let mb = hb.most in
    let v : a.version ≡ b.version = ap (λ l. get_or l 9 0) whole in
    let l = fronts (little_bytes 4 (length a.state)) (little_bytes 4 (length b.state)) _ _ (long_number 4 (length a.state) (length b.state)) (ap (drop 10) whole) in
    let long = one_number 4 (length a.state) (length b.state) (omega (arith, ma)) (omega (arith, mb)) l.0 in
    let s = fronts a.state b.state _ _ long l.1 in
    let h = fronts a.before b.before x y (ha.long ∙ sym hb.long) s.1 in
    record { version = v; state = s.0; before = h.0; rest = h.1 }

-- two strings are the same or not
pub same_or_not : (x y : List ℕ) → (x ≡ y) ⊎ (x ≢ y)
same_or_not [] [] = inl refl
same_or_not [] (b ∷ y) = inr (λ is. omega (arith, ap length is))
same_or_not (a ∷ x) [] = inr (λ is. omega (arith, ap length is))
same_or_not (a ∷ x) (b ∷ y) = ⊎_elim
    (λ first. ⊎_elim (λ rest. inl (λ i. first i ∷ rest i)) (λ no. inr (λ is. no (heads_of a b x y is).1)) (same_or_not x y))
    (λ no. inr (λ is. no (heads_of a b x y is).0)) (cases_eq a b)

-- bytes

pub bytes_cons : (a : ℕ) (x : List ℕ) → a < 256 → AreBytes x → AreBytes (a ∷ x)
bytes_cons a x small b zero d below = small
bytes_cons a x small b (suc i) d below = b i d (omega (arith, below))

pub bytes_append : (x y : List ℕ) → AreBytes x → AreBytes y → AreBytes (x ++ y)
bytes_append [] y bx by = by
bytes_append (a ∷ x) y bx by = bytes_cons a (x ++ y) (bx 0 a (omega arith)) (bytes_append x y (λ i d below. bx (suc i) d (omega (arith, below))) by)

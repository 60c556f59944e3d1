-- What a SHA-256 is: 32 bytes.
use Rattle.std.specs.Int.{byte_at, bytes_high_first, bytes_low_first, to_be_bytes, w32}
use Rattle.std.proofs.Common.{◌≡◌, ◌<◌, ℕ, zero, suc, ◌*◌, List, length, refl, ◌∙◌, arith, length-append}
use Rattle.byteorder.specs.Endian.{little_bytes}
use Rattle.sha2.specs.Sha256.{digest_bytes, final_hash, initial_hash_256, sha256}
use Rattle.pfx_log.specs.Logs.{AreBytes}
use Rattle.pfx_log.proofs.Strings.{bytes_append, bytes_cons}

digest_long : (h : List ℕ) (n : ℕ) → length (digest_bytes h n) ≡ 4 * n
unfolding digest_bytes
digest_long h zero = refl
digest_long h (suc n) = let so_far = digest_long h n in length-append (digest_bytes h n) (to_be_bytes w32 _) ∙ omega (arith, so_far)

pub sha256_long : (m : List ℕ) → length (sha256 m) ≡ 32
unfolding sha256
sha256_long m = digest_long (final_hash initial_hash_256 m) 8

low_bytes : (i n x : ℕ) → AreBytes (bytes_low_first i n x)
low_bytes i zero x = λ k d below. absurd (omega (arith, below))
low_bytes i (suc n) x = bytes_cons (byte_at i x) (bytes_low_first (suc i) n x) (small i x) (low_bytes (suc i) n x)
  where
    small : (i x : ℕ) → byte_at i x < 256
    small zero x = omega arith
    small (suc i) x = omega arith

pub little_are_bytes : (n x : ℕ) → AreBytes (little_bytes n x)
little_are_bytes n x = low_bytes 0 n x

high_bytes : (n x : ℕ) → AreBytes (bytes_high_first n x)
high_bytes zero x = λ k d below. absurd (omega (arith, below))
high_bytes (suc n) x = bytes_cons (byte_at n x) (bytes_high_first n x) (small n x) (high_bytes n x)
  where
    small : (i x : ℕ) → byte_at i x < 256
    small zero x = omega arith
    small (suc i) x = omega arith

digest_are_bytes : (h : List ℕ) (n : ℕ) → AreBytes (digest_bytes h n)
unfolding digest_bytes
digest_are_bytes h zero = λ k d below. absurd (omega (arith, below))
digest_are_bytes h (suc n) = bytes_append (digest_bytes h n) (to_be_bytes w32 _) (digest_are_bytes h n) (high_bytes 4 _)

pub sha256_are_bytes : (m : List ℕ) → AreBytes (sha256 m)
unfolding sha256
sha256_are_bytes m = digest_are_bytes (final_hash initial_hash_256 m) 8

-- What stands behind a place, by its parts.
use Rattle.std.proofs.Common.{◌≡◌, ◌≢◌, ◌⊎◌, ℕ, ◌+◌, ◌-◌, ◌^◌, ◌≤◌, ◌<◌, List, ◌∷◌, ◌++◌, length, get_or, take, drop, refl, sym, ◌∙◌, ap, subst, arith, append_assoc, length-append, length-take, length-drop}
use Rattle.std.proofs.lemmas.List.{take-append-drop, drop-drop, drop_more}
use Rattle.byteorder.specs.Endian.{little_bytes}
use Rattle.byteorder.specs.Numbers.{length-bytes_low_first}
use Rattle.pfx_disk.specs.declared.gates.TheConstants.{GATE_OPEN}
use Rattle.pfx_log.specs.Faults.{IsBlockFault, IsOpenOrNone, IsSized}
use Rattle.pfx_log.specs.Logs.{Block, Log, block_of, block_text, last_number}
use Rattle.pfx_log.specs.declared.faults.Damage.TheVariants.{Block as BlockIs, Number}
use Rattle.pfx_log.specs.declared.faults.LogFault.TheVariants.{Damaged, TooLong}
use Rattle.pfx_log.specs.declared.place.LogPlace.{LogPlace}
use Rattle.pfx_log.specs.declared.place.TheConstants.{MOST}
use Rattle.pfx_log.proofs.Joined.{front_and_frames}
use Rattle.pfx_log.proofs.Strings.{block_split, fronts, heads_of, long_number, one_number}

pub block_long : (b : Block) → length (block_text b) ≡ 24 + length b.frames
unfolding block_text
block_long b =
    let n = length-bytes_low_first 0 8 (length b.frames) in
    let f = length-bytes_low_first 0 8 b.first in
    let l = length-bytes_low_first 0 8 b.last in
    let one = length-append (little_bytes 8 (length b.frames)) (little_bytes 8 b.first ++ (little_bytes 8 b.last ++ b.frames)) in
    let two = length-append (little_bytes 8 b.first) (little_bytes 8 b.last ++ b.frames) in
    let three = length-append (little_bytes 8 b.last) b.frames in
    omega (arith, n, f, l, one, two, three)

module _ (xs : List ℕ) (p : ℕ) (inside : p < length xs) (gate : get_or xs p 0 ≡ GATE_OPEN) where
  pub gate_behind : drop p xs ≡ GATE_OPEN ∷ drop (p + 1) xs
  gate_behind = drop_more xs p 0 inside ∙ ap (λ g. g ∷ drop (p + 1) xs) gate

  -- an open gate with too few bytes for a block
  pub cut_short : (place : LogPlace) (log : Log) → p ≡ place.at → length xs - p < 57 → IsBlockFault (Damaged p BlockIs) log place.at (drop p xs)
  cut_short place log is few = (
    is,
    subst IsOpenOrNone (sym gate_behind) refl,
    λ b head more sized long whole. omega (arith, few, inside, length-drop p xs, ap length whole, length-append (block_text b) (head ++ more), length-append head more, block_long b, long),
  )

  module _ (n first last : ℕ) (front : take 24 (drop (p + 1) xs) ≡ little_bytes 8 n ++ (little_bytes 8 first ++ little_bytes 8 last)) where
    F : List ℕ
    F = little_bytes 8 n ++ (little_bytes 8 first ++ little_bytes 8 last)

    front_behind : drop (p + 1) xs ≡ (little_bytes 8 n ++ (little_bytes 8 first ++ little_bytes 8 last)) ++ drop (p + 25) xs
    front_behind = sym (take-append-drop 24 (drop (p + 1) xs)) ∙ ap (λ t. t ++ drop 24 (drop (p + 1) xs)) front
        ∙ ap (λ t. (little_bytes 8 n ++ (little_bytes 8 first ++ little_bytes 8 last)) ++ t) (drop-drop 24 (p + 1) xs ∙ ap (λ (k : ℕ). drop k xs) (omega arith))

    regroup : (t : List ℕ) → (little_bytes 8 n ++ (little_bytes 8 first ++ little_bytes 8 last)) ++ t ≡ little_bytes 8 n ++ (little_bytes 8 first ++ (little_bytes 8 last ++ t))
    regroup t = append_assoc (little_bytes 8 n) (little_bytes 8 first ++ little_bytes 8 last) t ∙ ap (λ l. little_bytes 8 n ++ l) (append_assoc (little_bytes 8 first) (little_bytes 8 last) t)

    pub too_long : (place : LogPlace) (log : Log) → p ≡ place.at → n < 2 ^ 64 → MOST < n → IsBlockFault (TooLong p) log place.at (drop p xs)
    too_long place log is small most = (
      is,
      n,
      little_bytes 8 first ++ (little_bytes 8 last ++ drop (p + 25) xs),
      small,
      gate_behind ∙ ap (λ l. GATE_OPEN ∷ l) (front_behind ∙ regroup (drop (p + 25) xs)),
      most,
    )

    -- an open gate before fewer bytes than the block has
    pub cut_off : (place : LogPlace) (log : Log) → p ≡ place.at → n < 2 ^ 64 → length xs - p < 57 + n → IsBlockFault (Damaged p BlockIs) log place.at (drop p xs)
    cut_off place log is small few = (
      is,
      subst IsOpenOrNone (sym gate_behind) refl,
      λ b head more sized long whole.
          let tails = (heads_of GATE_OPEN GATE_OPEN (drop (p + 1) xs) (block_text b ++ (head ++ more)) (sym gate_behind ∙ whole)).1 in
          let numbers = sym (regroup (drop (p + 25) xs)) ∙ sym front_behind ∙ tails ∙ block_split b (head ++ more) in
          let m = sized.most in
          let n_is = one_number 8 n (length b.frames) (omega (arith, small)) (omega (arith, m)) (fronts (little_bytes 8 n) (little_bytes 8 (length b.frames)) _ _ (long_number 8 n (length b.frames)) numbers).0 in
          omega (arith, few, inside, length-drop p xs, ap length whole, length-append (block_text b) (head ++ more), length-append head more, block_long b, long, n_is),
    )

    module _ (fits : p + 57 + n ≤ length xs) where
      frames : List ℕ
      frames = take n (drop (p + 25) xs)

      pub frames_long : length (take n (drop (p + 25) xs)) ≡ n
      frames_long = length-take n (drop (p + 25) xs) ∙ (let d = length-drop (p + 25) xs in omega (arith, d, fits))

      pub block_behind : drop p xs ≡ GATE_OPEN ∷ (block_text (block_of first last (take n (drop (p + 25) xs))) ++ drop (p + 25 + n) xs)
      block_behind = gate_behind ∙ ap (λ l. GATE_OPEN ∷ l) (front_behind
          ∙ ap (λ t. (little_bytes 8 n ++ (little_bytes 8 first ++ little_bytes 8 last)) ++ t) (sym (take-append-drop n (drop (p + 25) xs)))
          ∙ sym (append_assoc (little_bytes 8 n ++ (little_bytes 8 first ++ little_bytes 8 last)) (take n (drop (p + 25) xs)) (drop n (drop (p + 25) xs)))
          ∙ ap (λ t. t ++ drop n (drop (p + 25) xs)) (front_and_frames (little_bytes 8 n ++ (little_bytes 8 first ++ little_bytes 8 last)) (take n (drop (p + 25) xs)) first last
          (ap (λ (k : ℕ). little_bytes 8 k ++ (little_bytes 8 first ++ little_bytes 8 last)) (sym frames_long)))
          ∙ ap (λ t. block_text (block_of first last (take n (drop (p + 25) xs))) ++ t) (drop-drop n (p + 25) xs ∙ ap (λ (k : ℕ). drop k xs) (omega arith)))

      pub sized_block : n ≤ MOST → first < 2 ^ 64 → last < 2 ^ 64 → IsSized (block_of first last (take n (drop (p + 25) xs)))
      sized_block most f l = record { most = omega (arith, most, frames_long); first = f; last = l }

      pub other_number : (place : LogPlace) (log : Log) → p ≡ place.at → n ≤ MOST → first < 2 ^ 64 → last < 2 ^ 64 → ((first ≢ last_number log + 1) ⊎ (last < first)) → IsBlockFault (Damaged p Number) log place.at (drop p xs)
      other_number place log is most f l wrong = (is, block_of first last (take n (drop (p + 25) xs)), drop (p + 25 + n) xs, sized_block most f l, block_behind, wrong)

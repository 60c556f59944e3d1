-- The bytes of a new file, as they are written piece by piece.
use Rattle.std.proofs.Common.{◌≡◌, ⊎_elim, ℕ, zero, suc, ◌+◌, ◌*◌, ◌-◌, ◌≤◌, ◌<◌, min, List, [], ◌∷◌, ◌++◌, length, get_or, take, drop, refl, sym, ◌∙◌, ap, arith, length-append, length-take}
use Rattle.std.proofs.lemmas.List.{ext_get_or, get_or-take, get_or_append_left, get_or-append_right, take_all, take_min, drop_all, append-nil}
use Rattle.std.proofs.lemmas.Bool.{cases_lt}
use Rattle.pfx_disk.specs.Disk.{Written}
use Rattle.pfx_store_image.specs.Layout.{Layout}
use Rattle.pfx_store_image.specs.NewFile.{new_file}
use Rattle.pfx_store_image.proofs.NewFiles.{long}
use Rattle.pfx_store_create.specs.Creating.{HasLengths, len_of, unopened}

pub long_file : (L : Layout) (head body first : List ℕ) (segment : ℕ) → length first ≡ 8 → HasLengths L head body segment → length (new_file L head body first) ≡ len_of head body segment
long_file L head body first segment eight has = long L head body first has.of_head has.of_body eight ∙ same L (length head) (length body) segment has.of_head has.of_body has.of_segment
  where
    same : (L : Layout) (n m k : ℕ) → n ≡ L.head → m ≡ L.body → k ≡ L.segment → L.head + 2 * (1 + L.body) + 2 * L.segment ≡ n + 2 * (1 + m) + 2 * k
    same L n m k is_n is_m is_k = omega (arith, is_n, is_m, is_k)

-- behind its first byte the file is the same with a closed gate
pub behind_first : (file : List ℕ) (i : ℕ) → 0 < i → get_or (unopened file) i 0 ≡ get_or file i 0
behind_first file zero below = absurd (omega (arith, below))
behind_first [] (suc i) below = refl
behind_first (b ∷ file) (suc i) below = refl

pub long_unopened : (file : List ℕ) → 0 < length file → length (unopened file) ≡ length file
long_unopened [] some = absurd (omega (arith, some))
long_unopened (b ∷ file) some = refl

module _ (file : List ℕ) (at : ℕ) (bytes old new : List ℕ) (behind : 0 < at) (inside : at + length bytes ≤ length file)
    (before : old ≡ take at (unopened file)) (are : (k : ℕ) → k < length bytes → get_or bytes k 0 ≡ get_or file (at + k) 0) (is : Written at bytes old new) where
  long_old : length old ≡ at
  long_old = omega (arith, ap length before, length-take at (unopened file), long_unopened file (omega (arith, behind, inside)), inside)

  joined : new ≡ old ++ bytes
  joined = is ∙ ap (λ (l : List ℕ). l ++ bytes ++ drop (at + length bytes) old) (take_all at old (omega (arith, long_old)))
      ∙ ap (λ (l : List ℕ). old ++ bytes ++ l) (drop_all (at + length bytes) old (omega (arith, long_old))) ∙ append-nil (old ++ bytes)

  same_at : (i : ℕ) → i < at + length bytes → get_or (old ++ bytes) i 0 ≡ get_or (unopened file) i 0
  same_at i below = ⊎_elim
      (λ early. get_or_append_left old bytes 0 i (omega (arith, early, long_old)) ∙ ap (λ (l : List ℕ). get_or l i 0) before ∙ get_or-take at (unopened file) i 0 early)
      (λ late. get_or-append_right old bytes at i 0 long_old late ∙ are (i - at) (omega (arith, late, below)) ∙ ap (λ (k : ℕ). get_or file k 0) (place i late) ∙ sym (behind_first file i (omega (arith, late, behind))))
      (cases_lt i at)
    where
      place : (i : ℕ) → at ≤ i → at + (i - at) ≡ i
      place i late = omega (arith, late)

  written_on : new ≡ take (at + length bytes) (unopened file)
  written_on = joined ∙ ext_get_or 0 (old ++ bytes) (take (at + length bytes) (unopened file)) same_length
      (λ i below. let short : i < at + length bytes = omega (arith, below, long_joined) in same_at i short ∙ sym (get_or-take (at + length bytes) (unopened file) i 0 short))
    where
      long_joined : length (old ++ bytes) ≡ at + length bytes
      long_joined = omega (arith, length-append old bytes, long_old)

      same_length : length (old ++ bytes) ≡ length (take (at + length bytes) (unopened file))
      same_length = omega (arith, long_joined, length-take (at + length bytes) (unopened file), long_unopened file (omega (arith, behind, inside)), inside)

-- A piece of n bytes, or of what is left, goes on with the file.
pub piece_written : (file : List ℕ) (at n : ℕ) (bytes old new : List ℕ) → 0 < at → at < length file → length bytes ≡ min n (length file - at)
    → old ≡ take at (unopened file) → ((k : ℕ) → k < length bytes → get_or bytes k 0 ≡ get_or file (at + k) 0) → Written at bytes old new → new ≡ take (at + n) (unopened file)
piece_written file at n bytes old new behind inside many before are is =
    written_on file at bytes old new behind (omega (arith, inside, many)) before are is
    ∙ ap (λ k. take k (unopened file)) (place (length file) (length bytes) inside many) ∙ ap (λ k. take (min (at + n) k) (unopened file)) (sym (long_unopened file (omega (arith, inside)))) ∙ take_min (at + n) (unopened file)
  where
    place : (m k : ℕ) → at < m → k ≡ min n (m - at) → at + k ≡ min (at + n) m
    place m k inside many = omega (arith, inside, many)

-- the piece's length, if the file is so long
pub piece_long : (L : Layout) (head body first : List ℕ) (segment at piece len k : ℕ) → length first ≡ 8 → HasLengths L head body segment → len ≡ len_of head body segment → k ≡ min piece (len - at)
    → k ≡ min piece (length (new_file L head body first) - at)
piece_long L head body first segment at piece len k eight has is many = many ∙ ap (λ m. min piece (m - at)) (is ∙ sym (long_file L head body first segment eight has))

-- there is a layout of these lengths
pub some_layout : (head body : List ℕ) (segment : ℕ) → 9 < segment → (L : Layout) × HasLengths L head body segment
some_layout head body segment room = (record { head = length head; body = length body; segment = segment; room = room }, record { of_head = refl; of_body = refl; of_segment = refl })

-- so far the file is as long as it was written
pub long_so_far : (L : Layout) (head body first : List ℕ) (segment at : ℕ) (contents : List ℕ) → length first ≡ 8 → HasLengths L head body segment → at < len_of head body segment
    → contents ≡ take at (unopened (new_file L head body first)) → length contents ≡ at
long_so_far L head body first segment at contents eight has inside is =
    ap length is ∙ shorter (length (unopened (new_file L head body first))) at (length-take at (unopened (new_file L head body first))) (omega (arith, long_unopened (new_file L head body first) (omega (arith, long_file L head body first segment eight has, inside)), long_file L head body first segment eight has, inside))
  where
    shorter : (n at : ℕ) {m : ℕ} → m ≡ min at n → at ≤ n → m ≡ at
    shorter n at is below = omega (arith, is, below)

-- the last piece ends the file
pub whole_at_last : (L : Layout) (head body first : List ℕ) (segment at : ℕ) → length first ≡ 8 → HasLengths L head body segment → len_of head body segment ≤ at
    → take at (unopened (new_file L head body first)) ≡ unopened (new_file L head body first)
whole_at_last L head body first segment at eight has past = take_all at (unopened (new_file L head body first)) (omega (arith, long_unopened (new_file L head body first) (omega (arith, long_file L head body first segment eight has)), long_file L head body first segment eight has, past))

-- where the next piece begins
pub next_piece : (file contents : List ℕ) (i piece : ℕ) → contents ≡ take (1 + i * piece + piece) file → contents ≡ take (1 + (i + 1) * piece) file
next_piece file contents i piece is = is ∙ ap (λ k. take k file) (next i piece)
  where
    next : (i piece : ℕ) → 1 + i * piece + piece ≡ 1 + (i + 1) * piece
    next i piece = omega arith

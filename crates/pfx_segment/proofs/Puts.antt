-- The calls of `put_behind`, at each of its exits.
use Rattle.std.proofs.Common.{ℕ, ◌+◌, ◌≤◌, List, [], ◌∷◌, ◌++◌, length, ap, arith}
use Rattle.pfx_disk.specs.Disk.{View, Leaves, Same, Torn, Written, Only}
use Rattle.pfx_disk.specs.Stop.{Act, Sync, Write}
use Rattle.pfx_disk.specs.declared.gates.TheConstants.{GATE_OPEN}
use Rattle.pfx_segment.specs.Acts.{put_acts}
use Rattle.pfx_disk.specs.CallsMade.{HasMade, HasBrokenOff, HasKeptTo}
use Rattle.pfx_disk.proofs.CallsMade.{write_made, write_broken, write_within, sync_made, sync_broken, sync_within, broken_first, within_first, made_then, broken_then, within_then}

module _ (gate : ℕ) (bytes : List ℕ) (a b : View) (inside : gate + 1 ≤ length a.contents) (later1 : a.clock ≤ b.clock) (l1 : Leaves (Torn (gate + 1) (length bytes)) a b) where
  abbrev W1 : List Act
  W1 = Write (gate + 1) bytes ∷ []

  abbrev W2 : List Act
  W2 = Write gate (GATE_OPEN ∷ []) ∷ []

  abbrev S : List Act
  S = Sync ∷ []

  pub broken_1 : HasBrokenOff (put_acts gate bytes) a b
  broken_1 = broken_first W1 (S ++ W2 ++ S) a b (write_broken a b (gate + 1) bytes l1)

  pub within_1 : HasKeptTo (put_acts gate bytes) a b
  within_1 = within_first W1 (S ++ W2 ++ S) a b (write_within a b (gate + 1) bytes l1)

  module _ (written : Written (gate + 1) bytes a.contents b.contents) (c : View) (later2 : b.clock ≤ c.clock) (l2 : Leaves Same b c) where
    one : HasMade W1 a b
    one = write_made a b (gate + 1) bytes l1 inside written

    within_one : HasKeptTo W1 a b
    within_one = write_within a b (gate + 1) bytes l1

    pub broken_2 : HasBrokenOff (put_acts gate bytes) a c
    broken_2 = broken_then W1 (S ++ W2 ++ S) a b c one (broken_first S (W2 ++ S) b c (sync_broken b c l2))

    pub within_2 : HasKeptTo (put_acts gate bytes) a c
    within_2 = within_then W1 (S ++ W2 ++ S) a b c one later1 within_one (within_first S (W2 ++ S) b c (sync_within b c l2))

    module _ (only : Only b.contents c) (d : View) (later3 : c.clock ≤ d.clock) (l3 : Leaves (Torn gate 1) c d) where
      two : HasMade (W1 ++ S) a c
      two = made_then W1 S a b c one (sync_made b c l2 only)

      within_two : HasKeptTo (W1 ++ S) a c
      within_two = within_then W1 S a b c one later1 within_one (sync_within b c l2)

      pub broken_3 : HasBrokenOff (put_acts gate bytes) a d
      broken_3 = broken_then (W1 ++ S) (W2 ++ S) a c d two (broken_first W2 S c d (write_broken c d gate (GATE_OPEN ∷ []) l3))

      pub within_3 : HasKeptTo (put_acts gate bytes) a d
      within_3 = within_then (W1 ++ S) (W2 ++ S) a c d two (omega (arith, later1, later2)) within_two (within_first W2 S c d (write_within c d gate (GATE_OPEN ∷ []) l3))

      module _ (opened : Written gate (GATE_OPEN ∷ []) c.contents d.contents) (e : View) (l4 : Leaves Same d e) where
        three : HasMade (W1 ++ S ++ W2) a d
        three = made_then (W1 ++ S) W2 a c d two (write_made c d gate (GATE_OPEN ∷ []) l3 (let m = l1.contents.no_shorter in omega (arith, inside, m, ap length l2.contents)) opened)

        within_three : HasKeptTo (W1 ++ S ++ W2) a d
        within_three = within_then (W1 ++ S) W2 a c d two (omega (arith, later1, later2)) within_two (write_within c d gate (GATE_OPEN ∷ []) l3)

        pub broken_4 : HasBrokenOff (put_acts gate bytes) a e
        broken_4 = broken_then (W1 ++ S ++ W2) S a d e three (sync_broken d e l4)

        pub within_4 : HasKeptTo (put_acts gate bytes) a e
        within_4 = within_then (W1 ++ S ++ W2) S a d e three (omega (arith, later1, later2, later3)) within_three (sync_within d e l4)

        pub made_4 : Only d.contents e → HasMade (put_acts gate bytes) a e
        made_4 last = made_then (W1 ++ S ++ W2) S a d e three (sync_made d e l4 last)

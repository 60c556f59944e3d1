-- What a list of calls says of a disk.
use Rattle.std.specs.Prelude.{◌≡◌, ◌≤◌, ℕ, ◌+◌, ◌-◌, ◌^◌, List, length, map, Bool, true, false}
use Rattle.std.proofs.Common.{subst, arith}
use Rattle.pfx_disk.specs.CallsMade.{LeavesAtMost}
use Rattle.pfx_disk.specs.Disk.{View, IsHonest}
use Rattle.pfx_disk.specs.Stop.{Act, Sync, Write, Look, contents_after, Left, LeftSince, view_of, only_last}
use Rattle.pfx_disk.proofs.Left.{honest_view}
use Rattle.pfx_disk_chronicle.specs.declared.made.Made.{Made}
use Rattle.pfx_disk_chronicle.specs.declared.made.Made.TheVariants.{Synced, Looked, Wrote}

-- what a call did
abbrev pub act_of : Made → Act
act_of Synced = Sync
act_of Looked = Look
act_of (Wrote at bytes) = Write at bytes

abbrev pub acts_of : List Made → List Act
acts_of made = map act_of made

-- a disk of which this is known under a premise alone, and whose clock stood here when it began: nothing is known since before that
abbrev pub under : Type 0 → ℕ → View → View
under held first disk = record {
  contents = disk.contents;
  clock = first + disk.clock;
  failures = disk.failures;
  now = λ image. held × disk.now image;
  since = λ c image. held × (first ≤ c → disk.since (c - first) image);
}

-- a disk that has failed makes no further call, so its count is at the limit
abbrev pub failures_of : ℕ → Bool → ℕ
failures_of before true = 2 ^ 63 - 1
failures_of before false = before

module _ (held : Type 0) (start : List ℕ) (first before : ℕ) where
  -- the disk that its calls tell: it held this before them, under a premise
  abbrev pub charted : List Made → ℕ → Bool → View
  charted made late failed = under held first (view_of start (acts_of made) late (failures_of before failed))

  -- since this moment there is no image but those of now, and under the premise it is honest
  module _ (made : List Made) (late : ℕ) (failed : Bool) where
    pub last_only : (image : List ℕ) → (charted made late failed).since (charted made late failed).clock image
        → (charted made late failed).now image
    last_only image is =
        let n = length (acts_of made) + late in
        let back : first + n - first ≡ n = omega arith in
        (is.0, only_last start (acts_of made) late image (subst (λ c. LeftSince start (acts_of made) c image) back (is.1 (omega arith))))

    pub charted_honest : held → IsHonest (charted made late failed)
    charted_honest h =
        let all = honest_view start (acts_of made) late (failures_of before failed) in
        record { here = (h, all.here); counted = λ c image le is. (is.0, λ low. all.counted (c - first) image (omega (arith, le, low)) is.1) }

-- A disk does what these calls tell, each of which wrote inside of it: a read gives what they wrote, if none has failed; a stop leaves
-- nothing that they don't leave; and since a moment it has left nothing that they haven't left since.
pub record Follows (held : Type 0) (start : List ℕ) (first : ℕ) (made : List Made) (failed : Bool) (disk : View) : Type 0 where
  pub premise : held
  pub contents : failed ≡ false → disk.contents ≡ contents_after start (acts_of made)
  pub long : length (contents_after start (acts_of made)) ≡ length start
  pub no_shorter : length start ≤ length disk.contents
  pub images : LeavesAtMost disk start (acts_of made)
  pub since : (c : ℕ) (image : List ℕ) → first ≤ c → c ≤ disk.clock → disk.since c image → LeftSince start (acts_of made) (c - first) image

-- a disk and the calls that were noted of it: both clocks are the same, each of its calls was noted until one failed, and it does what
-- they tell as far as it is honest
pub record GoesAlong (held : Type 0) (start : List ℕ) (first before : ℕ) (made : List Made) (late : ℕ) (failed : Bool) (disk : View) : Type 0 where
  pub clock : disk.clock ≡ first + (length made + late)
  pub whole : failed ≡ false → (late ≡ 0) × (disk.failures ≡ before)
  pub follows : IsHonest disk → Follows held start first made failed disk

-- a disk, and what was noted: the calls, whether one has failed, and how many weren't noted
pub record Noted (D : Type 0) : Type 0 where
  pub disk : D
  pub made : List Made
  pub late : ℕ
  pub failed : Bool

abbrev pub noted_view : {D : Type 0} → Type 0 → List ℕ → ℕ → ℕ → Noted D → View
noted_view held start first before d = charted held start first before d.made d.late d.failed

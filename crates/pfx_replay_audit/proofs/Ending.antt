-- The records that a store's file has behind a log's end.
use Rattle.std.proofs.Common.{◌≡◌, ◌≤◌, ◌+◌, ◌-◌, ℕ, zero, suc, List, [], ◌∷◌, length, drop, map, refl, Option, Result, Ok, Err}
use Rattle.pfx_jobs.specs.Kind.{Kind}
use Rattle.pfx_kinds.specs.declared.units.Unit.{Unit}
use Rattle.pfx_machine.specs.Plain.{Plain}
use Rattle.pfx_record.specs.Records.{Recorded}
use Rattle.pfx_replay.specs.declared.verdict.Verdict.{Verdict}
use Rattle.pfx_replay_audit.specs.Behind.{BehindAnswer, JudgedBehind}
use Rattle.pfx_replay_audit.specs.declared.file_fault.FileFault.{FileFault}
use Rattle.pfx_replay_audit.specs.declared.file_fault.FileFault.TheVariants.{Apart, Gap, NoMemory}

pub dropped : {A B : Type 0} (f : A → B) (n : ℕ) (xs : List A) → map f (drop n xs) ≡ drop n (map f xs)
dropped f zero xs = refl
dropped f (suc n) [] = refl
dropped f (suc n) (x ∷ xs) = dropped f n xs

module _ {J : Type 0} (K : Kind J) (unit : J → Option Unit) (marks : List (Plain J)) (told : Plain J → List (Recorded J) → Type 0) (from : Plain J) (begin : ℕ) (records : List (Recorded J)) (low : begin ≤ from.number) (high : from.number ≤ begin + length records) where
  pub behind_by : (result : Result Verdict FileFault) → JudgedBehind K unit marks told from (drop (from.number - begin) records) result → BehindAnswer K unit marks told from begin records result
  behind_by (Ok verdict) h = record { low = low; high = high; judged = h }
  behind_by (Err NoMemory) h = tt
  behind_by (Err (Gap log file)) h = absurd h
  behind_by (Err Apart) h = record { low = low; high = high; judged = h }

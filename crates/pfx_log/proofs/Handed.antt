-- Faults of the machine, handed on.
use Rattle.std.proofs.Common.{◌≡◌, ℕ, List, drop, sym, subst, Result, Ok, Err}
use Rattle.std.specs.Prelude.{IsErrAnd, Option}
use Rattle.pfx_disk.specs.Disk.{View, HasFailed}
use Rattle.pfx_log.specs.Faults.{IsBlockFault, IsHeaderFault, IsFault, IsOfMachine}
use Rattle.pfx_log.specs.Holding.{Begins}
use Rattle.pfx_log.specs.Logs.{Log}
use Rattle.pfx_log.specs.Reading.{BlockAnswer, EndAnswer, FrontAnswer, HeaderAnswer, Keeps, Looks, ReadsHeld}
use Rattle.pfx_log.specs.declared.faults.LogFault.{LogFault}
use Rattle.pfx_log.specs.declared.faults.LogFault.TheVariants.{NoMemory, Device, NotALog, WrongVersion, Damaged, TooLong}
use Rattle.pfx_log.specs.declared.place.LogBlock.{LogBlock}
use Rattle.pfx_log.specs.declared.place.LogHeader.{LogHeader}
use Rattle.pfx_log.specs.declared.place.LogPlace.{LogPlace}
use Rattle.pfx_log.proofs.Looks.{failed_after, keeps_after, looks_then}

pub of_block : (e : LogFault) (log : Log) (p : ℕ) (rest : List ℕ) → IsOfMachine e → IsBlockFault e log p rest
of_block NoMemory log p rest is = tt
of_block Device log p rest is = tt
of_block NotALog log p rest is = absurd is
of_block (WrongVersion v) log p rest is = absurd is
of_block (Damaged at what) log p rest is = absurd is
of_block (TooLong at) log p rest is = absurd is

pub of_header : (e : LogFault) (image : List ℕ) → IsOfMachine e → IsHeaderFault e image
of_header NoMemory image is = tt
of_header Device image is = tt
of_header NotALog image is = absurd is
of_header (WrongVersion v) image is = absurd is
of_header (Damaged at what) image is = absurd is
of_header (TooLong at) image is = absurd is

module _ (a b : View) (e : LogFault) (looks : Looks a b) (device : e ≡ Device → HasFailed a b) (is : (bytes : List ℕ) → Keeps bytes a → IsOfMachine e) where
  pub front_handed : (place : LogPlace) (result : Result (Option (ℕ × ℕ × ℕ)) LogFault) → IsErrAnd result (λ x. x ≡ e) → ReadsHeld a b result (FrontAnswer place result)
  front_handed place (Ok x) same = absurd same
  front_handed place (Err x) same = subst (λ (y : LogFault). ReadsHeld {T = Option (ℕ × ℕ × ℕ)} a b (Err y) (FrontAnswer place (Err y))) (sym same)
      (record { looks = looks; device = device; exact = λ bytes kept log begins. of_block e log place.at (drop place.at bytes) (is bytes kept) })

  pub block_handed : (place : LogPlace) (result : Result (Option (LogBlock × LogPlace)) LogFault) → IsErrAnd result (λ x. x ≡ e) → ReadsHeld a b result (BlockAnswer place result)
  block_handed place (Ok x) same = absurd same
  block_handed place (Err x) same = subst (λ (y : LogFault). ReadsHeld {T = Option (LogBlock × LogPlace)} a b (Err y) (BlockAnswer place (Err y))) (sym same)
      (record { looks = looks; device = device; exact = λ bytes kept log begins. of_block e log place.at (drop place.at bytes) (is bytes kept) })

pub header_handed : (a b : View) (e : LogFault) → Looks a b → (e ≡ Device → HasFailed a b) → ((bytes : List ℕ) → Keeps bytes a → IsHeaderFault e bytes)
    → (result : Result (LogHeader × LogPlace) LogFault) → IsErrAnd result (λ x. x ≡ e) → ReadsHeld a b result (HeaderAnswer result)
header_handed a b e looks device is (Ok x) same = absurd same
header_handed a b e looks device is (Err x) same = subst (λ (y : LogFault). ReadsHeld {T = LogHeader × LogPlace} a b (Err y) (HeaderAnswer (Err y))) (sym same)
    (record { looks = looks; device = device; exact = λ bytes kept. is bytes kept })

pub walk_handed : (first : LogPlace) (a b : View) (e : LogFault) → Looks a b → (e ≡ Device → HasFailed a b)
    → ((bytes : List ℕ) → Keeps bytes a → (log : Log) → Begins log first bytes → IsFault e bytes)
    → (result : Result LogPlace LogFault) → IsErrAnd result (λ x. x ≡ e) → ReadsHeld a b result (λ bytes. (log : Log) → Begins log first bytes → EndAnswer result bytes)
walk_handed first a b e looks device is (Ok x) same = absurd same
walk_handed first a b e looks device is (Err x) same = subst (λ (y : LogFault). ReadsHeld {T = LogPlace} a b (Err y) (λ bytes. (log : Log) → Begins log first bytes → EndAnswer (Err y) bytes)) (sym same)
    (record { looks = looks; device = device; exact = is })

pub end_handed : (a b : View) (e : LogFault) → Looks a b → (e ≡ Device → HasFailed a b) → ((bytes : List ℕ) → Keeps bytes a → IsFault e bytes)
    → (result : Result LogPlace LogFault) → IsErrAnd result (λ x. x ≡ e) → ReadsHeld a b result (EndAnswer result)
end_handed a b e looks device is (Ok x) same = absurd same
end_handed a b e looks device is (Err x) same = subst (λ (y : LogFault). ReadsHeld {T = LogPlace} a b (Err y) (EndAnswer (Err y))) (sym same)
    (record { looks = looks; device = device; exact = is })

pub found_then : (a b d : View) (first : LogPlace) (result : Result LogPlace LogFault) → Looks a b → ((bytes : List ℕ) → Keeps bytes a → (log : Log) × Begins log first bytes)
    → ReadsHeld b d result (λ bytes. (log : Log) → Begins log first bytes → EndAnswer result bytes) → ReadsHeld a d result (EndAnswer result)
found_then a b d first (Ok place) looks begins reads = record {
  looks = looks_then a b d looks reads.looks;
  device = tt;
  exact = λ bytes kept. let l = begins bytes kept in reads.exact bytes (keeps_after bytes a b looks kept) l.0 l.1;
}
found_then a b d first (Err e) looks begins reads = record {
  looks = looks_then a b d looks reads.looks;
  device = λ is. failed_after a b d looks (reads.device is);
  exact = λ bytes kept. let l = begins bytes kept in reads.exact bytes (keeps_after bytes a b looks kept) l.0 l.1;
}

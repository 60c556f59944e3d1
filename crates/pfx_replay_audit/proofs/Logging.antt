-- What a fold of a whole log finds, from its header on.
use Rattle.std.proofs.Common.{◌≡◌, ◌≢◌, ◌⊎◌, inl, inr, ℕ, List, sym, subst, Some, Result, Ok, Err}
use Rattle.std.specs.Prelude.{IsErrAnd, Option}
use Rattle.std.proofs.lemmas.Bool.{cases_eq}
use Rattle.pfx_disk.specs.Disk.{View, HasFailed}
use Rattle.pfx_jobs.specs.Kind.{Kind}
use Rattle.pfx_kinds.specs.declared.units.Unit.{Unit}
use Rattle.pfx_log.specs.Faults.{IsFault}
use Rattle.pfx_log.specs.Holding.{Begins}
use Rattle.pfx_log.specs.Logs.{new_log}
use Rattle.pfx_log.specs.Reading.{Keeps, Looks}
use Rattle.pfx_log.specs.declared.faults.LogFault.{LogFault}
use Rattle.pfx_log.specs.declared.faults.LogFault.TheVariants.{Device}
use Rattle.pfx_log.specs.declared.place.LogHeader.{LogHeader}
use Rattle.pfx_log.specs.declared.place.LogPlace.{LogPlace}
use Rattle.pfx_log.proofs.Looks.{failed_after, keeps_after, looks_then}
use Rattle.pfx_machine.specs.Plain.{Plain}
use Rattle.pfx_record.specs.Records.{Recorded}
use Rattle.pfx_replay_audit.specs.Logs.{FirstAnswer, HasHeader, HeaderAnswer, NextAnswer}
use Rattle.pfx_replay_audit.specs.Reads.{BlocksAnswer, Reads}
use Rattle.pfx_replay_audit.specs.Starts.{read_start}
use Rattle.pfx_replay_audit.specs.declared.ends.LogEnd.{LogEnd}
use Rattle.pfx_replay_audit.specs.declared.ends.LogEnd.TheVariants.{Agrees, Differs}
use Rattle.pfx_replay_audit.specs.declared.faults.HistoryFault.{HistoryFault}
use Rattle.pfx_replay_audit.specs.declared.faults.HistoryFault.TheVariants.{Frames, Log as LogIs, NotNext, Start}

inner : (e f : LogFault) → LogIs e ≡ LogIs f → e ≡ f
inner e f k = cc

-- a fault of the log, handed on
module _ (a b : View) (e : LogFault) (looks : Looks a b) (device : e ≡ Device → HasFailed a b) (is : (bytes : List ℕ) → Keeps bytes a → IsFault e bytes) where
  pub front_handed : (result : Result (LogHeader × LogPlace × ℕ) HistoryFault) → IsErrAnd result (λ x. x ≡ LogIs e) → Reads a b result (HeaderAnswer result)
  front_handed (Ok x) same = absurd same
  front_handed (Err x) same = subst (λ (y : HistoryFault). Reads {T = LogHeader × LogPlace × ℕ} a b (Err y) (HeaderAnswer (Err y))) (sym same)
      (record { looks = looks; device = λ k. device (inner e Device k); exact = is })

  module _ {J : Type 0} (K : Kind J) (unit : J → Option Unit) (marks : List (Plain J)) (told : Plain J → List (Recorded J) → Type 0) where
    pub first_handed : (result : Result (LogEnd (Plain J)) HistoryFault) → IsErrAnd result (λ x. x ≡ LogIs e) → Reads a b result (λ bytes. FirstAnswer K unit marks told bytes result)
    first_handed (Ok x) same = absurd same
    first_handed (Err x) same = subst (λ (y : HistoryFault). Reads {T = LogEnd (Plain J)} a b (Err y) (λ bytes. FirstAnswer K unit marks told bytes (Err y))) (sym same)
        (record { looks = looks; device = λ k. device (inner e Device k); exact = is })

    pub next_handed : (from : Plain J) (head : List ℕ) (result : Result (LogEnd (Plain J)) HistoryFault) → IsErrAnd result (λ x. x ≡ LogIs e) → Reads a b result (λ bytes. NextAnswer K unit marks told from head bytes result)
    next_handed from head (Ok x) same = absurd same
    next_handed from head (Err x) same = subst (λ (y : HistoryFault). Reads {T = LogEnd (Plain J)} a b (Err y) (λ bytes. NextAnswer K unit marks told from head bytes (Err y))) (sym same)
        (record { looks = looks; device = λ k. device (inner e Device k); exact = is })

-- a fault in the header, handed on
pub front_first : {J : Type 0} (K : Kind J) (unit : J → Option Unit) (marks : List (Plain J)) (told : Plain J → List (Recorded J) → Type 0) (a b : View) (f : HistoryFault) → Reads {T = LogHeader × LogPlace × ℕ} a b (Err f) (HeaderAnswer (Err f))
    → (result : Result (LogEnd (Plain J)) HistoryFault) → IsErrAnd result (λ x. x ≡ f) → Reads a b result (λ bytes. FirstAnswer K unit marks told bytes result)
front_first {J} K unit marks told a b f reads (Ok x) same = absurd same
front_first {J} K unit marks told a b f reads (Err x) same = subst (λ (y : HistoryFault). Reads {T = LogEnd (Plain J)} a b (Err y) (λ bytes. FirstAnswer K unit marks told bytes (Err y))) (sym same)
    (record { looks = reads.looks; device = reads.device; exact = λ bytes kept. by f bytes (reads.exact bytes kept) })
  where
    by : (f : HistoryFault) (bytes : List ℕ) → HeaderAnswer (Err f) bytes → FirstAnswer K unit marks told bytes (Err f)
    by (LogIs e) bytes h = h
    by Start bytes h = absurd h
    by NotNext bytes h = absurd h
    by (Frames at) bytes h = absurd h

pub front_next : {J : Type 0} (K : Kind J) (unit : J → Option Unit) (marks : List (Plain J)) (told : Plain J → List (Recorded J) → Type 0) (from : Plain J) (head : List ℕ) (a b : View) (f : HistoryFault) → Reads {T = LogHeader × LogPlace × ℕ} a b (Err f) (HeaderAnswer (Err f))
    → (result : Result (LogEnd (Plain J)) HistoryFault) → IsErrAnd result (λ x. x ≡ f) → Reads a b result (λ bytes. NextAnswer K unit marks told from head bytes result)
front_next {J} K unit marks told from head a b f reads (Ok x) same = absurd same
front_next {J} K unit marks told from head a b f reads (Err x) same = subst (λ (y : HistoryFault). Reads {T = LogEnd (Plain J)} a b (Err y) (λ bytes. NextAnswer K unit marks told from head bytes (Err y))) (sym same)
    (record { looks = reads.looks; device = reads.device; exact = λ bytes kept. by f bytes (reads.exact bytes kept) })
  where
    by : (f : HistoryFault) (bytes : List ℕ) → HeaderAnswer (Err f) bytes → NextAnswer K unit marks told from head bytes (Err f)
    by (LogIs e) bytes h = h
    by Start bytes h = absurd h
    by NotNext bytes h = absurd h
    by (Frames at) bytes h = absurd h

module _ {J : Type 0} (K : Kind J) (unit : J → Option Unit) (marks : List (Plain J)) (told : Plain J → List (Recorded J) → Type 0) (a b d : View) (version : ℕ) (spelled before : List ℕ) (place : LogPlace) (looks : Looks a b) (begins : (bytes : List ℕ) → Keeps bytes a → Begins (new_log version spelled before) place bytes) where
  abbrev pub header_of : (bytes : List ℕ) → Keeps bytes a → HasHeader bytes
  header_of bytes kept = record { version = version; spelled = spelled; before = before; place = place; begins = begins bytes kept }

  module _ (start : Plain J) (starts : read_start K version spelled ≡ Some start) where
    abbrev Answered : Result (LogEnd (Plain J)) HistoryFault → List ℕ → Type 0
    Answered result bytes = (version : ℕ) → (spelled before : List ℕ) → Begins (new_log version spelled before) place bytes → BlocksAnswer K unit marks (new_log version spelled before) start bytes told result

    -- the first log, by its blocks
    pub first_then : (result : Result (LogEnd (Plain J)) HistoryFault) → Reads b d result (Answered result) → Reads a d result (λ bytes. FirstAnswer K unit marks told bytes result)
    first_then (Ok end) reads = record {
      looks = looks_then a b d looks reads.looks;
      device = tt;
      exact = λ bytes kept. record { header = header_of bytes kept; start = start; starts = starts; answer = reads.exact bytes (keeps_after bytes a b looks kept) version spelled before (begins bytes kept) };
    }
    first_then (Err (LogIs e)) reads = record {
      looks = looks_then a b d looks reads.looks;
      device = λ is. failed_after a b d looks (reads.device is);
      exact = λ bytes kept. reads.exact bytes (keeps_after bytes a b looks kept) version spelled before (begins bytes kept);
    }
    first_then (Err Start) reads = record {
      looks = looks_then a b d looks reads.looks;
      device = λ is. failed_after a b d looks (reads.device is);
      exact = λ bytes kept. absurd (reads.exact bytes (keeps_after bytes a b looks kept) version spelled before (begins bytes kept));
    }
    first_then (Err NotNext) reads = record {
      looks = looks_then a b d looks reads.looks;
      device = λ is. failed_after a b d looks (reads.device is);
      exact = λ bytes kept. reads.exact bytes (keeps_after bytes a b looks kept) version spelled before (begins bytes kept);
    }
    first_then (Err (Frames at)) reads = record {
      looks = looks_then a b d looks reads.looks;
      device = λ is. failed_after a b d looks (reads.device is);
      exact = λ bytes kept. record { header = header_of bytes kept; start = start; starts = starts; answer = reads.exact bytes (keeps_after bytes a b looks kept) version spelled before (begins bytes kept) };
    }

    module _ (from : Plain J) (head : List ℕ) (head_is : before ≡ head) (same : start ≡ from) where
      folded : (result : Result (LogEnd (Plain J)) HistoryFault) → Reads b d result (Answered result) → (bytes : List ℕ) → Keeps bytes a → BlocksAnswer K unit marks (new_log version spelled before) from bytes told result
      folded result reads bytes kept = subst (λ s. BlocksAnswer K unit marks (new_log version spelled before) s bytes told result) same (reads.exact bytes (keeps_after bytes a b looks kept) version spelled before (begins bytes kept))

      starts_from : read_start K version spelled ≡ Some from
      starts_from = subst (λ s. read_start K version spelled ≡ Some s) same starts

      -- a log behind another, by its blocks
      pub next_then : (result : Result (LogEnd (Plain J)) HistoryFault) → Reads b d result (Answered result) → Reads a d result (λ bytes. NextAnswer K unit marks told from head bytes result)
      next_then (Ok (Agrees t last)) reads = record {
        looks = looks_then a b d looks reads.looks;
        device = tt;
        exact = λ bytes kept. record { header = header_of bytes kept; starts = starts_from; head_is = head_is; answer = folded (Ok (Agrees t last)) reads bytes kept };
      }
      next_then (Ok (Differs n what)) reads = record {
        looks = looks_then a b d looks reads.looks;
        device = tt;
        exact = λ bytes kept. inl (record { header = header_of bytes kept; starts = starts_from; head_is = head_is; answer = folded (Ok (Differs n what)) reads bytes kept });
      }
      next_then (Err (LogIs e)) reads = record {
        looks = looks_then a b d looks reads.looks;
        device = λ is. failed_after a b d looks (reads.device is);
        exact = folded (Err (LogIs e)) reads;
      }
      next_then (Err Start) reads = record {
        looks = looks_then a b d looks reads.looks;
        device = λ is. failed_after a b d looks (reads.device is);
        exact = λ bytes kept. absurd (folded (Err Start) reads bytes kept);
      }
      next_then (Err NotNext) reads = record {
        looks = looks_then a b d looks reads.looks;
        device = λ is. failed_after a b d looks (reads.device is);
        exact = λ bytes kept. absurd (folded (Err NotNext) reads bytes kept);
      }
      next_then (Err (Frames at)) reads = record {
        looks = looks_then a b d looks reads.looks;
        device = λ is. failed_after a b d looks (reads.device is);
        exact = λ bytes kept. record { header = header_of bytes kept; starts = starts_from; head_is = head_is; answer = folded (Err (Frames at)) reads bytes kept };
      }

-- two heads and two numbers of which not both are the same
pub not_both : (one other : List ℕ) (n m : ℕ) → ((one ≡ other) × (n ≡ m) → ⊥) → (one ≢ other) ⊎ (n ≢ m)
not_both one other n m never = elim (cases_eq n m) [
  | inl same ↦ inl (λ is. never (is, same))
  | inr differ ↦ inr differ
]

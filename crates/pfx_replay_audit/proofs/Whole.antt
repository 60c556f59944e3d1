-- A whole history: logs, and a store's file behind them.
use Rattle.std.proofs.Common.{◌∙◌, ◌-◌, ◌++◌, ℕ, List, [], drop, map, refl, sym, ap, subst, inr, append-nil, Option, Some, None, Result, Ok, Err}
use Rattle.pfx_disk.specs.Disk.{View}
use Rattle.pfx_jobs.specs.Kind.{Kind, Laws}
use Rattle.pfx_kinds.specs.declared.units.Unit.{Unit}
use Rattle.pfx_log.specs.declared.place.LogPlace.{LogPlace}
use Rattle.pfx_machine.specs.Plain.{Plain}
use Rattle.pfx_record.specs.Records.{Recorded, plain}
use Rattle.pfx_replay.specs.Stated.{plain_of}
use Rattle.pfx_replay.specs.declared.verdict.Difference.{Difference}
use Rattle.pfx_replay.specs.declared.verdict.Verdict.TheVariants.{Agrees as Holds, Differs as Breaks}
use Rattle.pfx_replay_audit.specs.Audits.{AreAgreed, AuditAnswer, EndAnswer, FileAnswer, IsAgreed, IsFirstOfAll, LogsAnswer, ReadsEach}
use Rattle.pfx_replay_audit.specs.Histories.{marks_in}
use Rattle.pfx_replay_audit.specs.Marks.{Agree, IsFirst, behind}
use Rattle.pfx_replay_audit.specs.declared.audit_fault.AuditFault.{AuditFault}
use Rattle.pfx_replay_audit.specs.declared.audit_fault.AuditFault.TheVariants.{File, Log as LogAt}
use Rattle.pfx_replay_audit.specs.declared.ends.HistoryEnd.{HistoryEnd}
use Rattle.pfx_replay_audit.specs.declared.ends.HistoryEnd.TheVariants.{Agrees as AllAgrees, Differs as FirstDiffers}
use Rattle.pfx_replay_audit.specs.declared.ends.LogEnd.{LogEnd}
use Rattle.pfx_replay_audit.specs.declared.ends.LogEnd.TheVariants.{Agrees}
use Rattle.pfx_replay_audit.specs.declared.file.FileHistory.{FileHistory}
use Rattle.pfx_replay_audit.specs.Watches.{Told, untold}
use Rattle.pfx_replay_audit.specs.declared.file_fault.FileFault.{FileFault}
use Rattle.pfx_replay_audit.specs.declared.file_fault.FileFault.TheVariants.{Apart, Gap, NoMemory}
use Rattle.pfx_replay_audit.proofs.Telling.{told_more}
use Rattle.pfx_replay_audit.proofs.Folding.{agree_more, first_more}

module _ {J : Type 0} (K : Kind J) (L : Laws K) (unit : J → Option Unit) (images : List (List ℕ)) where
  -- why a file isn't the end says nothing of what was told
  file_any : (told : Plain J → List (Recorded J) → Type 0) (file : Option (FileHistory J)) (t : Plain J) (fault : FileFault) → FileAnswer K unit told file t (Err fault) → FileAnswer K unit untold file t (Err fault)
  file_any told None t fault answer = absurd answer
  file_any told (Some file) t NoMemory answer = tt
  file_any told (Some file) t (Gap log end) answer = answer
  file_any told (Some file) t Apart answer = record { low = answer.low; high = answer.high; judged = answer.judged }

  module _ {W : Type 0} (sees : W → Plain J → List (Recorded J) → W → Type 0) (old mid new : W) where
    abbrev More : Option (FileHistory J) → ℕ → LogPlace → Type 0
    More file n end = (agreed : IsAgreed K unit images file n end) × Told K sees old new agreed.s agreed.records

    -- the logs agree, and this is the file's answer
    agreed : (file : Option (FileHistory J)) (t : Plain J) (end : LogPlace) → (come : AreAgreed K unit (marks_in file) images t end) → Told K sees old mid come.s come.read → (n : ℕ) → FileAnswer K unit (Told K sees mid new) file t (Ok (Holds n)) → More file n end
    agreed None t end come before n answer = (
      record {
        s = come.s;
        records = come.read;
        whole = record { read = come.read; rest = []; t = t; logs = come.logs; behind = refl; whole = sym (append-nil come.read) };
        agree = come.agree;
        number = answer.0 ∙ ap (λ (q : Plain J). q.number) come.state;
      },
      subst (λ l. Told K sees old new come.s l) (append-nil come.read) (told_more K L sees old mid new come.s come.read [] before (subst (λ q. Told K sees mid new q []) come.state answer.1)),
    )
    agreed (Some file) t end come before n answer =
        let marks = map plain_of file.marks.items in
        let rest = drop (t.number - file.begin) (map plain file.records.items) in
        let judged = answer.judged in
        let joined = agree_more K L unit marks come.s come.read rest come.agree (subst (λ q. Agree K unit marks q rest) come.state judged.0) in (
          record {
            s = come.s;
            records = come.read ++ rest;
            whole = record { read = come.read; rest = rest; t = t; logs = come.logs; behind = (answer.low, answer.high, refl); whole = refl };
            agree = joined.0;
            number = judged.1 ∙ ap (λ q. (behind K q rest).number) come.state ∙ ap (λ (q : Plain J). q.number) joined.1;
          },
          told_more K L sees old mid new come.s come.read rest before (subst (λ q. Told K sees mid new q rest) come.state judged.2),
        )

    differs : (file : Option (FileHistory J)) (t : Plain J) (end : LogPlace) → AreAgreed K unit (marks_in file) images t end → (n : ℕ) (what : Difference) → FileAnswer K unit (Told K sees mid new) file t (Ok (Breaks n what)) → IsFirstOfAll K unit images file what n
    differs None t end come n what answer = absurd answer
    differs (Some file) t end come n what answer =
        let marks = map plain_of file.marks.items in
        let rest = drop (t.number - file.begin) (map plain file.records.items) in
        record {
          s = come.s;
          records = come.read ++ rest;
          end = end;
          whole = record { read = come.read; rest = rest; t = t; logs = come.logs; behind = (answer.low, answer.high, refl); whole = refl };
          first = first_more K L unit marks come.s come.read rest come.agree what n (subst (λ q. IsFirst K unit marks what q rest n) come.state answer.judged);
        }

    pub whole_by : (file : Option (FileHistory J)) (t : Plain J) (end : LogPlace) → (come : AreAgreed K unit (marks_in file) images t end) → Told K sees old mid come.s come.read → (result : Result HistoryEnd AuditFault)
        → EndAnswer K unit (Told K sees mid new) file t end result → AuditAnswer K unit images file (Told K sees old new) result
    whole_by file t end come before (Ok (AllAgrees n log)) answer = subst (λ p. More file n p) (sym answer.1) (agreed file t end come before n answer.0)
    whole_by file t end come before (Ok (FirstDiffers n what)) answer = inr (differs file t end come n what answer)
    whole_by file t end come before (Err (LogAt index fault)) answer = absurd answer
    whole_by file t end come before (Err (File fault)) answer = record { from = t; place = end; before = come; answer = file_any (Told K sees mid new) file t fault answer }

module _ {D J : Type 0} (view : D → View) (start now : List D) (K : Kind J) (L : Laws K) (unit : J → Option Unit) (file : Option (FileHistory J)) where
  abbrev Logs : (Plain J → List (Recorded J) → Type 0) → Result (LogEnd (Plain J)) AuditFault → Type 0
  Logs told result = ReadsEach view start now result (λ images. LogsAnswer K unit (marks_in file) images told result)

  abbrev Whole : (Plain J → List (Recorded J) → Type 0) → Result HistoryEnd AuditFault → Type 0
  Whole told result = ReadsEach view start now result (λ images. AuditAnswer K unit images file told result)

  module _ {W : Type 0} (sees : W → Plain J → List (Recorded J) → W → Type 0) (old mid new : W) where
    pub ended : (t : Plain J) (end : LogPlace) → Logs (Told K sees old mid) (Ok (Agrees t end)) → (result : Result HistoryEnd AuditFault) → EndAnswer K unit (Told K sees mid new) file t end result → Whole (Told K sees old new) result
    ended t end reads (Ok x) answer = record {
      looks = reads.looks;
      device = tt;
      exact = λ honest. whole_by K L unit (map (λ d. (view d).contents) start) sees old mid new file t end (reads.exact honest).0 (reads.exact honest).1 (Ok x) answer;
    }
    ended t end reads (Err (LogAt index fault)) answer = absurd answer
    ended t end reads (Err (File fault)) answer = record {
      looks = reads.looks;
      device = λ k d is. cc;
      exact = λ honest. whole_by K L unit (map (λ d. (view d).contents) start) sees old mid new file t end (reads.exact honest).0 (reads.exact honest).1 (Err (File fault)) answer;
    }

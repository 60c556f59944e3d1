-- What a fold of a log's blocks finds, block after block.
use Rattle.std.proofs.Common.{◌≡◌, ◌∙◌, ℕ, List, [], ◌∷◌, ◌++◌, refl, sym, ap, subst, Result, Ok, Err}
use Rattle.std.specs.Prelude.{IsErrAnd, Option}
use Rattle.pfx_disk.specs.Disk.{View, HasFailed}
use Rattle.pfx_jobs.specs.Kind.{Kind, Laws}
use Rattle.pfx_kinds.specs.declared.units.Unit.{Unit}
use Rattle.pfx_log.specs.Faults.{IsFault}
use Rattle.pfx_log.specs.Holding.{Begins}
use Rattle.pfx_log.specs.Logs.{Block, Log, new_log}
use Rattle.pfx_log.specs.Reading.{Keeps, Looks}
use Rattle.pfx_log.specs.declared.faults.LogFault.{LogFault}
use Rattle.pfx_log.specs.declared.faults.LogFault.TheVariants.{Device}
use Rattle.pfx_log.specs.declared.place.LogPlace.{LogPlace}
use Rattle.pfx_machine.specs.Plain.{Plain}
use Rattle.pfx_machine.proofs.Compose.{outcome-none}
use Rattle.pfx_record.specs.Records.{Recorded}
use Rattle.pfx_replay.specs.declared.verdict.Difference.{Difference}
use Rattle.pfx_replay.specs.declared.verdict.Difference.TheVariants.{Checkpoint}
use Rattle.pfx_replay_audit.specs.Blocks.{IsRead}
use Rattle.pfx_replay_audit.specs.Marks.{Agree, IsFirst, Meets, behind}
use Rattle.pfx_replay_audit.specs.Reads.{AreBegun, AreUntil, BlocksAnswer, IsUnread, Reads, of_blocks}
use Rattle.pfx_replay_audit.specs.Watches.{Told}
use Rattle.pfx_replay_audit.specs.declared.ends.LogEnd.{LogEnd}
use Rattle.pfx_replay_audit.specs.declared.faults.HistoryFault.{HistoryFault}
use Rattle.pfx_replay_audit.specs.declared.faults.HistoryFault.TheVariants.{Log as LogIs}
use Rattle.pfx_replay_audit.proofs.Folding.{agree_more, first_more, read_more}
use Rattle.pfx_replay_audit.proofs.Marking.{agree_none, gives_wrong, unmet}
use Rattle.pfx_replay_audit.proofs.Telling.{told_more, told_one}

module _ {J : Type 0} (K : Kind J) (unit : J → Option Unit) (marks : List (Plain J)) (start : Log) (s : Plain J) (bytes : List ℕ) where
  -- what the fold has come to at a place and a state
  pub record Come (place : LogPlace) (reached : Plain J) : Type 0 where
    pub blocks : List Block
    pub read : List (Recorded J)
    pub begun : AreBegun K unit marks start s bytes blocks place read reached
    pub agree : Agree K unit marks s read
    pub state : reached ≡ behind K s read

  abbrev pub come_none : Laws K → (place : LogPlace) → Begins (of_blocks start []) place bytes → Meets marks s → Come place s
  come_none L place begins met = record { blocks = []; read = []; begun = record { begins = begins; are = (refl, refl) }; agree = agree_none K L unit marks s met; state = sym (outcome-none K s) }

  module _ (L : Laws K) (place : LogPlace) (reached : Plain J) (come : Come place reached) (block : Block) (next : LogPlace) (begins : Begins (of_blocks start (come.blocks ++ block ∷ [])) next bytes) where
    pub come_more : {W : Type 0} (sees : W → Plain J → List (Recorded J) → W → Type 0) (w u v : W) → Told K sees w u s come.read → (more : List (Recorded J)) (t : Plain J) → IsRead K reached block more t → Agree K unit marks reached more → t ≡ behind K reached more → sees u reached more v → (there : Come next t) × Told K sees w v s there.read
    come_more sees w u v before more t read agree is told =
        let joined = agree_more K L unit marks s come.read more come.agree (subst (λ q. Agree K unit marks q more) come.state agree) in
        let part = subst (λ q. Told K sees u v q more) come.state (told_one K L sees u v reached more told) in (
          record {
            blocks = come.blocks ++ block ∷ [];
            read = come.read ++ more;
            begun = record { begins = begins; are = read_more K s come.blocks come.read reached block more t come.begun.are read };
            agree = joined.0;
            state = is ∙ ap (λ q. behind K q more) come.state ∙ joined.1;
          },
          told_more K L sees w u v s come.read more before part,
        )

    pub until_more : (what : Difference) (n : ℕ) (more : List (Recorded J)) (t : Plain J) → IsRead K reached block more t → IsFirst K unit marks what reached more n → AreUntil K unit marks start s bytes what n
    until_more what n more t read first = record {
      blocks = come.blocks ++ block ∷ [];
      place = next;
      read = come.read ++ more;
      reached = t;
      begun = record { begins = begins; are = read_more K s come.blocks come.read reached block more t come.begun.are read };
      first = first_more K L unit marks s come.read more come.agree what n (subst (λ q. IsFirst K unit marks what q more n) come.state first);
    }

    pub unread : (at : ℕ) → at ≡ place.at → ((more : List (Recorded J)) (t : Plain J) → IsRead K reached block more t → ⊥) → IsUnread K unit marks start s bytes at
    unread at is none = record {
      blocks = come.blocks;
      place = place;
      read = come.read;
      reached = reached;
      begun = come.begun;
      agree = come.agree;
      block = block;
      behind = next;
      next = begins;
      unread = none;
      at_is = is;
    }

module _ {J : Type 0} (K : Kind J) (unit : J → Option Unit) (marks : List (Plain J)) (told : Plain J → List (Recorded J) → Type 0) (first : LogPlace) (s : Plain J) (a b : View) where
  abbrev pub Answered : Result (LogEnd (Plain J)) HistoryFault → List ℕ → Type 0
  Answered result bytes = (version : ℕ) → (spelled before : List ℕ) → Begins (new_log version spelled before) first bytes → BlocksAnswer K unit marks (new_log version spelled before) s bytes told result

  pub log_handed : (e : LogFault) → Looks a b → (e ≡ Device → HasFailed a b) → ((bytes : List ℕ) → Keeps bytes a → (version : ℕ) → (spelled before : List ℕ) → Begins (new_log version spelled before) first bytes → IsFault e bytes)
      → (result : Result (LogEnd (Plain J)) HistoryFault) → IsErrAnd result (λ x. x ≡ LogIs e) → Reads a b result (Answered result)
  log_handed e looks device is (Ok x) same = absurd same
  log_handed e looks device is (Err x) same = subst (λ (y : HistoryFault). Reads {T = LogEnd (Plain J)} a b (Err y) (Answered (Err y))) (sym same)
      (record { looks = looks; device = λ k. device (inner k); exact = is })
    where
      inner : LogIs e ≡ LogIs Device → e ≡ Device
      inner k = cc

-- a log at whose first state a mark isn't met
pub until_none : {J : Type 0} (K : Kind J) (L : Laws K) (unit : J → Option Unit) (marks : List (Plain J)) (start : Log) (s : Plain J) (bytes : List ℕ) (place : LogPlace) → Begins (of_blocks start []) place bytes → (Meets marks s → ⊥) → AreUntil K unit marks start s bytes Checkpoint s.number
until_none K L unit marks start s bytes place begins never = record {
  blocks = [];
  place = place;
  read = [];
  reached = s;
  begun = record { begins = begins; are = (refl, refl) };
  first = gives_wrong K L unit marks s [] s.number Checkpoint (unmet K L unit marks s [] never);
}

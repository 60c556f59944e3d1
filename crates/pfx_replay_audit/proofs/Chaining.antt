-- Logs, one behind the other.
use Rattle.std.proofs.Common.{◌≡◌, ◌∙◌, ◌+◌, ℕ, List, [], ◌∷◌, ◌++◌, length, take, refl, sym, ap, subst, inl, inr, arith, append-nil, append_assoc, length-append, Option, Some, None, Ok, Err}
use Rattle.std.specs.Prelude.{slice_get}
use Rattle.std.proofs.lemmas.List.Elements.{All-cons, All-head}
use Rattle.pfx_jobs.specs.Kind.{Kind, Laws}
use Rattle.pfx_kinds.specs.declared.units.Unit.{Unit}
use Rattle.pfx_log.specs.declared.place.LogPlace.{LogPlace}
use Rattle.pfx_machine.specs.Plain.{Plain}
use Rattle.pfx_machine.specs.Outcome.{outcome}
use Rattle.pfx_machine.proofs.Compose.{outcome-none, outcome-outcome}
use Rattle.pfx_record.specs.Records.{Recorded}
use Rattle.pfx_record_redo.proofs.Outcomes.{outcome-one}
use Rattle.pfx_replay.specs.Commands.{command_of, commands_of}
use Rattle.pfx_replay.specs.declared.verdict.Difference.{Difference}
use Rattle.pfx_replay.specs.declared.verdict.Difference.TheVariants.{Checkpoint}
use Rattle.pfx_replay_audit.specs.Audits.{AreAgreed, IsFirstOf}
use Rattle.pfx_replay_audit.specs.Histories.{AreLogs, HoldsLog}
use Rattle.pfx_replay_audit.specs.Logs.{FirstAnswer, IsFolded, IsFoldedOn, IsOtherStart, NextAnswer}
use Rattle.pfx_replay_audit.specs.Marks.{Agree, IsFirst, IsMet, behind}
use Rattle.pfx_replay_audit.specs.declared.ends.LogEnd.TheVariants.{Agrees, Differs}
use Rattle.pfx_replay_audit.specs.Watches.{Told, untold}
use Rattle.pfx_replay_audit.specs.declared.faults.HistoryFault.{HistoryFault}
use Rattle.pfx_replay_audit.specs.declared.faults.HistoryFault.TheVariants.{Frames, Log as LogIs, NotNext, Start}
use Rattle.pfx_replay_audit.proofs.Telling.{told_more}
use Rattle.pfx_replay_audit.proofs.Folding.{agree_more, first_more}

-- one log more
pub logs_more : {J : Type 0} (K : Kind J) (images : List (List ℕ)) (from : Option LogPlace) (s : Plain J) (xs : List (Recorded J)) (r : Plain J) (mid : Option LogPlace) (image : List ℕ) (ys : List (Recorded J)) (t : Plain J) (end : LogPlace)
    → AreLogs K images from s xs r mid → HoldsLog K image mid r ys t end → AreLogs K (images ++ image ∷ []) from s (xs ++ ys) t (Some end)
logs_more K [] from s xs r mid image ys t end none one =
    let here : HoldsLog K image from s ys t end = subst (λ q. HoldsLog K image q s ys t end) (sym none.2) (subst (λ q. HoldsLog K image mid q ys t end) (sym none.1) one) in
    (ys, [], t, end, here, (refl, refl, refl), ap (λ l. l ++ ys) none.0 ∙ sym (append-nil ys))
logs_more K (first ∷ images) from s xs r mid image ys t end (us, vs, q, place, is, are, whole) one =
    (us, vs ++ ys, q, place, is, logs_more K images (Some place) q vs r mid image ys t end are one, ap (λ l. l ++ ys) whole ∙ append_assoc us vs ys)

-- the number behind records
pub number_behind : {J : Type 0} (K : Kind J) (L : Laws K) (s : Plain J) (xs : List (Recorded J)) → (behind K s xs).number ≡ s.number + length xs
number_behind {J} K L s [] = let e = ap (λ (t : Plain J). t.number) (outcome-none K s) in omega (arith, e)
number_behind {J} K L s (x ∷ xs) =
    let all = ap (λ (t : Plain J). t.number) (outcome-outcome K L s (command_of x ∷ []) (commands_of xs)) in
    let one = ap (λ (t : Plain J). t.number) (outcome-one K L s (command_of x)) in
    let rest = number_behind K L (outcome K s (command_of x ∷ [])) xs in
    omega (arith, all, one, rest)

module _ {J : Type 0} (K : Kind J) (L : Laws K) (unit : J → Option Unit) (marks : List (Plain J)) where
  module _ (told : Plain J → List (Recorded J) → Type 0) (images : List (List ℕ)) (image : List ℕ) (image_is : slice_get images 0 ≡ Some image) where
    pub agreed_first : (t : Plain J) (end : LogPlace) → IsFolded K unit marks told image (Ok (Agrees t end)) → (agreed : AreAgreed K unit marks (image ∷ []) t end) × told agreed.s agreed.read
    agreed_first t end folded =
        let w = folded.answer.0 in (
          record {
            s = folded.start;
            read = w.read;
            logs = (w.read, [], t, end, record { header = folded.header; names = tt; starts = folded.starts; blocks = w.blocks; holds = w.holds; are = w.are; end_is = w.end_is }, (refl, refl, refl), sym (append-nil w.read));
            agree = w.agree;
            state = w.state;
          },
          folded.answer.1,
        )

    pub differs_first : (n : ℕ) (what : Difference) → IsFolded K unit marks told image (Ok (Differs n what)) → IsFirstOf K unit marks images what n
    differs_first n what folded =
        let u = folded.answer in
        record {
          s = folded.start;
          all = marks;
          records = u.read;
          front = inl (
            refl,
            record {
              index = 0;
              image = image;
              image_is = image_is;
              read = [];
              more = u.read;
              t = folded.start;
              from = None;
              logs = (refl, refl, refl);
              begins = record { header = folded.header; names = tt; starts = folded.starts; blocks = u.blocks; place = u.place; begins = u.begun.begins; reached = u.reached; are = u.begun.are };
              whole = refl;
            },
          );
          first = u.first;
        }

  module _ (images : List (List ℕ)) (index : ℕ) (image : List ℕ) (image_is : slice_get images index ≡ Some image) (from : Plain J) (place : LogPlace) (come : AreAgreed K unit marks (take index images) from place) where
    pub agreed_next : {W : Type 0} (sees : W → Plain J → List (Recorded J) → W → Type 0) (w u v : W) → Told K sees w u come.s come.read → (t : Plain J) (end : LogPlace) → IsFoldedOn K unit marks (Told K sees u v) from place.head image (Ok (Agrees t end))
        → (agreed : AreAgreed K unit marks (take index images ++ image ∷ []) t end) × Told K sees w v agreed.s agreed.read
    agreed_next sees o u v before t end folded =
        let w = folded.answer.0 in
        let part = subst (λ q. Told K sees u v q w.read) come.state folded.answer.1 in
        let joined = agree_more K L unit marks come.s come.read w.read come.agree (subst (λ q. Agree K unit marks q w.read) come.state w.agree) in (
          record {
            s = come.s;
            read = come.read ++ w.read;
            logs = logs_more K (take index images) None come.s come.read from (Some place) image w.read t end come.logs
                (record { header = folded.header; names = folded.head_is; starts = folded.starts; blocks = w.blocks; holds = w.holds; are = w.are; end_is = w.end_is });
            agree = joined.0;
            state = w.state ∙ ap (λ q. behind K q w.read) come.state ∙ joined.1;
          },
          told_more K L sees o u v come.s come.read w.read before part,
        )

    pub differs_next : (told : Plain J → List (Recorded J) → Type 0) → (n : ℕ) (what : Difference) → IsFoldedOn K unit marks told from place.head image (Ok (Differs n what)) → IsFirstOf K unit marks images what n
    differs_next told n what folded =
        let u = folded.answer in
        record {
          s = come.s;
          all = marks;
          records = come.read ++ u.read;
          front = inl (
            refl,
            record {
              index = index;
              image = image;
              image_is = image_is;
              read = come.read;
              more = u.read;
              t = from;
              from = Some place;
              logs = come.logs;
              begins = record { header = folded.header; names = folded.head_is; starts = folded.starts; blocks = u.blocks; place = u.place; begins = u.begun.begins; reached = u.reached; are = u.begun.are };
              whole = refl;
            },
          );
          first = first_more K L unit marks come.s come.read u.read come.agree what n (subst (λ q. IsFirst K unit marks what q u.read n) come.state u.first);
        }

    pub other_start : (told : Plain J → List (Recorded J) → Type 0) → (n : ℕ) → IsOtherStart K unit marks told from place.head image n → IsFirstOf K unit marks images Checkpoint n
    other_start told n h =
        let s = come.s in
        let here : from.number ≡ (behind K s come.read).number = ap (λ (t : Plain J). t.number) come.state in
        record {
          s = s;
          all = h.start ∷ marks;
          records = come.read;
          front = inr (
            h.start,
            refl,
            record {
              index = index;
              image = image;
              image_is = image_is;
              t = from;
              from = place;
              logs = come.logs;
              header = h.header;
              names = h.head_is;
              starts = h.starts;
              number = h.same;
            },
          );
          first = record {
            front = come.read;
            rest = [];
            whole = sym (append-nil come.read);
            follow = come.agree.follow;
            met = λ before more one e. All-cons (IsMet (behind K s before)) h.start marks (earlier before more one e) (come.agree.met before (one ∷ more) e);
            wrong = record {
              unmet = λ met. h.other (All-head (IsMet (behind K s come.read)) h.start marks met (h.same ∙ here) ∙ sym come.state);
              number = h.number ∙ here;
            };
          };
        }
      where
        earlier : (before more : List (Recorded J)) (one : Recorded J) → come.read ≡ before ++ one ∷ more → IsMet (behind K come.s before) h.start
        earlier before more one e same =
            let long = ap length e ∙ length-append before (one ∷ more) in
            let there = ap (λ (t : Plain J). t.number) come.state in
            absurd (omega (arith, same, h.same, there, number_behind K L come.s come.read, number_behind K L come.s before, long))

-- why a log isn't read says nothing of what was told
pub first_any : {J : Type 0} (K : Kind J) (unit : J → Option Unit) (marks : List (Plain J)) (told : Plain J → List (Recorded J) → Type 0) (bytes : List ℕ) (fault : HistoryFault) → FirstAnswer K unit marks told bytes (Err fault) → FirstAnswer K unit marks untold bytes (Err fault)
first_any K unit marks told bytes (LogIs fault) h = h
first_any K unit marks told bytes Start h = h
first_any K unit marks told bytes NotNext h = h
first_any K unit marks told bytes (Frames at) h = record { header = h.header; start = h.start; starts = h.starts; answer = h.answer }

pub next_any : {J : Type 0} (K : Kind J) (unit : J → Option Unit) (marks : List (Plain J)) (told : Plain J → List (Recorded J) → Type 0) (from : Plain J) (head bytes : List ℕ) (fault : HistoryFault) → NextAnswer K unit marks told from head bytes (Err fault) → NextAnswer K unit marks untold from head bytes (Err fault)
next_any K unit marks told from head bytes (LogIs fault) h = h
next_any K unit marks told from head bytes Start h = h
next_any K unit marks told from head bytes NotNext h = record { header = h.header; start = h.start; starts = h.starts; not_next = h.not_next }
next_any K unit marks told from head bytes (Frames at) h = record { header = h.header; starts = h.starts; head_is = h.head_is; answer = h.answer }

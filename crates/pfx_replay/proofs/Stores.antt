-- What is known of a file that a store leaves.
use Rattle.std.specs.Prelude.{◌≡◌, ◌+◌, ◌++◌, ℕ, List, [], not, take, drop, Bool, true, false, Option, Some, None, Vec, MatchOption, refl}
use Rattle.std.proofs.Common.{sym, ◌∙◌, ap, ap₂, subst}
use Rattle.std.specs.declared.alloc.Global.{Global}
use Rattle.pfx_record_redo.specs.Applying.{applied}
use Rattle.pfx_store_format.specs.Areas.{read_area}
use Rattle.pfx_store_format.specs.Format.{format, layout}
use Rattle.pfx_store_header.specs.Headers.{Header}
use Rattle.pfx_jobs.specs.Kind.{Kind, Laws}
use Rattle.pfx_kinds.specs.declared.units.Unit.{Unit}
use Rattle.pfx_machine.specs.Plain.{Plain}
use Rattle.pfx_record.specs.Records.{Recorded}
use Rattle.pfx_store_image.specs.Layout.{segment_at, area_at}
use Rattle.pfx_store_image.specs.Store.{Parts, IsStore, Other, Replays}
use Rattle.pfx_segment.specs.Frames.{AreFrames}
use Rattle.pfx_segment.specs.Reading.{views}
use Rattle.pfx_replay.specs.Trails.{IsWay, IsWayIf, history, records_behind}
use Rattle.pfx_replay.specs.Verdicts.{IsVerdict}
use Rattle.pfx_replay.specs.Ways.{way_of}
use Rattle.pfx_replay.specs.declared.verdict.Verdict.{Verdict}
use Rattle.pfx_replay.proofs.FrameRuns.{frames_applied, replays_joined}

-- the frames of a segment
abbrev pub AreIn : Header → List ℕ → Bool → List (List ℕ) → Type 0
AreIn h image b frames = AreFrames (segment_at (layout h) b + 9) (segment_at (layout h) b + (layout h).segment) frames image

pub verdict_by : (found : Option Verdict) (Nothing : Type 0) (P Q : Verdict → Type 0) → MatchOption found Nothing P → (Nothing → ⊥) → ((v : Verdict) → P v → Q v) → MatchOption found ⊥ Q
verdict_by None N P Q h never f = absurd (never h)
verdict_by (Some v) N P Q h never f = f v h

-- what is answered of these records
module _ {J : Type 0} (K : Kind J) (unit : J → Option Unit) where
  abbrev pub Answered : Plain J → List (Recorded J) → Plain J → List (Recorded J) → Option Verdict → Type 0
  Answered start before base behind found =
      MatchOption found ((x y : Plain J) → applied K start before ≡ Some x → applied K base behind ≡ Some y → ⊥) (λ v. IsVerdict K unit (record { start = start; before = before; checkpoint = base; behind = behind }) v)

  pub answered_as : (found : Option Verdict) (a b : Plain J) (before again : List (Recorded J)) (base : Plain J) (behind : List (Recorded J)) → a ≡ b → before ≡ again → Answered a before base behind found → Answered b again base behind found
  answered_as found a b before again base behind same also given = subst (λ s. Answered s again base behind found) same (subst (λ l. Answered a l base behind found) also given)

module _ {J : Type 0} (K : Kind J) (L : Laws K) (h : Header) where
  some_same : {A : Type 0} (a b : A) → Some a ≡ Some b → a ≡ b
  some_same a b is = ap (λ o. elim o [ Some x ↦ x | None ↦ a ]) is

  none_before : (b : Bool) (p : Parts (Plain J)) (t : Plain J) (image : List ℕ) → Other (format K) h b p t image → b ≡ false → p.before ≡ []
  none_before false p t image is e = is.2
  none_before true p t image is e = cc

  are_before : (b : Bool) (p : Parts (Plain J)) (t : Plain J) (image : List ℕ) → Other (format K) h b p t image → b ≡ true → AreIn h image (not p.segment) p.before
  are_before false p t image is e = cc
  are_before true p t image is e = is.0.are

  lead_before : (b : Bool) (p : Parts (Plain J)) (t : Plain J) (image : List ℕ) → Other (format K) h b p t image → Replays (format K) p.base p.before p.middle
  lead_before false p t image is = subst (λ l. Replays (format K) p.base l p.middle) (sym is.2) is.1
  lead_before true p t image is = is.1

  module _ (image : List ℕ) (p : Parts (Plain J)) (t : Plain J) (is : IsStore (format K) h p t image) (area segment turned : Bool) (area_is : p.area ≡ area) (segment_is : p.segment ≡ segment) (turned_is : p.turned ≡ turned) where
    pub found_by : (P : List (List ℕ) → List (List ℕ) → Type 0)
        → ((before frames : List (List ℕ)) → (turned ≡ false → before ≡ []) → (turned ≡ true → AreIn h image (not segment) before) → AreIn h image segment frames → P before frames) → P p.before p.frames
    found_by P f = f p.before p.frames (λ e. none_before p.turned p t image is.other (turned_is ∙ e))
        (λ e. subst (λ b. AreIn h image (not b) p.before) segment_is (are_before p.turned p t image is.other (turned_is ∙ e)))
        (subst (λ b. AreIn h image b p.frames) segment_is is.current.are)

    pub base_is : (at body : ℕ) (b : Plain J) → at ≡ area_at (layout h) area → body ≡ (layout h).body → Some b ≡ read_area K h (take body (drop (at + 1) image)) → b ≡ p.base
    base_is at body b at_is body_is read = some_same b p.base (read ∙ ap₂ (λ a n. read_area K h (take n (drop (a + 1) image))) (at_is ∙ ap (area_at (layout h)) (sym area_is)) body_is ∙ is.area.body)

    behind_applied : applied K p.base (records_behind K p.base (p.before ++ p.frames)) ≡ Some t
    behind_applied =
        let lead = lead_before p.turned p t image is.other in
        frames_applied K L p.base t (p.before ++ p.frames) (replays_joined K L p.base p.middle t p.before p.frames lead is.state)

    -- the verdict where no way leads from the other checkpoint
    pub verdict_none : (unit : J → Option Unit) (found : Option Verdict) (base : Plain J) (behind : List (Recorded J)) → base ≡ p.base → behind ≡ records_behind K p.base (p.before ++ p.frames) → IsWayIf (format K) h p image None
        → MatchOption found ((x y : Plain J) → applied K base [] ≡ Some x → applied K base behind ≡ Some y → ⊥) (λ v. IsVerdict K unit (record { start = base; before = []; checkpoint = base; behind = behind }) v)
        → MatchOption found ⊥ (λ v. (way : Option (Plain J × List (List ℕ))) × IsWayIf (format K) h p image way × IsVerdict K unit (history K p way) v)
    verdict_none unit found base behind base_same behind_same way given =
        verdict_by found _ _ _ given
        (λ none. none base t refl (subst (λ b. applied K b behind ≡ Some t) (sym base_same) (subst (λ l. applied K p.base l ≡ Some t) (sym behind_same) behind_applied)))
        (λ v verdict. (
          None,
          way,
          subst (λ b. IsVerdict K unit (record { start = b; before = []; checkpoint = b; behind = records_behind K p.base (p.before ++ p.frames) }) v) base_same
              (subst (λ l. IsVerdict K unit (record { start = base; before = []; checkpoint = base; behind = l }) v) behind_same verdict),
        ))

    -- the verdict where a way does
    pub verdict_some : (unit : J → Option Unit) (found : Option Verdict) (start base : Plain J) (frames : List (List ℕ)) (before behind : List (Recorded J)) → base ≡ p.base → before ≡ records_behind K start frames
        → behind ≡ records_behind K p.base (p.before ++ p.frames) → IsWay (format K) h p image start frames
        → MatchOption found ((x y : Plain J) → applied K start before ≡ Some x → applied K base behind ≡ Some y → ⊥) (λ v. IsVerdict K unit (record { start = start; before = before; checkpoint = base; behind = behind }) v)
        → MatchOption found ⊥ (λ v. (way : Option (Plain J × List (List ℕ))) × IsWayIf (format K) h p image way × IsVerdict K unit (history K p way) v)
    verdict_some unit found start base frames before behind base_same before_same behind_same way given =
        verdict_by found _ _ _ given
        (λ none. none way.reached t (subst (λ l. applied K start l ≡ Some way.reached) (sym before_same) (frames_applied K L start way.reached frames way.leads))
        (subst (λ b. applied K b behind ≡ Some t) (sym base_same) (subst (λ l. applied K p.base l ≡ Some t) (sym behind_same) behind_applied)))
        (λ v verdict. (
          Some (start, frames),
          way,
          subst (λ b. IsVerdict K unit (record { start = start; before = records_behind K start frames; checkpoint = b; behind = records_behind K p.base (p.before ++ p.frames) }) v) base_same
              (subst (λ l. IsVerdict K unit (record { start = start; before = records_behind K start frames; checkpoint = base; behind = l }) v) behind_same
              (subst (λ l. IsVerdict K unit (record { start = start; before = l; checkpoint = base; behind = behind }) v) before_same verdict)),
        ))

    -- the verdict where this way was found, or none
    pub verdict_way : (unit : J → Option Unit) (found : Option Verdict) (base : Plain J) (behind : List (Recorded J)) (way : Option (Plain J × Vec (Vec ℕ Global) Global)) → base ≡ p.base → behind ≡ records_behind K p.base (p.before ++ p.frames) → IsWayIf (format K) h p image (way_of way)
        → MatchOption way (Answered K unit base [] base behind found) (λ w. Answered K unit w.0 (records_behind K w.0 (views w.1.items)) base behind found)
        → MatchOption found ⊥ (λ v. (way : Option (Plain J × List (List ℕ))) × IsWayIf (format K) h p image way × IsVerdict K unit (history K p way) v)
    verdict_way unit found base behind None base_same behind_same way given = verdict_none unit found base behind base_same behind_same way given
    verdict_way unit found base behind (Some w) base_same behind_same way given = verdict_some unit found w.0 base (views w.1.items) (records_behind K w.0 (views w.1.items)) behind base_same refl behind_same way given

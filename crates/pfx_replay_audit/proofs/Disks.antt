-- Logs' disks, one of which is read at a time.
use Rattle.std.proofs.Common.{◌≡◌, ◌<◌, ◌∙◌, ◌+◌, ℕ, suc, List, [], ◌∷◌, ◌++◌, length, map, take, get_or, refl, sym, ap, subst, inl, inr, arith, Option, Some, Result, Ok, Err}
use Rattle.std.specs.Prelude.{All, slice_get}
use Rattle.std.proofs.Math.ListN.{set}
use Rattle.std.proofs.Math.Seq.{take-suc}
use Rattle.std.proofs.lemmas.Bool.{cases_eq}
use Rattle.std.proofs.lemmas.List.{get_or_default, get_or-map, get_or-set_other, get_or-set_same, length-map}
use Rattle.std.proofs.lemmas.List.Elements.{All-get_or}
use Rattle.std.proofs.lemmas.Option.{slice_get-get_or}
use Rattle.pfx_disk.specs.Disk.{View, HasFailed, IsHonest}
use Rattle.pfx_jobs.specs.Kind.{Kind, Laws}
use Rattle.pfx_kinds.specs.declared.units.Unit.{Unit}
use Rattle.pfx_log.specs.Reading.{Keeps, Looks}
use Rattle.pfx_log.specs.declared.faults.LogFault.TheVariants.{Device}
use Rattle.pfx_log.specs.declared.place.LogPlace.{LogPlace}
use Rattle.pfx_log.proofs.Looks.{looks_then}
use Rattle.pfx_machine.specs.Plain.{Plain}
use Rattle.pfx_record.specs.Records.{Recorded}
use Rattle.pfx_replay.specs.declared.verdict.Difference.{Difference}
use Rattle.pfx_replay_audit.specs.Audits.{AreAgreed, IsFirstOf, LogsAnswer, ReadsEach}
use Rattle.pfx_replay_audit.specs.Logs.{FirstAnswer, NextAnswer}
use Rattle.pfx_replay_audit.specs.Reads.{Reads}
use Rattle.pfx_replay_audit.specs.Watches.{Told}
use Rattle.pfx_replay_audit.specs.declared.audit_fault.AuditFault.TheVariants.{Log as LogAt}
use Rattle.pfx_replay_audit.specs.declared.ends.LogEnd.{LogEnd}
use Rattle.pfx_replay_audit.specs.declared.ends.LogEnd.TheVariants.{Agrees, Differs}
use Rattle.pfx_replay_audit.specs.declared.faults.HistoryFault.{HistoryFault}
use Rattle.pfx_replay_audit.specs.declared.faults.HistoryFault.TheVariants.{Log as LogIs}
use Rattle.pfx_replay_audit.proofs.Chaining.{agreed_first, agreed_next, differs_first, differs_next, first_any, next_any, other_start}

-- one image more
pub one_more : (images : List (List ℕ)) (i : ℕ) (image : List ℕ) → i < length images → get_or images i [] ≡ image → take i images ++ image ∷ [] ≡ take (i + 1) images
one_more images i image within is =
    let next : suc i ≡ i + 1 = omega arith in
    ap (λ x. take i images ++ x ∷ []) (sym is) ∙ sym (take-suc images i [] within) ∙ ap (λ n. take n images) next

module _ {D : Type 0} (view : D → View) (start now : List D) (i : ℕ) (e v : D) (long : length now ≡ length start) (within : i < length now) (untouched : (d : D) → get_or now i d ≡ get_or start i d) (before : (k : ℕ) (d : D) → Looks (view (get_or start k d)) (view (get_or now k d))) where
  abbrev pub a : D
  a = get_or now i e

  at_now : (d : D) → get_or now i d ≡ a
  at_now d = get_or_default now i d e within

  at_start : (d : D) → get_or start i d ≡ a
  at_start d = sym (untouched d) ∙ at_now d

  below : i < length start
  below = omega (arith, long, within)

  pub kept_at : All (λ d. IsHonest (view d)) start → Keeps (view a).contents (view a)
  kept_at honest = record { honest = subst (λ z. IsHonest (view z)) (at_start a) (All-get_or (λ d. IsHonest (view d)) start i a below honest); contents = refl }

  abbrev pub images : List (List ℕ)
  images = map (λ d. (view d).contents) start

  below_images : i < length images
  below_images = omega (arith, below, length-map start (λ d. (view d).contents))

  image_at : get_or images i [] ≡ (view a).contents
  image_at = get_or-map (λ d. (view d).contents) start i a [] below ∙ ap (λ d. (view d).contents) (at_start a)

  pub image_is : slice_get images i ≡ Some (view a).contents
  image_is = slice_get-get_or images i [] below_images ∙ ap (λ x. Some x) image_at

  pub more_is : take i images ++ (view a).contents ∷ [] ≡ take (i + 1) images
  more_is = one_more images i (view a).contents below_images image_at

  pub looks_all : Looks (view a) (view v) → (k : ℕ) (d : D) → Looks (view (get_or start k d)) (view (get_or (set now i v) k d))
  looks_all looks k d = elim (cases_eq k i) [
    | inl same ↦
        (let there : get_or (set now i v) k d ≡ v = ap (λ j. get_or (set now i v) j d) same ∙ get_or-set_same now i v d within in
        let then : get_or now k d ≡ a = ap (λ j. get_or now j d) same ∙ at_now d in
        subst (λ z. Looks (view (get_or start k d)) (view z)) (sym there) (looks_then (view (get_or start k d)) (view a) (view v) (subst (λ z. Looks (view (get_or start k d)) (view z)) then (before k d)) looks))
    | inr other ↦ subst (λ z. Looks (view (get_or start k d)) (view z)) (sym (get_or-set_other now i k v d other)) (before k d)
  ]

  pub failed_at : (fault : HistoryFault) → (fault ≡ LogIs Device → HasFailed (view a) (view v)) → (k : ℕ) (d : D) → LogAt i fault ≡ LogAt k (LogIs Device) → HasFailed (view (get_or start k d)) (view (get_or (set now i v) k d))
  failed_at fault device k d is =
      let same : i ≡ k = cc in
      let what : fault ≡ LogIs Device = cc in
      let there = get_or-set_same now i v d within in
      subst (λ j. HasFailed (view (get_or start j d)) (view (get_or (set now i v) j d))) same
      (subst (λ z. HasFailed (view (get_or start i d)) (view z)) (sym there) (subst (λ z. HasFailed (view z) (view v)) (sym (at_start d)) (device what)))

  module _ {J : Type 0} (K : Kind J) (L : Laws K) (unit : J → Option Unit) (marks : List (Plain J)) where
    module _ (told : Plain J → List (Recorded J) → Type 0) (first : i ≡ 0) where
      first_is : slice_get images 0 ≡ Some (view a).contents
      first_is = ap (slice_get images) (sym first) ∙ image_is

      pub first_unread : (fault : HistoryFault) → Reads {T = LogEnd (Plain J)} (view a) (view v) (Err fault) (λ bytes. FirstAnswer K unit marks told bytes (Err fault)) → ReadsEach {T = LogEnd (Plain J)} view start (set now i v) (Err (LogAt i fault)) (λ all. LogsAnswer K unit marks all told (Err (LogAt i fault)))
      first_unread fault reads = record {
        looks = looks_all reads.looks;
        device = failed_at fault reads.device;
        exact = λ honest. inl (first, record { image = (view a).contents; image_is = first_is; answer = first_any K unit marks told (view a).contents fault (reads.exact (view a).contents (kept_at honest)) });
      }

      pub first_differs : (n : ℕ) (what : Difference) → Reads {T = LogEnd (Plain J)} (view a) (view v) (Ok (Differs n what)) (λ bytes. FirstAnswer K unit marks told bytes (Ok (Differs n what))) → ReadsEach {T = LogEnd (Plain J)} view start (set now i v) (Ok (Differs n what)) (λ all. LogsAnswer K unit marks all told (Ok (Differs n what)))
      first_differs n what reads = record {
        looks = looks_all reads.looks;
        device = tt;
        exact = λ honest. differs_first K L unit marks told images (view a).contents first_is n what (reads.exact (view a).contents (kept_at honest));
      }

      pub first_agrees : (t : Plain J) (end : LogPlace) → Reads {T = LogEnd (Plain J)} (view a) (view v) (Ok (Agrees t end)) (λ bytes. FirstAnswer K unit marks told bytes (Ok (Agrees t end))) → All (λ d. IsHonest (view d)) start → (agreed : AreAgreed K unit marks (take 1 images) t end) × told agreed.s agreed.read
      first_agrees t end reads honest =
          let one : take i images ++ (view a).contents ∷ [] ≡ take 1 images = more_is ∙ ap (λ n. take (n + 1) images) first in
          let none : take i images ≡ [] = ap (λ n. take n images) first in
          subst (λ all. (agreed : AreAgreed K unit marks all t end) × told agreed.s agreed.read) (ap (λ l. l ++ (view a).contents ∷ []) (sym none) ∙ one)
          (agreed_first K L unit marks told images (view a).contents first_is t end (reads.exact (view a).contents (kept_at honest)))

    module _ (from : Plain J) (place : LogPlace) {W : Type 0} (sees : W → Plain J → List (Recorded J) → W → Type 0) (old mid new : W) (come : All (λ d. IsHonest (view d)) start → (agreed : AreAgreed K unit marks (take i images) from place) × Told K sees old mid agreed.s agreed.read) where
      abbrev Answered : Result (LogEnd (Plain J)) HistoryFault → List ℕ → Type 0
      Answered result bytes = NextAnswer K unit marks (Told K sees mid new) from place.head bytes result

      pub next_unread : (fault : HistoryFault) → Reads {T = LogEnd (Plain J)} (view a) (view v) (Err fault) (Answered (Err fault)) → ReadsEach {T = LogEnd (Plain J)} view start (set now i v) (Err (LogAt i fault)) (λ all. LogsAnswer K unit marks all (Told K sees old new) (Err (LogAt i fault)))
      next_unread fault reads = record {
        looks = looks_all reads.looks;
        device = failed_at fault reads.device;
        exact = λ honest. inr (record { image = (view a).contents; image_is = image_is; from = from; place = place; before = (come honest).0; answer = next_any K unit marks (Told K sees mid new) from place.head (view a).contents fault (reads.exact (view a).contents (kept_at honest)) });
      }

      pub next_differs : (n : ℕ) (what : Difference) → Reads {T = LogEnd (Plain J)} (view a) (view v) (Ok (Differs n what)) (Answered (Ok (Differs n what))) → ReadsEach {T = LogEnd (Plain J)} view start (set now i v) (Ok (Differs n what)) (λ all. LogsAnswer K unit marks all (Told K sees old new) (Ok (Differs n what)))
      next_differs n what reads = record {
        looks = looks_all reads.looks;
        device = tt;
        exact = λ honest. elim (reads.exact (view a).contents (kept_at honest)) [
          | inl folded ↦ differs_next K L unit marks images i (view a).contents image_is from place (come honest).0 (Told K sees mid new) n what folded
          | inr other ↦ subst (λ w. IsFirstOf K unit marks images w n) (sym other.0) (other_start K L unit marks images i (view a).contents image_is from place (come honest).0 (Told K sees mid new) n other.1)
        ];
      }

      pub next_agrees : (t : Plain J) (end : LogPlace) → Reads {T = LogEnd (Plain J)} (view a) (view v) (Ok (Agrees t end)) (Answered (Ok (Agrees t end))) → All (λ d. IsHonest (view d)) start → (agreed : AreAgreed K unit marks (take (i + 1) images) t end) × Told K sees old new agreed.s agreed.read
      next_agrees t end reads honest =
          subst (λ all. (agreed : AreAgreed K unit marks all t end) × Told K sees old new agreed.s agreed.read) more_is
          (agreed_next K L unit marks images i (view a).contents image_is from place (come honest).0 sees old mid new (come honest).1 t end (reads.exact (view a).contents (kept_at honest)))

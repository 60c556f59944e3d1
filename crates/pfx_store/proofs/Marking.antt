-- Stores and their marks, after a call.
use Rattle.std.specs.Prelude.{◌≡◌, ◌≤◌, ◌+◌, ℕ, List, [], ◌∷◌, ◌++◌, length, take, if◌then◌else◌, Bool, true, false, Some, Result, Ok, Err, OnOk, IfOk, IsErrOf, refl}
use Rattle.std.proofs.Common.{sym, ◌∙◌, ap, arith, length-append, subst}
use Rattle.std.proofs.lemmas.Bool.{true≢false}
use Rattle.std.proofs.lemmas.List.{take_all, take-append-le}
use Rattle.pfx_disk.specs.Disk.{View, IsHonest}
use Rattle.pfx_store_format.specs.Format.{format}
use Rattle.pfx_store_format.specs.Frames.{state_after}
use Rattle.pfx_store_format.proofs.Keeping.{format_laws}
use Rattle.pfx_jobs.specs.Kind.{Kind, Laws}
use Rattle.pfx_machine.specs.Plain.{Plain}
use Rattle.pfx_store_image.specs.Store.{Replays}
use Rattle.pfx_store_image.specs.Recovery.{recovered}
use Rattle.pfx_store_image.proofs.Recovers.{recovers}
use Rattle.pfx_store_image.proofs.Runs.{replays_one}
use Rattle.pfx_store_file.specs.Calls.{Works}
use Rattle.pfx_store_file.specs.Checkpoints.{in_progress, is_begun}
use Rattle.pfx_store_file.specs.Holding.{KeepsAll, Survives}
use Rattle.pfx_store_file.specs.Tending.{pieces, steps_of}
use Rattle.pfx_store_file.specs.declared.faults.StoreFault.{StoreFault}
use Rattle.pfx_store_file.specs.declared.faults.StoreFault.TheVariants.{Device, Broken, NoRoom}
use Rattle.pfx_store_file.specs.declared.places.Places.{Places}
use Rattle.pfx_store_file.specs.declared.progress.Checkpoint.{Checkpoint}
use Rattle.pfx_store_file.specs.declared.progress.Checkpoint.TheVariants.{Ended, Pending, Writing}
use Rattle.pfx_store.specs.Marks.{AreKept, Covers, IsKept, marked}
use Rattle.pfx_store.specs.Standing.{Stands}
use Rattle.pfx_store.specs.declared.appending.Mark.{Mark}

pub by_broken : {C : Type 0} (b : Bool) → (b ≡ false → C) → (b ≡ true → C) → C
by_broken false whole broken = whole refl
by_broken true whole broken = broken refl

-- a call that succeeded was made on a store that wasn't broken
pub was_whole : {T : Type 0} (a b : View) (was is : Bool) (x : T) → Works a b was is (Ok x) → was ≡ false
was_whole a b false is x works = refl
was_whole a b true is x works = absurd (ok_no_err x Broken (works.broken.1 refl))
  where
    ok_no_err : {T E : Type 0} (x : T) (e : E) → Ok x ≡ Err e → ⊥
    ok_no_err x e is = cc

-- what a call on a store that isn't broken says of its success
pub on_ok_when : {T : Type 0} (P : Type 0) (a b : View) (was is : Bool) (result : Result T StoreFault) → Works a b was is result → (was ≡ false → OnOk result P) → OnOk result P
on_ok_when P a b was is (Ok x) works said = said (was_whole a b was is x works)
on_ok_when P a b was is (Err fault) works said = tt

-- a store that isn't broken after a call wasn't before it
pub whole_before : {T : Type 0} (a b : View) (was is : Bool) (result : Result T StoreFault) → Works a b was is result → (IsErrOf result Broken → is ≡ was) → is ≡ false → was ≡ false
whole_before a b false is result works still here = refl
whole_before a b true is result works still here = sym (still (works.broken.1 refl)) ∙ here

-- what held before a call, unless the store was broken, holds after it, unless the store is
pub holds_after : {T : Type 0} (a b : View) (was is : Bool) (before after : Type 0) (result : Result T StoreFault) → Works a b was is result → (IsErrOf result NoRoom → ⊥) → (IsErrOf result Broken → is ≡ was) → (IsHonest b → IsHonest a) →
    (before → OnOk result after) → (was ≡ false → IsHonest a → before) → is ≡ false → IsHonest b → after
holds_after a b was is before after (Ok x) works room still honest step stood whole here = step (stood (was_whole a b was is x works) (honest here))
holds_after a b was is before after (Err Device) works room still honest step stood whole here = absurd (true≢false (sym (works.breaks refl) ∙ whole))
holds_after a b was is before after (Err Broken) works room still honest step stood whole here = absurd (true≢false (sym (works.broken.0 refl) ∙ (sym (still refl) ∙ whole)))
holds_after a b was is before after (Err NoRoom) works room still honest step stood whole here = absurd (room refl)

module _ {J : Type 0} (K : Kind J) (start : Plain J) (all : List (List ℕ)) where
  -- a mark stays one, if there may be frames more
  kept_on : (more : List (List ℕ)) (mark : Mark) (a b : View) → length all ≤ length more → ((k : ℕ) → k ≤ length all → take k more ≡ take k all) → a.clock ≤ b.clock → KeepsAll (format K) start all more a b → IsKept K start all mark a → IsKept K start more mark b
  kept_on more mark a b longer same later keeps kept = record {
    count = kept.count;
    few = (let few = kept.few in omega (arith, few, longer));
    state = kept.state;
    leads = subst (λ (l : List (List ℕ)). Replays (format K) start l kept.state) (sym (same kept.count kept.few)) kept.leads;
    number = kept.number;
    past = (let past = kept.past in omega (arith, past, later));
    images = keeps mark.clock kept.count kept.past kept.images;
  }

  are_kept_on : (more : List (List ℕ)) (marks : List Mark) (a b : View) → length all ≤ length more → ((k : ℕ) → k ≤ length all → take k more ≡ take k all) → a.clock ≤ b.clock → KeepsAll (format K) start all more a b → AreKept K start all marks a → AreKept K start more marks b
  are_kept_on more [] a b longer same later keeps kept = tt
  are_kept_on more (mark ∷ marks) a b longer same later keeps kept = (kept_on more mark a b longer same later keeps kept.0, are_kept_on more marks a b longer same later keeps kept.1)

  -- after a call that appends nothing
  pub covers_on : (marks : List Mark) (a b : View) (was is : Bool) (s t : Plain J) → t ≡ s → (is ≡ false → was ≡ false) → a.clock ≤ b.clock → KeepsAll (format K) start all all a b → Covers K start all marks was s a → Covers K start all marks is t b
  covers_on marks a b was is s t same whole later keeps covers = record {
    leads = λ here. subst (λ (u : Plain J). Replays (format K) start all u) (sym same) (covers.leads (whole here));
    marks = are_kept_on all marks a b (omega arith) (λ k few. refl) later keeps covers.marks;
  }

  module _ (L : Laws K) (frame : List ℕ) (marks : List Mark) (a b : View) (was is : Bool) (s t : Plain J) (later : a.clock ≤ b.clock) (keeps : KeepsAll (format K) start all (all ++ frame ∷ []) a b) (covers : Covers K start all marks was s a) where
    still_kept : AreKept K start (all ++ frame ∷ []) marks b
    still_kept = are_kept_on (all ++ frame ∷ []) marks a b (omega (arith, length-append all (frame ∷ []))) (λ k few. take-append-le k all (frame ∷ []) few) later keeps covers.marks

    -- after an append, whatever it answers
    pub covers_appended : (result : Result Mark StoreFault) → Works a b was is result → (IsErrOf result NoRoom → ⊥) → (IsErrOf result Broken → is ≡ was) → OnOk result (state_after K s frame ≡ Some t) → IfOk result (λ mark. (mark.number ≡ t.number) × (mark.clock ≡ b.clock)) →
        (was ≡ false → OnOk result ((image : List ℕ) → b.since b.clock image → Survives (format K) start (all ++ frame ∷ []) (length all + 1) image)) → Covers K start (all ++ frame ∷ []) (marked result marks) is t b
    covers_appended (Ok mark) works room still led is_mark acknowledged =
        let whole = was_whole a b was is mark works in
        let run : Replays (format K) start (all ++ frame ∷ []) t = replays_one (format K) (format_laws K L) start all s frame t (covers.leads whole) led in
        let long = length-append all (frame ∷ []) in
        record {
          leads = λ _. run;
          marks = (
            record {
              count = length all + 1;
              few = omega (arith, long);
              state = t;
              leads = subst (λ (l : List (List ℕ)). Replays (format K) start l t) (sym (take_all (length all + 1) (all ++ frame ∷ []) (omega (arith, long)))) run;
              number = sym is_mark.0;
              past = omega (arith, is_mark.1);
              images = λ image here. acknowledged whole image (subst (λ (c : ℕ). b.since c image) is_mark.1 here);
            },
            still_kept,
          );
        }
    covers_appended (Err Device) works room still led is_mark acknowledged = record { leads = λ here. absurd (true≢false (sym (works.breaks refl) ∙ here)); marks = still_kept }
    covers_appended (Err Broken) works room still led is_mark acknowledged = record { leads = λ here. absurd (true≢false (sym (works.broken.0 refl) ∙ (sym (still refl) ∙ here))); marks = still_kept }
    covers_appended (Err NoRoom) works room still led is_mark acknowledged = absurd (room refl)

-- If a store stands each image of now is recovered to its state, and if the disk knows no other, each image since now.
module _ {J : Type 0} (K : Kind J) (L : Laws K) (places : Places) (s : Plain J) (spelled : List ℕ) (disk : View) (stands : Stands K places s spelled disk) where
  pub recovered_now : (image : List ℕ) → disk.now image → recovered (format K) image ≡ Ok s
  recovered_now image here = recovers (format K) (format_laws K L) stands.header image stands.parts s (stands.holds.images image here).store

  module _ (only_now : (image : List ℕ) → disk.since disk.clock image → disk.now image) where
    pub recovered_since : (image : List ℕ) → disk.since disk.clock image → recovered (format K) image ≡ Ok s
    recovered_since image here = recovered_now image (only_now image here)

    pub covers_begun : (broken : Bool) → Covers K s [] (record { number = s.number; clock = disk.clock } ∷ []) broken s disk
    covers_begun broken = record {
      leads = λ _. refl;
      marks = (
        record {
          count = 0;
          few = omega arith;
          state = s;
          leads = refl;
          number = refl;
          past = omega arith;
          images = λ image here. record { count = 0; at_least = omega arith; at_most = omega arith; state = s; replays = refl; recovered = recovered_since image here };
        },
        tt,
      );
    }

-- the steps that are left if none has been taken
pub left_by : (body : ℕ) (checkpoint : Checkpoint) (t : Bool) → is_begun checkpoint ≡ false → in_progress checkpoint ≡ t → steps_of body checkpoint ≡ (if t then 2 + pieces body else 0)
left_by body Ended t unbegun same = ap (λ (v : Bool). if v then 2 + pieces body else 0) same
left_by body Pending t unbegun same = ap (λ (v : Bool). if v then 2 + pieces body else 0) same
left_by body (Writing done) t unbegun same = absurd (true≢false unbegun)

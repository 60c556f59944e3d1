-- What a disk that told its calls says of the disk itself, at the beginning and at the end.
use Rattle.std.proofs.Common.{◌≡◌, ◌⊎◌, ◌+◌, ℕ, ◌≤◌, ◌<◌, ◌↔◌, List, [], length, Bool, true, false, Option, None, Some, Ok, refl, sym, ap, ◌∙◌, subst, arith}
use Rattle.std.specs.Prelude.{if◌then◌else◌}
use Rattle.std.proofs.lemmas.Bool.{false≢true}
use Rattle.std.proofs.lemmas.List.{length-map}
use Rattle.std.proofs.lemmas.Option.{none-some, same_Some}
use Rattle.pfx_book.specs.Register.{Register}
use Rattle.pfx_disk_chronicle.specs.Chart.{Noted, GoesAlong, acts_of, act_of, charted, charted_honest, last_only, noted_view}
use Rattle.pfx_disk_chronicle.specs.declared.made.Made.{Made}
use Rattle.pfx_disk.specs.Disk.{View, IsHonest, IsSpent}
use Rattle.pfx_fault.specs.declared.fields.Cause.{Cause}
use Rattle.pfx_fault.specs.declared.fields.Cause.TheVariants.{Device, Log}
use Rattle.pfx_store_format.specs.Format.{format}
use Rattle.pfx_jobs.specs.Kind.{Kind}
use Rattle.pfx_machine.specs.Plain.{Plain}
use Rattle.pfx_machine.specs.declared.command.Command.{Command}
use Rattle.pfx_store_image.specs.Recovery.{recovered}
use Rattle.pfx_store.specs.Keepers.{failure_of}
use Rattle.pfx_store.specs.Stores.{PlainStore}
use Rattle.pfx_store_file.specs.declared.places.Places.{Places}
use Rattle.pfx_front.specs.Closing.{Acknowledged, IsStored, IsHeld}
use Rattle.pfx_front.specs.Starting.{Begins, IsFresh}

-- the store on a disk that tells its calls, of which none was made yet
abbrev pub noted_store : {D J : Type 0} → PlainStore D J → PlainStore (Noted D) J
noted_store store = record {
  file = record {
    disk = record { disk = store.file.disk; made = []; late = 0; failed = false };
    places = store.file.places;
    broken = false;
  };
  state = store.state;
  spelled = store.spelled;
}

module _ (held : Type 0) (image : List ℕ) (first before : ℕ) where
  -- that a store on such a disk is recovered to its state
  abbrev IsThere : {D J : Type 0} → Kind J → PlainStore (Noted D) J → Type 0
  IsThere K n = n.file.broken ≡ false → IsHonest (noted_view held image first before n.file.disk) → (i : List ℕ)
      → (noted_view held image first before n.file.disk).now i → recovered (format K) i ≡ Ok n.state

  pub noted_fresh : {D J : Type 0} (K : Kind J) (start : Plain J) (store : PlainStore D J) (disk : View) (n : PlainStore (Noted D) J)
      → Begins K start before first held image store disk → n ≡ noted_store store → IsThere K n
      → IsFresh K start before first n.file.broken n.state (noted_view held image first before n.file.disk)
  noted_fresh K start store disk n begins same =
      subst (λ n. IsThere K n → IsFresh K start before first n.file.broken n.state (noted_view held image first before n.file.disk)) (sym same)
      (λ there.
      let at : first + 0 ≡ first = omega arith in record {
        whole = refl;
        state = begins.state;
        failures = refl;
        clock = at;
        images = λ honest i since. there refl honest i (last_only held image first before [] 0 false i since);
      })

  -- the disk itself leaves nothing that its calls don't tell
  module _ (made : List Made) (late : ℕ) (failed : Bool) (disk : View) (along : GoesAlong held image first before made late failed disk) where
    abbrev chart : View
    chart = charted held image first before made late failed

    same_clock : disk.clock ≡ chart.clock
    same_clock =
        let at = along.clock in
        let long = length-map made act_of in
        let same : disk.clock ≡ first + (length (acts_of made) + late) = omega (arith, at, long) in
        same

    acknowledged : {J : Type 0} (K : Kind J) (start : Plain J) (H : List (Command J)) (n c : ℕ) → IsHonest disk
        → Acknowledged K start H chart n c → Acknowledged K start H disk n c
    acknowledged K start H n c honest h =
        let follows = along.follows honest in
        let past : c ≤ disk.clock = subst (λ n. c ≤ n) (sym same_clock) h.past in
        record { past = past; images = λ i is. h.images i (follows.premise, λ low. follows.since c i low past is) }

    pub told_held : {J : Type 0} (K : Kind J) (start : Plain J) (began : ℕ) (r : Register J) → (IsHonest chart → IsHeld K start began r chart)
        → IsHonest disk → IsHeld K start began r disk
    told_held K start began r all honest =
        let h = all (charted_honest held image first before made late failed (along.follows honest).premise) in
        record {
          all = acknowledged K start r.session.accepted start.number began honest h.all;
          receipts = λ k n c noted. acknowledged K start r.session.accepted n c honest (h.receipts k n c noted);
        }

-- a device that is said to have failed has
pub told_stored : {J : Type 0} (K : Kind J) (start : Plain J) (failures : ℕ) (r : Register J) (s : Plain J) (chart disk : View)
    → IsStored K start failures r s chart → (r.failure ≡ Some Device → (failures < disk.failures) ⊎ IsSpent disk) → IsStored K start failures r s disk
told_stored K start failures r s _ disk h device = record {
  durable = h.durable;
  some = h.some;
  state = h.state;
  mark = h.mark;
  settled = h.settled;
  device = device;
}

abbrev is_log : Cause → Bool
is_log Log = true
is_log other = false

device_or_none : (broken : Bool) → (if broken then Some Device else None) ≡ Some Log → ⊥
device_or_none true is = false≢true (ap is_log (same_Some Device Log is))
device_or_none false is = none-some Log is

-- a store by itself has no log that fails
pub no_log : {D J : Type 0} (store : PlainStore D J) → failure_of store ≡ Some Log → ⊥
no_log store is = device_or_none store.file.broken is

module _ {D J : Type 0} where
  abbrev made_of : D → Places → Bool → Plain J → List ℕ → PlainStore D J
  made_of disk places broken state spelled = record { file = record { disk = disk; places = places; broken = broken }; state = state; spelled = spelled }

  -- a store that is told at once is the one that was noted
  pub told_back : (store told : PlainStore D J) (n : PlainStore (Noted D) J) → store.file.broken ≡ false → n ≡ noted_store store
      → told.file.disk ≡ n.file.disk.disk → ((told.file.broken ≡ false) ↔ ((n.file.broken ≡ false) × (n.file.disk.failed ≡ false)))
      → told.file.places ≡ n.file.places → (told.state ≡ n.state) × (told.spelled ≡ n.spelled) → told ≡ store
  told_back store told n whole same disk broken places rest =
      let d : told.file.disk ≡ store.file.disk = disk ∙ ap (λ (n : PlainStore (Noted D) J). n.file.disk.disk) same in
      let p : told.file.places ≡ store.file.places = places ∙ ap (λ (n : PlainStore (Noted D) J). n.file.places) same in
      let b : told.file.broken ≡ store.file.broken =
      broken.1 (ap (λ (n : PlainStore (Noted D) J). n.file.broken) same, ap (λ (n : PlainStore (Noted D) J). n.file.disk.failed) same) ∙ sym whole in
      let s : told.state ≡ store.state = rest.0 ∙ ap (λ (n : PlainStore (Noted D) J). n.state) same in
      let sp : told.spelled ≡ store.spelled = rest.1 ∙ ap (λ (n : PlainStore (Noted D) J). n.spelled) same in
      ap (λ x. made_of x told.file.places told.file.broken told.state told.spelled) d
      ∙ ap (λ x. made_of store.file.disk x told.file.broken told.state told.spelled) p
      ∙ ap (λ x. made_of store.file.disk store.file.places x told.state told.spelled) b
      ∙ ap (λ x. made_of store.file.disk store.file.places store.file.broken x told.spelled) s
      ∙ ap (λ x. made_of store.file.disk store.file.places store.file.broken store.state x) sp

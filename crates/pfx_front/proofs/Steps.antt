-- The flusher's steps: its notes one longer, and its store a call on.
use Rattle.std.specs.Prelude.{Result, Err, IfErr, if◌then◌else◌, IsTrue, Option}
use Rattle.std.specs.Global.{Vec}
use Rattle.std.proofs.Common.{◌≡◌, ◌⊎◌, ℕ, ◌+◌, ◌<◌, ◌≤◌, List, [], ◌∷◌, ◌++◌, length, map, Some, None, Bool, true, false, refl, sym, ap, ◌∙◌, subst, arith, append_assoc, append-nil, length-append, inl, inr}
use Rattle.std.proofs.lemmas.Bool.{false≢true, ltb-true, leb-true}
use Rattle.std.proofs.lemmas.List.{length-map, append_cancel_right}
use Rattle.std.proofs.lemmas.Option.{none-some, same_Some}
use Rattle.pfx_disk.specs.Disk.{View, IsHonest, HasFailed}
use Rattle.pfx_record_redo.specs.Applying.{applied, is_right, after_record}
use Rattle.pfx_record_redo.proofs.States.{applied_behind}
use Rattle.pfx_fault.specs.declared.fields.Cause.{Cause}
use Rattle.pfx_fault.specs.declared.fields.Cause.TheVariants.{Device, Memory, Log}
use Rattle.pfx_jobs.specs.Kind.{Kind}
use Rattle.pfx_machine.specs.Plain.{Plain}
use Rattle.pfx_record.specs.Batches.{batch_bytes, batch_of, batch_fits, counts_fit, all_fit}
use Rattle.pfx_record.specs.Records.{form_of, plain, Recorded}
use Rattle.pfx_record.specs.declared.batch.Batch.{Batch}
use Rattle.pfx_record.specs.declared.record.Record.{Record}
use Rattle.pfx_record.proofs.Rising.{both}
use Rattle.pfx_store.specs.Keepers.{IsKeeping}
use Rattle.pfx_store.specs.Marks.{AreKept, Covers}
use Rattle.pfx_store.specs.Stores.{PlainStore}
use Rattle.pfx_store.specs.declared.appending.Mark.{Mark}
use Rattle.pfx_book.specs.declared.note.Note.{Note}
use Rattle.pfx_book.specs.declared.note.Note.TheVariants.{Took, Marked, Failed}
use Rattle.pfx_book.specs.Batching.{MayShare}
use Rattle.pfx_book.specs.Notes.{IsRested, Noted, records_in, taken_in}
use Rattle.pfx_book.proofs.Batches.{fits_share}
use Rattle.pfx_book.proofs.Notes.{noted_more, records_more, rested_marked}
use Rattle.pfx_front_board.specs.Word.{records_of}
use Rattle.pfx_front_board.proofs.Words.{records_more as records_published}
use Rattle.pfx_front.specs.Showing.{AreShown, IsShown, IsShownBefore}
use Rattle.pfx_front.specs.Keeping.{frame_in, frames_of, mark_in, marks_of, IsNext, AreCounted, InStep, Behind}
use Rattle.pfx_front.specs.Working.{IsTaken}
use Rattle.pfx_front.specs.Starting.{IsFresh}

-- what a call that missed says of its cause, where nothing had failed
pub missed_by : {D J T : Type 0} (view : D → View) (old new : PlainStore D J) (was is : Option Cause) (result : Result T Cause) (calls : ℕ) (cause : Cause)
    → IsKeeping view old new was is result calls → result ≡ Err cause → was ≡ None → old.file.broken ≡ false
    → (cause ≡ Device → HasFailed (view old.file.disk) (view new.file.disk)) × (cause ≡ Memory → new.file.broken ≡ false)
    × (cause ≡ Log → (is ≡ Some Log) × (new.file.broken ≡ false))
missed_by view old new was is result calls cause h missed none whole = (
  λ same. h.device none (missed ∙ ap Err same),
  λ same. absurd (h.no_memory (missed ∙ ap Err same)),
  λ same. (
    subst (λ r. IfErr r (λ cause. is ≡ Some cause)) (missed ∙ ap Err same) h.fails,
    ap (λ (s : PlainStore _ _). s.file.broken) (h.log (missed ∙ ap Err same)) ∙ whole,
  ),
)

split_if : {A : Type 0} (b : Bool) (o : Option A) (u : A) → (if b then o else None) ≡ Some u → (b ≡ true) × (o ≡ Some u)
split_if true o u e = (refl, e)
split_if false o u e = absurd (none-some u e)

module _ {J : Type 0} where
  -- frames, marks, notes and records of a list that is one longer
  frames_more : (K : Kind J) (xs : List (Note J)) (x : Note J) → frames_of K (xs ++ x ∷ []) ≡ frames_of K xs ++ frame_in K x
  frames_more K [] x = append-nil (frame_in K x)
  frames_more K (y ∷ ys) x = ap (λ l. frame_in K y ++ l) (frames_more K ys x) ∙ sym (append_assoc (frame_in K y) (frames_of K ys) (frame_in K x))

  marks_more : (xs : List (Note J)) (x : Note J) → marks_of (xs ++ x ∷ []) ≡ mark_in x ++ marks_of xs
  marks_more [] x = sym (append-nil (mark_in x))
  marks_more (y ∷ ys) x = ap (λ l. l ++ mark_in y) (marks_more ys x) ∙ append_assoc (mark_in x) (marks_of ys) (mark_in y)

  pub noted_split : (x : Note J) (xs : List (Note J)) (y : Note J) → Noted x (xs ++ y ∷ []) → Noted x xs ⊎ (y ≡ x)
  noted_split x [] y (inl same) = inr same
  noted_split x [] y (inr h) = absurd h
  noted_split x (z ∷ zs) y (inl same) = inl (inl same)
  noted_split x (z ∷ zs) y (inr h) = elim (noted_split x zs y h) [ inl l ↦ inl (inr l) | inr r ↦ inr r ]

  -- what kind of note it is
  abbrev is_failed : Note J → Bool
  is_failed (Failed cause) = true
  is_failed other = false

  abbrev is_mark : Note J → Bool
  is_mark (Marked n c) = true
  is_mark other = false

  abbrev number_of : Note J → ℕ
  number_of (Marked n c) = n
  number_of other = 0

  took_failed : (first : ℕ) (records : Vec (Record J)) (cause : Cause) → ◌≡◌ {A = Note J} (Took first records) (Failed cause) → ⊥
  took_failed first records cause e = false≢true (ap is_failed e)

  took_marked : (first : ℕ) (records : Vec (Record J)) (n c : ℕ) → ◌≡◌ {A = Note J} (Took first records) (Marked n c) → ⊥
  took_marked first records n c e = false≢true (ap is_mark e)

  marked_failed : (n d : ℕ) (cause : Cause) → ◌≡◌ {A = Note J} (Marked n d) (Failed cause) → ⊥
  marked_failed n d cause e = false≢true (ap is_failed e)

  -- whether it says that the device failed
  abbrev is_device : Note J → Bool
  is_device (Failed Device) = true
  is_device other = false

  memory_device : ◌≡◌ {A = Note J} (Failed Memory) (Failed Device) → ⊥
  memory_device e = false≢true (ap is_device e)

  -- whether it says that the log failed
  abbrev is_log : Note J → Bool
  is_log (Failed Log) = true
  is_log other = false

  memory_log : ◌≡◌ {A = Note J} (Failed Memory) (Failed Log) → ⊥
  memory_log e = false≢true (ap is_log e)

  failed_marked : (cause : Cause) (n d : ℕ) → ◌≡◌ {A = Note J} (Failed cause) (Marked n d) → ⊥
  failed_marked cause n d e = false≢true (ap is_mark e)

  -- the cause that a note tells
  abbrev cause_of : Note J → Cause
  cause_of (Failed cause) = cause
  cause_of other = Memory

  same_cause : (one two : Cause) → ◌≡◌ {A = Note J} (Failed one) (Failed two) → one ≡ two
  same_cause one two e = ap cause_of e

  records_last : (xs : List (Note J)) (x : Note J) → records_in (xs ++ x ∷ []) ≡ records_in xs ++ taken_in x
  records_last xs x = records_more xs (x ∷ []) ∙ ap (λ l. records_in xs ++ l) (append-nil (taken_in x))

  -- a note that takes nothing leaves the records
  pub records_still : (notes after : List (Note J)) (x : Note J) → after ≡ notes ++ x ∷ [] → taken_in x ≡ [] → records_in after ≡ records_in notes
  records_still notes after x more none = ap records_in more ∙ records_last notes x ∙ ap (λ l. records_in notes ++ l) none ∙ append-nil (records_in notes)

  -- what was published before a batch was taken
  pub took_shown : (notes after : List (Note J)) (batches : List (Batch J)) (batch : Batch J) → after ≡ notes ++ Took batch.first batch.records ∷ [] → AreShown notes batches → IsShownBefore after batches batch
  took_shown notes after batches batch more shown =
      ap (λ l. l ++ map plain batch.records.items) shown ∙ sym (ap records_in more ∙ records_last notes (Took batch.first batch.records))

  counted_more : (n : ℕ) (xs : List (Note J)) (x : Note J) → AreCounted n xs → IsNext (n + length (records_in xs)) x → AreCounted n (xs ++ x ∷ [])
  counted_more n [] x h next = (subst (λ k. IsNext k x) (omega arith) next, tt)
  counted_more n (y ∷ ys) x h next = (
    h.0,
    counted_more (n + length (taken_in y)) ys x h.1 (subst (λ k. IsNext k x) (let long = length-append (taken_in y) (records_in ys) in omega (arith, long)) next),
  )

  pub batch_small : (workers real first : ℕ) (records : List (Record J)) → IsTrue (batch_fits workers real (batch_of first records)) → (0 < length records) × (length records ≤ 16) × MayShare (map plain records)
  batch_small workers real first records fits =
      let counts = (both (counts_fit workers first (length (map plain records))) (all_fit (form_of workers real (length (map plain records))) (map plain records)) fits).0 in
      let second = (both _ _ (both _ _ counts).1).0 in
      let some = ltb-true 0 (length (map plain records)) (both _ _ second).0 in
      let few = leb-true (length (map plain records)) 16 (both _ _ second).1 in
      let long = length-map records plain in
      (omega (arith, some, long), omega (arith, few, long), fits_share workers real first (map plain records) fits)

  applied_then : (K : Kind J) (s : Plain J) (xs ys : List (Recorded J)) (t u : Plain J) → applied K s xs ≡ Some t → applied K t ys ≡ Some u → applied K s (xs ++ ys) ≡ Some u
  applied_then K s [] ys t u h k = subst (λ r. applied K r ys ≡ Some u) (sym (same_Some s t h)) k
  applied_then K s (x ∷ xs) ys t u h k =
      let f = split_if (is_right K s x) (applied K (after_record s x) xs) t h in
      ap (λ q. if q then applied K (after_record s x) (xs ++ ys) else None) f.0 ∙ applied_then K (after_record s x) xs ys t u f.1 k

  -- what is published of a store in step is what it has
  pub step_shown : (K : Kind J) (start : Plain J) (notes : List (Note J)) (batches : List (Batch J)) (s : Plain J)
      → AreShown notes batches → applied K start (records_in notes) ≡ Some s → IsShown K start notes batches s
  step_shown K start notes batches s shown leads = record {
    rest = [];
    begins = append-nil (records_of batches) ∙ shown;
    leads = ap (applied K start) shown ∙ leads;
  }

  -- a store in step has what its marks promise
  pub step_behind : (K : Kind J) (start : Plain J) (failures clock : ℕ) (notes : List (Note J)) (failed : Option Cause) (broken : Bool) (s : Plain J) (disk : View)
      → InStep K start failures clock notes broken s disk → Behind K start failures clock notes failed broken s disk
  step_behind K start failures clock notes failed broken s disk h = record {
    at = notes;
    rest = [];
    begins = append-nil notes;
    state = h.state;
    counted = h.counted;
    low = h.low;
    began = h.began;
    device = λ noted. absurd (h.unfailed Device noted);
    memory = λ noted. absurd (h.unfailed Memory noted);
    log = λ noted. absurd (h.unfailed Log noted);
    kept = λ honest. (h.covers honest).marks;
  }

  -- the keeper failed, which is noted
  pub failed_behind : (K : Kind J) (start : Plain J) (failures clock : ℕ) (notes after : List (Note J)) (cause : Cause) (failed : Option Cause) (broken is : Bool) (s t : Plain J)
      (disk new : View) → InStep K start failures clock notes broken s disk → after ≡ notes ++ Failed cause ∷ [] → t ≡ s
      → (cause ≡ Device → HasFailed disk new) × (cause ≡ Memory → is ≡ false) × (cause ≡ Log → (failed ≡ Some Log) × (is ≡ false))
      → (IsHonest new → AreKept K start (frames_of K notes) (marks_of notes) new) → Behind K start failures clock after failed is t new
  failed_behind K start failures clock notes after cause failed broken is s t disk new h noted same causes kept = record {
    at = notes;
    rest = Failed cause ∷ [];
    begins = sym noted;
    state = h.state ∙ ap Some (sym same);
    counted = subst (AreCounted start.number) (sym noted) (counted_more start.number notes (Failed cause) h.counted tt);
    low = λ n c is. elim (noted_split (Marked n c) notes (Failed cause) (subst (Noted (Marked n c)) noted is)) [
      | inl before ↦ subst (λ (r : Plain J). n ≤ r.number) (sym same) (h.low n c before)
      | inr last ↦ absurd (failed_marked cause n c last)
    ];
    began = subst (Noted (Marked start.number clock)) (sym noted) (noted_more (Marked start.number clock) notes (Failed cause ∷ []) h.began);
    device = λ is. elim (noted_split (Failed Device) notes (Failed cause) (subst (Noted (Failed Device)) noted is)) [
      | inl before ↦ absurd (h.unfailed Device before)
      | inr last ↦ elim (causes.0 (same_cause cause Device last)) [ inl more ↦ inl (let since = h.since in omega (arith, since, more)) | inr spent ↦ inr spent ]
    ];
    memory = λ is_noted. elim (noted_split (Failed Memory) notes (Failed cause) (subst (Noted (Failed Memory)) noted is_noted)) [
      | inl before ↦ absurd (h.unfailed Memory before)
      | inr last ↦ causes.1 (same_cause cause Memory last)
    ];
    log = λ is_noted. elim (noted_split (Failed Log) notes (Failed cause) (subst (Noted (Failed Log)) noted is_noted)) [
      | inl before ↦ absurd (h.unfailed Log before)
      | inr last ↦ causes.2 (same_cause cause Log last)
    ];
    kept = λ honest.
        let frames : frames_of K after ≡ frames_of K notes = ap (frames_of K) noted ∙ frames_more K notes (Failed cause) ∙ append-nil (frames_of K notes) in
        let marks : marks_of after ≡ marks_of notes = ap marks_of noted ∙ marks_more notes (Failed cause) in
        subst (λ l. AreKept K start l (marks_of after) new) (sym frames) (subst (λ l. AreKept K start (frames_of K notes) l new) (sym marks) (kept honest));
  }

  -- a step of a checkpoint, which notes nothing
  pub step_tended : (K : Kind J) (start : Plain J) (failures clock : ℕ) (notes : List (Note J)) (broken is : Bool) (s t : Plain J) (disk new : View)
      → InStep K start failures clock notes broken s disk → t ≡ s → is ≡ false → disk.failures ≤ new.failures → (IsHonest new → IsHonest disk)
      → (IsHonest disk → (start : Plain J) (all : List (List ℕ)) (marks : List Mark) → Covers K start all marks broken s disk → Covers K start all marks is t new)
      → InStep K start failures clock notes is t new
  step_tended K start failures clock notes broken is s t disk new h same whole fewer honest covers = record {
    state = h.state ∙ ap Some (sym same);
    counted = h.counted;
    whole = whole;
    low = λ n c noted. subst (λ (r : Plain J). n ≤ r.number) (sym same) (h.low n c noted);
    rested = h.rested;
    unfailed = h.unfailed;
    began = h.began;
    since = (let since = h.since in omega (arith, since, fewer));
    covers = λ now. covers (honest now) start (frames_of K notes) (marks_of notes) (h.covers (honest now));
  }

  -- a batch was taken
  module _ (K : Kind J) (start : Plain J) (failures clock : ℕ) (notes : List (Note J)) (batch : Batch J) (broken is : Bool) (s t : Plain J) (disk new : View)
      (h : IsTaken K start failures clock notes batch broken s disk) (small : (0 < length batch.records.items) × (length batch.records.items ≤ 16) × MayShare (map plain batch.records.items)) where
    abbrev Last : Note J
    Last = Took batch.first batch.records

    records_are : records_in notes ≡ records_in h.before ++ map plain batch.records.items
    records_are = ap records_in h.noted ∙ records_last h.before Last

    number_before : s.number ≡ start.number + length (records_in h.before)
    number_before = (applied_behind K start s (records_in h.before) h.step.state).number

    counted_here : AreCounted start.number notes
    counted_here =
        let next = (h.goes s h.step.state).2 in
        subst (AreCounted start.number) (sym h.noted) (counted_more start.number h.before Last h.step.counted (omega (arith, next, number_before), small.0, small.1, small.2))

    began_here : Noted (Marked start.number clock) notes
    began_here = subst (Noted (Marked start.number clock)) (sym h.noted) (noted_more (Marked start.number clock) h.before (Last ∷ []) h.step.began)

    low_here : (n c : ℕ) → Noted (Marked n c) notes → n ≤ s.number
    low_here n c noted = elim (noted_split (Marked n c) h.before Last (subst (Noted (Marked n c)) h.noted noted)) [
      | inl before ↦ h.step.low n c before
      | inr last ↦ absurd (took_marked batch.first batch.records n c last)
    ]

    pub unfailed_here : (cause : Cause) → Noted (Failed cause) notes → ⊥
    unfailed_here cause noted = elim (noted_split (Failed cause) h.before Last (subst (Noted (Failed cause)) h.noted noted)) [
      | inl before ↦ h.step.unfailed cause before
      | inr last ↦ took_failed batch.first batch.records cause last
    ]

    frames_here : frames_of K notes ≡ frames_of K h.before ++ batch_bytes K (batch_of batch.first batch.records.items) ∷ []
    frames_here = ap (frames_of K) h.noted ∙ frames_more K h.before Last

    marks_here : marks_of notes ≡ marks_of h.before
    marks_here = ap marks_of h.noted ∙ marks_more h.before Last

    -- the batch's records lead on
    taken_leads : applied K s (map plain batch.records.items) ≡ Some t → applied K start (records_in notes) ≡ Some t
    taken_leads leads = ap (applied K start) records_are ∙ applied_then K start (records_in h.before) (map plain batch.records.items) s t h.step.state leads

    -- what is published with the batch has all that was taken
    pub published : (batches : List (Batch J)) → IsShownBefore notes batches batch → AreShown notes (batches ++ batch ∷ [])
    published batches shown = records_published batches batch ∙ shown

    pub published_leads : (batches : List (Batch J)) → IsShownBefore notes batches batch → applied K s (map plain batch.records.items) ≡ Some t → applied K start (records_of (batches ++ batch ∷ [])) ≡ Some t
    published_leads batches shown leads = ap (applied K start) (published batches shown) ∙ taken_leads leads

    pub marked_shown : (after : List (Note J)) (batches : List (Batch J)) (n c : ℕ) → after ≡ notes ++ Marked n c ∷ [] → IsShownBefore notes batches batch → AreShown after (batches ++ batch ∷ [])
    marked_shown after batches n c more shown = published batches shown ∙ sym (records_still notes after (Marked n c) more refl)

    -- an allocation failed for the board, so the batch is published but not shown
    pub memory_shown : (after : List (Note J)) (batches : List (Batch J)) → after ≡ notes ++ Failed Memory ∷ [] → IsShownBefore notes batches batch → applied K s (map plain batch.records.items) ≡ Some t
        → IsShown K start after (batches ++ batch ∷ []) t
    memory_shown after batches more shown leads = record {
      rest = [];
      begins = append-nil (records_of (batches ++ batch ∷ [])) ∙ published batches shown ∙ sym (records_still notes after (Failed Memory) more refl);
      leads = published_leads batches shown leads;
    }

    -- the batch isn't appended, so it isn't published
    pub missed_shown : (after : List (Note J)) (cause : Cause) (batches : List (Batch J)) → after ≡ notes ++ Failed cause ∷ [] → IsShownBefore notes batches batch → t ≡ s → IsShown K start after batches t
    missed_shown after cause batches more shown same =
        let last = map plain batch.records.items in
        let before : records_of batches ≡ records_in h.before = append_cancel_right (records_of batches) (records_in h.before) last (shown ∙ records_are) in
        record {
          rest = last;
          begins = shown ∙ sym (records_still notes after (Failed cause) more refl);
          leads = ap (applied K start) before ∙ h.step.state ∙ ap Some (sym same);
        }

    -- the number that is marked
    pub mark_number : (n : ℕ) → applied K s (map plain batch.records.items) ≡ Some t → n ≡ t.number → n ≡ start.number + length (records_in notes)
    mark_number n leads same =
        let behind = applied_behind K s t (map plain batch.records.items) leads in
        let more = behind.number in
        let all = ap length records_are ∙ length-append (records_in h.before) (map plain batch.records.items) in
        omega (arith, same, more, all, number_before)

    -- the batch is appended and marked
    pub step_marked : (after : List (Note J)) (mark : Mark) → after ≡ notes ++ Marked mark.number mark.clock ∷ [] → is ≡ false → applied K s (map plain batch.records.items) ≡ Some t → mark.number ≡ t.number
        → disk.failures ≤ new.failures → (IsHonest new → IsHonest disk)
        → (IsHonest disk → (start : Plain J) (all : List (List ℕ)) (marks : List Mark) → Covers K start all marks broken s disk
        → Covers K start (all ++ batch_bytes K (batch_of batch.first batch.records.items) ∷ []) (mark ∷ marks) is t new)
        → InStep K start failures clock after is t new
    step_marked after mark done now leads is_number fewer honest appends =
        let behind = applied_behind K s t (map plain batch.records.items) leads in
        let e : Note J = Marked mark.number mark.clock in
        record {
          state = ap (applied K start) (ap records_in done ∙ records_last notes e ∙ append-nil (records_in notes) ∙ records_are) ∙ applied_then K start (records_in h.before) (map plain batch.records.items) s t h.step.state leads;
          counted = subst (AreCounted start.number) (sym done) (counted_more start.number notes e counted_here tt);
          whole = now;
          low = λ n c noted. elim (noted_split (Marked n c) notes e (subst (Noted (Marked n c)) done noted)) [
            | inl before ↦ (let low = low_here n c before in let more = behind.number in omega (arith, low, more))
            | inr last ↦ (let same = ap number_of last in omega (arith, same, is_number))
          ];
          rested = subst (IsRested start.number) (sym done) (rested_marked start.number notes mark.number mark.clock (mark_number mark.number leads is_number));
          unfailed = λ cause noted. elim (noted_split (Failed cause) notes e (subst (Noted (Failed cause)) done noted)) [
            | inl before ↦ unfailed_here cause before
            | inr last ↦ marked_failed mark.number mark.clock cause last
          ];
          began = subst (Noted (Marked start.number clock)) (sym done) (noted_more (Marked start.number clock) notes (e ∷ []) began_here);
          since = (let since = h.step.since in omega (arith, since, fewer));
          covers = λ here.
              let frames : frames_of K after ≡ frames_of K h.before ++ batch_bytes K (batch_of batch.first batch.records.items) ∷ [] =
              ap (frames_of K) done ∙ frames_more K notes e ∙ append-nil (frames_of K notes) ∙ frames_here in
              let marks : marks_of after ≡ mark ∷ marks_of h.before = ap marks_of done ∙ marks_more notes e ∙ ap (λ l. mark ∷ l) marks_here in
              subst (λ l. Covers K start l (marks_of after) is t new) (sym frames)
              (subst (λ l. Covers K start (frames_of K h.before ++ batch_bytes K (batch_of batch.first batch.records.items) ∷ []) l is t new) (sym marks)
              (appends (honest here) start (frames_of K h.before) (marks_of h.before) (h.step.covers (honest here))));
        }

    -- the batch is appended, and memory is refused for the board
    pub memory_behind : (after : List (Note J)) (failed : Option Cause) (mark : Mark) → is ≡ false → after ≡ notes ++ Failed Memory ∷ [] → applied K s (map plain batch.records.items) ≡ Some t → (IsHonest new → IsHonest disk)
        → (IsHonest disk → (start : Plain J) (all : List (List ℕ)) (marks : List Mark) → Covers K start all marks broken s disk
        → Covers K start (all ++ batch_bytes K (batch_of batch.first batch.records.items) ∷ []) (mark ∷ marks) is t new)
        → Behind K start failures clock after failed is t new
    memory_behind after failed mark whole lost leads honest appends =
        let behind = applied_behind K s t (map plain batch.records.items) leads in
        record {
          at = notes;
          rest = Failed Memory ∷ [];
          begins = sym lost;
          state = taken_leads leads;
          counted = subst (AreCounted start.number) (sym lost) (counted_more start.number notes (Failed Memory) counted_here tt);
          low = λ n c is_noted. elim (noted_split (Marked n c) notes (Failed Memory) (subst (Noted (Marked n c)) lost is_noted)) [
            | inl before ↦ (let low = low_here n c before in let more = behind.number in omega (arith, low, more))
            | inr last ↦ absurd (failed_marked Memory n c last)
          ];
          began = subst (Noted (Marked start.number clock)) (sym lost) (noted_more (Marked start.number clock) notes (Failed Memory ∷ []) began_here);
          device = λ is_noted. elim (noted_split (Failed Device) notes (Failed Memory) (subst (Noted (Failed Device)) lost is_noted)) [
            | inl before ↦ absurd (unfailed_here Device before)
            | inr last ↦ absurd (memory_device last)
          ];
          memory = λ is_noted. whole;
          log = λ is_noted. elim (noted_split (Failed Log) notes (Failed Memory) (subst (Noted (Failed Log)) lost is_noted)) [
            | inl before ↦ absurd (unfailed_here Log before)
            | inr last ↦ absurd (memory_log last)
          ];
          kept = λ here.
              let frames : frames_of K after ≡ frames_of K h.before ++ batch_bytes K (batch_of batch.first batch.records.items) ∷ [] =
              ap (frames_of K) lost ∙ frames_more K notes (Failed Memory) ∙ append-nil (frames_of K notes) ∙ frames_here in
              let marks : marks_of after ≡ marks_of h.before = ap marks_of lost ∙ marks_more notes (Failed Memory) ∙ marks_here in
              let held = (appends (honest here) start (frames_of K h.before) (marks_of h.before) (h.step.covers (honest here))).marks in
              subst (λ l. AreKept K start l (marks_of after) new) (sym frames)
              (subst (λ l. AreKept K start (frames_of K h.before ++ batch_bytes K (batch_of batch.first batch.records.items) ∷ []) l new) (sym marks) held.1);
        }

    -- the batch isn't known to be appended: the device or the log failed, or memory was refused before
    pub batch_behind : (after : List (Note J)) (cause : Cause) (failed : Option Cause) → after ≡ notes ++ Failed cause ∷ [] → t ≡ s
        → (cause ≡ Device → HasFailed disk new) × (cause ≡ Memory → is ≡ false) × (cause ≡ Log → (failed ≡ Some Log) × (is ≡ false)) → (IsHonest new → IsHonest disk)
        → (IsHonest disk → (start : Plain J) (all : List (List ℕ)) (marks : List Mark) → Covers K start all marks broken s disk
        → AreKept K start (all ++ batch_bytes K (batch_of batch.first batch.records.items) ∷ []) marks new)
        → Behind K start failures clock after failed is t new
    batch_behind after cause failed lost same causes honest appends = record {
      at = h.before;
      rest = Last ∷ Failed cause ∷ [];
      begins = sym (lost ∙ ap (λ l. l ++ Failed cause ∷ []) h.noted ∙ append_assoc h.before (Last ∷ []) (Failed cause ∷ []));
      state = h.step.state ∙ ap Some (sym same);
      counted = subst (AreCounted start.number) (sym lost) (counted_more start.number notes (Failed cause) counted_here tt);
      low = λ n c is_noted. elim (noted_split (Marked n c) notes (Failed cause) (subst (Noted (Marked n c)) lost is_noted)) [
        | inl before ↦ subst (λ (q : Plain J). n ≤ q.number) (sym same) (low_here n c before)
        | inr last ↦ absurd (failed_marked cause n c last)
      ];
      began = subst (Noted (Marked start.number clock)) (sym lost) (noted_more (Marked start.number clock) notes (Failed cause ∷ []) began_here);
      device = λ is_noted. elim (noted_split (Failed Device) notes (Failed cause) (subst (Noted (Failed Device)) lost is_noted)) [
        | inl before ↦ absurd (unfailed_here Device before)
        | inr last ↦ elim (causes.0 (same_cause cause Device last)) [ inl more ↦ inl (let since = h.step.since in omega (arith, since, more)) | inr spent ↦ inr spent ]
      ];
      memory = λ is_noted. elim (noted_split (Failed Memory) notes (Failed cause) (subst (Noted (Failed Memory)) lost is_noted)) [
        | inl before ↦ absurd (unfailed_here Memory before)
        | inr last ↦ causes.1 (same_cause cause Memory last)
      ];
      log = λ is_noted. elim (noted_split (Failed Log) notes (Failed cause) (subst (Noted (Failed Log)) lost is_noted)) [
        | inl before ↦ absurd (unfailed_here Log before)
        | inr last ↦ causes.2 (same_cause cause Log last)
      ];
      kept = λ here.
          let frames : frames_of K after ≡ frames_of K h.before ++ batch_bytes K (batch_of batch.first batch.records.items) ∷ [] =
          ap (frames_of K) lost ∙ frames_more K notes (Failed cause) ∙ append-nil (frames_of K notes) ∙ frames_here in
          let marks : marks_of after ≡ marks_of h.before = ap marks_of lost ∙ marks_more notes (Failed cause) ∙ marks_here in
          let held = appends (honest here) start (frames_of K h.before) (marks_of h.before) (h.step.covers (honest here)) in
          subst (λ l. AreKept K start l (marks_of after) new) (sym frames)
          (subst (λ l. AreKept K start (frames_of K h.before ++ batch_bytes K (batch_of batch.first batch.records.items) ∷ []) l new) (sym marks) held);
    }

  -- a flusher begins in step
  pub begins_in_step : (K : Kind J) (start : Plain J) (failures clock : ℕ) (notes : List (Note J)) (broken : Bool) (s : Plain J) (disk : View)
      → IsFresh K start failures clock broken s disk → notes ≡ Marked start.number disk.clock ∷ [] → InStep K start failures clock notes broken s disk
  begins_in_step K start failures clock notes broken s disk h noted =
      let e : Note J = Marked start.number disk.clock in record {
        state = ap (λ l. applied K start (records_in l)) noted ∙ ap Some (sym h.state);
        counted = subst (AreCounted start.number) (sym noted) (tt, tt);
        whole = h.whole;
        low = λ n c is. elim (subst (Noted (Marked n c)) noted is) [
          | inl same ↦ (let n_is : start.number ≡ n = ap number_of same in let at : s.number ≡ start.number = ap (λ (p : Plain J). p.number) h.state in omega (arith, n_is, at))
          | inr none ↦ absurd none
        ];
        rested = subst (IsRested start.number) (sym noted) (let at : start.number ≡ start.number + 0 = omega arith in (disk.clock, inl (ap (λ (m : ℕ). Marked m disk.clock) at)));
        unfailed = λ cause is. elim (subst (Noted (Failed cause)) noted is) [ inl same ↦ marked_failed start.number disk.clock cause same | inr none ↦ none ];
        began = subst (Noted (Marked start.number clock)) (sym noted) (inl (ap (Marked start.number) h.clock));
        since = (let same = h.failures in omega (arith, same));
        covers = λ honest. subst (λ l. Covers K start (frames_of K l) (marks_of l) broken s disk) (sym noted) (record {
          leads = λ whole. sym h.state;
          marks = (
            record {
              count = 0;
              few = omega arith;
              state = s;
              leads = sym h.state;
              number = ap (λ (p : Plain J). p.number) h.state;
              past = omega arith;
              images = λ image since. record {
                count = 0;
                at_least = omega arith;
                at_most = omega arith;
                state = s;
                replays = sym h.state;
                recovered = h.images honest image since;
              };
            },
            tt,
          );
        });
      }

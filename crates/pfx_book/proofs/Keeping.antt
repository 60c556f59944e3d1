-- What a book keeps, after each of its calls.
use Rattle.std.specs.Prelude.{slice_get}
use Rattle.std.proofs.Common.{◌≡◌, ◌≢◌, ℕ, zero, suc, ◌+◌, ◌<◌, ◌≤◌, List, [], ◌∷◌, ◌++◌, length, set, Option, Some, None, Bool, true, false, refl, sym, ap, ◌∙◌, subst, arith, append_assoc, append-nil, length-append, inl, inr}
use Rattle.std.proofs.lemmas.Bool.{false≢true}
use Rattle.std.proofs.lemmas.Option.{none-some}
use Rattle.pfx_fault.specs.declared.fields.Cause.{Cause}
use Rattle.pfx_jobs.specs.Kind.{Kind}
use Rattle.pfx_machine.specs.Plain.{Plain}
use Rattle.pfx_machine.specs.Outcome.{outcome}
use Rattle.pfx_record.specs.Records.{Recorded}
use Rattle.pfx_record_redo.specs.Recording.{records_of}
use Rattle.pfx_book.specs.Merging.{of, lists_from}
use Rattle.pfx_book.specs.declared.note.Loss.{Loss}
use Rattle.pfx_book.specs.declared.note.Note.{Note}
use Rattle.pfx_book.specs.declared.note.Note.TheVariants.{Lost, Marked, Failed}
use Rattle.pfx_book.specs.Notes.{Noted, IsRested, added, commands_of, Fits, Legal, greatest, lost_in, records_in, taken_in, Backed, AllBacked, is_entry}
use Rattle.pfx_book.specs.Kept.{IsTold, HasFailed, IsMarked, IsKept}
use Rattle.pfx_book.proofs.Merges.{lists_get, lists_set, tagged_more, of_beyond, tagged_wider, lists_more, length_lists, some_is}
use Rattle.pfx_book.proofs.Notes.{noted_more, number_is, records_long, commands_more, legal_more, bounded, entries_more, entries_else, commands_entries, legal_entries, records_more, all_backed_more, all_backed_last, noted_split, noted_of, lost_noted}

pub failed_more : {J : Type 0} (failure : Option Cause) (xs ys : List (Note J)) → HasFailed failure xs → HasFailed failure (xs ++ ys)
failed_more None xs ys h = tt
failed_more (Some cause) xs ys h = noted_more (Failed cause) xs ys h

-- it is a mark
abbrev pub is_mark : {J : Type 0} → Note J → Bool
is_mark (Marked number clock) = true
is_mark other = false

-- the mark that a client was told of with a failure
abbrev mark_told : {J : Type 0} → Note J → ℕ
mark_told (Lost loss) = loss.marked
mark_told other = 0

module _ {J : Type 0} (K : Kind J) (start : Plain J) (session : List (ℕ × Note J)) (lists : List (List (Note J))) (n : ℕ) (state : Plain J) (pending : List (Recorded J)) (taken marked clock : ℕ) (failure : Option Cause) where
  -- of a book as it is
  abbrev Now : Type 0
  Now = IsKept K start session lists n state pending taken marked clock failure

  pub commands_are : (h : Now) → commands_of session ≡ commands_of h.all
  commands_are h = ap commands_of h.entries ∙ commands_entries h.all

  pub is_legal : Now → Legal K start [] session
  is_legal h = subst (Legal K start []) (sym h.entries) (legal_entries K start [] h.all h.is_told.is_legal)

  pub outcome_is : Now → state ≡ outcome K start (commands_of session)
  outcome_is h = h.is_told.outcome ∙ ap (outcome K start) (sym (commands_are h))

  pub state_number : Now → state.number ≡ start.number + length (commands_of session)
  state_number h = ap (λ (s : Plain J). s.number) (outcome_is h) ∙ number_is K start (commands_of session)

  -- what is accepted was taken or is pending
  pub all_taken : Now → length (commands_of session) ≡ taken + length pending
  all_taken h =
      let r = ap length h.is_told.records in
      let c = ap length (commands_are h) in
      omega (arith, r, c, records_long K start (commands_of h.all), length-append (records_in h.flushed) pending, h.is_marked.taken_is)

  pub low : Now → marked ≤ taken
  low h = h.is_marked.behind

  pub flushed_is : (mine : List (Note J)) (h : Now) → slice_get lists 0 ≡ Some mine → h.flushed ≡ mine
  flushed_is mine h at = some_is h.flushed mine (ap (λ l. slice_get l 0) (sym h.is_told.known) ∙ at)

  -- what a pass holds is at most the book's number
  pub below : (k : ℕ) (mine : List (Note J)) → Now → slice_get lists k ≡ Some mine → 0 < k → greatest mine ≤ state.number
  below zero mine h at pos = absurd (omega (arith, pos))
  below (suc i) mine h at pos =
      let r = lists_get 1 n i mine h.all (subst (λ l. slice_get l (suc i) ≡ Some mine) h.is_told.known at) in
      let b = subst (λ m. greatest m ≤ start.number + length (commands_of h.all)) r.1 (bounded K start (1 + i) [] h.all h.is_told.is_legal) in
      let c = ap length (commands_are h) in
      omega (arith, b, c, state_number h)

  -- the keeper's lists, with one note more for the pass k
  told_more : (h : Now) (k : ℕ) (mine : List (Note J)) (e : Note J) (next : Plain J) (more : List (Recorded J)) → slice_get lists k ≡ Some mine → 0 < k
      → Fits K start (commands_of h.all) e → next ≡ outcome K start (commands_of h.all ++ added e)
      → records_of K start (commands_of h.all ++ added e) ≡ records_of K start (commands_of h.all) ++ more
      → IsTold K start h.flushed (h.all ++ (k, e) ∷ []) (set lists k (mine ++ e ∷ [])) n next (pending ++ more)
  told_more h zero mine e next more at pos f s same = absurd (omega (arith, pos))
  told_more h (suc i) mine e next more at pos f s same =
      let t = h.is_told in
      let r = lists_get 1 n i mine h.all (subst (λ l. slice_get l (suc i) ≡ Some mine) t.known at) in
      let z : 1 + i ≡ suc i = omega arith in record {
        known = ap (λ l. set l (suc i) (mine ++ e ∷ [])) t.known
            ∙ (λ j. h.flushed ∷ (ap (λ m. set (lists_from 1 n h.all) i (m ++ e ∷ [])) (sym r.1) ∙ lists_set 1 n i e h.all r.0 ∙ ap (λ (a : ℕ). lists_from 1 n (h.all ++ (a, e) ∷ [])) z) j);
        tagged = tagged_more n (suc i) e h.all t.tagged (omega arith) (omega (arith, r.0));
        is_legal = legal_more K start [] h.all (suc i) e t.is_legal f;
        outcome = s ∙ ap (outcome K start) (sym (commands_more h.all (suc i) e));
        few = t.few;
        valid = t.valid;
        records = ap (records_of K start) (commands_more h.all (suc i) e) ∙ same ∙ ap (λ l. l ++ more) t.records ∙ append_assoc (records_in h.flushed) pending more;
      }

  marks_more : (h : Now) (k : ℕ) (e : Note J) → length (commands_of h.all) + length (added e) ≤ marked + 64 → Backed h.flushed e
      → ((loss : Loss) → e ≡ Lost loss → (failure ≢ None) × (loss.marked ≡ start.number + marked))
      → IsMarked start.number h.flushed (h.all ++ (k, e) ∷ []) taken marked clock failure
  marks_more h k e room b here = record {
    taken_is = h.is_marked.taken_is;
    behind = h.is_marked.behind;
    noted = h.is_marked.noted;
    greatest = h.is_marked.greatest;
    room = omega (arith, room, ap length (commands_more h.all k e), length-append (commands_of h.all) (added e));
    backed = all_backed_last h.flushed h.all k e h.is_marked.backed b;
    failed = h.is_marked.failed;
    told = λ j loss is. elim (noted_split (j, Lost loss) h.all (k, e) is) [
      | inl before ↦ h.is_marked.told j loss before
      | inr last ↦ here loss (ap (λ p. p.1) last)
    ];
  }

  -- the book with one entry more, of the pass k
  pub kept_entry : (h : Now) (k : ℕ) (mine : List (Note J)) (e : Note J) (next : Plain J) (more : List (Recorded J)) → slice_get lists k ≡ Some mine → 0 < k → is_entry e ≡ true
      → Fits K start (commands_of session) e → next ≡ outcome K start (commands_of session ++ added e)
      → records_of K start (commands_of session ++ added e) ≡ records_of K start (commands_of session) ++ more
      → length (commands_of session) + length (added e) ≤ marked + 64 → Backed h.flushed e
      → IsKept K start (session ++ (k, e) ∷ []) (set lists k (mine ++ e ∷ [])) n next (pending ++ more) taken marked clock failure
  kept_entry h k mine e next more at pos entry f s same room b =
      let c = commands_are h in record {
        flushed = h.flushed;
        all = h.all ++ (k, e) ∷ [];
        entries = ap (λ l. l ++ (k, e) ∷ []) h.entries ∙ sym (entries_more h.all k e entry);
        is_told = told_more h k mine e next more at pos (subst (λ G. Fits K start G e) c f) (s ∙ ap (λ G. outcome K start (G ++ added e)) c)
            (subst (λ G. records_of K start (G ++ added e) ≡ records_of K start G ++ more) c same);
        is_marked = marks_more h k e (subst (λ G. length G + length (added e) ≤ marked + 64) c room) b
            (λ loss same. absurd (false≢true (ap is_entry (sym same) ∙ entry)));
      }

  -- an entry that accepts nothing
  pub kept_answer : (h : Now) (k : ℕ) (mine : List (Note J)) (e : Note J) → slice_get lists k ≡ Some mine → 0 < k → is_entry e ≡ true → added e ≡ [] → Fits K start (commands_of session) e → Backed h.flushed e
      → IsKept K start (session ++ (k, e) ∷ []) (set lists k (mine ++ e ∷ [])) n state pending taken marked clock failure
  kept_answer h k mine e at pos entry none f b =
      let H = commands_of session in
      let same : H ++ added e ≡ H = ap (λ l. H ++ l) none ∙ append-nil H in
      let room : length H + length (added e) ≤ marked + 64 = omega (arith, ap length none, ap length (commands_are h), h.is_marked.room) in
      subst (λ p. IsKept K start (session ++ (k, e) ∷ []) (set lists k (mine ++ e ∷ [])) n state p taken marked clock failure) (append-nil pending)
      (kept_entry h k mine e state [] at pos entry f (outcome_is h ∙ ap (outcome K start) (sym same)) (ap (records_of K start) same ∙ sym (append-nil (records_of K start H))) room b)

  -- a client was told of the failure
  pub kept_loss : (h : Now) (k : ℕ) (mine : List (Note J)) (loss : Loss) → slice_get lists k ≡ Some mine → 0 < k → failure ≡ Some loss.cause → loss.marked ≡ start.number + marked
      → IsKept K start session (set lists k (mine ++ Lost loss ∷ [])) n state pending taken marked clock failure
  kept_loss h k mine loss at pos is mark =
      let H = commands_of h.all in
      let e : Note J = Lost loss in
      let same : H ++ added e ≡ H = append-nil H in
      record {
        flushed = h.flushed;
        all = h.all ++ (k, e) ∷ [];
        entries = h.entries ∙ sym (entries_else h.all k e refl);
        is_told = subst (λ p. IsTold K start h.flushed (h.all ++ (k, e) ∷ []) (set lists k (mine ++ e ∷ [])) n state p) (append-nil pending)
            (told_more h k mine e state [] at pos tt (h.is_told.outcome ∙ ap (outcome K start) (sym same)) (ap (records_of K start) same ∙ sym (append-nil (records_of K start H))));
        is_marked = marks_more h k e (omega (arith, h.is_marked.room)) (subst (λ o. HasFailed o h.flushed) is h.is_marked.failed)
            (λ other same. ((λ none. none-some loss.cause (sym none ∙ is)), sym (ap mark_told same) ∙ mark));
      }

  -- one pass more
  pub kept_pass : Now → n < 64 → IsKept K start session (lists ++ [] ∷ []) (n + 1) state pending taken marked clock failure
  kept_pass h few =
      let t = h.is_told in
      let z : n + 1 ≡ suc n = omega arith in record {
        flushed = h.flushed;
        all = h.all;
        entries = h.entries;
        is_told = record {
          known = ap (λ l. l ++ [] ∷ []) t.known ∙ (λ i. h.flushed ∷ (ap (λ e. lists_from 1 n h.all ++ e ∷ []) (sym (of_beyond n (1 + n) h.all t.tagged (omega arith))) ∙ lists_more 1 n h.all ∙ ap (λ m. lists_from 1 m h.all) (sym z)) i);
          tagged = tagged_wider n (n + 1) h.all t.tagged (omega arith);
          is_legal = t.is_legal;
          outcome = t.outcome;
          few = omega (arith, few);
          valid = t.valid;
          records = t.records;
        };
        is_marked = h.is_marked;
      }

  pub length_kept : Now → n + 1 ≡ length lists
  length_kept h = let a = ap length h.is_told.known in let b = length_lists 1 n h.all in omega (arith, a, b)

  -- a pass that is in the book has just the notes of its number
  pub its : (h : Now) (k : ℕ) (mine : List (Note J)) → slice_get lists k ≡ Some mine → 0 < k → mine ≡ of k h.all
  its h zero mine at pos = absurd (omega (arith, pos))
  its h (suc i) mine at pos =
      let r = lists_get 1 n i mine h.all (subst (λ l. slice_get l (suc i) ≡ Some mine) h.is_told.known at) in
      let z : 1 + i ≡ suc i = omega arith in
      sym r.1 ∙ ap (λ k. of k h.all) z

  -- who was told of a failure was told of the last mark
  pub told_mark : (h : Now) (k : ℕ) (mine : List (Note J)) (loss : Loss) → slice_get lists k ≡ Some mine → 0 < k → lost_in mine ≡ Some loss → loss.marked ≡ start.number + marked
  told_mark h k mine loss at pos is = (h.is_marked.told k loss (noted_of k (Lost loss) h.all (subst (Noted (Lost loss)) (its h k mine at pos) (lost_noted mine loss is)))).1

  -- where a mark is noted of all that was taken, it is the mark
  pub all_marked : (h : Now) (mine : List (Note J)) → slice_get lists 0 ≡ Some mine → IsRested start.number mine → marked ≡ taken
  all_marked h mine at rested =
      let known = flushed_is mine h at in
      let long = ap (λ l. length (records_in l)) known in
      let high = h.is_marked.greatest (start.number + length (records_in mine)) rested.0
      (subst (Noted (Marked (start.number + length (records_in mine)) rested.0)) (sym known) rested.1) in
      omega (arith, high, long, h.is_marked.taken_is, h.is_marked.behind)

  -- one note more of the flusher's, with what it takes
  pub kept_note : (h : Now) (mine : List (Note J)) (e : Note J) (rest : List (Recorded J)) (later now since : ℕ) (lost : Option Cause) → slice_get lists 0 ≡ Some mine → pending ≡ taken_in e ++ rest
      → later ≡ taken + length (taken_in e) → now ≤ later → marked ≤ now → Noted (Marked (start.number + now) since) (mine ++ e ∷ [])
      → ((m c : ℕ) → e ≡ Marked m c → m ≤ start.number + now) → HasFailed lost (mine ++ e ∷ [])
      → ((k : ℕ) (loss : Loss) → Noted (k, Lost loss) h.all → (lost ≢ None) × (loss.marked ≡ start.number + now))
      → IsKept K start session (set lists 0 (mine ++ e ∷ [])) n state rest later now since lost
  kept_note h mine e rest later now since lost at are count low more noted greatest has still =
      let t = h.is_told in
      let m = h.is_marked in
      let known = flushed_is mine h at in
      let records : records_in (mine ++ e ∷ []) ≡ records_in mine ++ taken_in e = records_more mine (e ∷ []) ∙ ap (λ l. records_in mine ++ l) (append-nil (taken_in e)) in record {
        flushed = mine ++ e ∷ [];
        all = h.all;
        entries = h.entries;
        is_told = record {
          known = ap (λ l. set l 0 (mine ++ e ∷ [])) t.known;
          tagged = t.tagged;
          is_legal = t.is_legal;
          outcome = t.outcome;
          few = t.few;
          valid = t.valid;
          records = t.records ∙ (λ i. records_in (known i) ++ are i) ∙ sym (append_assoc (records_in mine) (taken_in e) rest) ∙ ap (λ l. l ++ rest) (sym records);
        };
        is_marked = record {
          taken_is = omega (arith, count, m.taken_is, ap (λ l. length (records_in l)) known, ap length records, length-append (records_in mine) (taken_in e));
          behind = low;
          noted = noted;
          greatest = λ m c is. elim (noted_split (Marked m c) mine e is) [
            | inl before ↦ (let old = h.is_marked.greatest m c (subst (Noted (Marked m c)) (sym known) before) in omega (arith, old, more))
            | inr last ↦ greatest m c last
          ];
          room = omega (arith, m.room, more);
          backed = all_backed_more mine (e ∷ []) h.all (subst (λ l. AllBacked l h.all) known m.backed);
          failed = has;
          told = still;
        };
      }

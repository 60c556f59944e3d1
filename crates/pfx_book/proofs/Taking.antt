-- The records that are taken next.
use Rattle.std.specs.Prelude.{slice_get, if◌then◌else◌, IsTrue}
use Rattle.std.proofs.Common.{◌≡◌, ℕ, suc, ◌+◌, ◌<◌, ◌≤◌, ◌^◌, List, [], ◌∷◌, ◌++◌, length, map, set, take, drop, Option, Some, None, refl, sym, ap, ◌∙◌, subst, arith, inl, inr, length-append}
use Rattle.std.proofs.lemmas.Bool.{false≢true, lt-ltb, le-leb}
use Rattle.std.proofs.lemmas.List.{take-append-drop, length-take-le}
use Rattle.pfx_book_slot.proofs.Placed.{take_own}
use Rattle.pfx_fault.specs.declared.fields.Cause.{Cause}
use Rattle.pfx_jobs.specs.Kind.{Kind, Laws}
use Rattle.pfx_machine.specs.Plain.{Plain, IsState}
use Rattle.pfx_machine.specs.Outcome.{outcome}
use Rattle.pfx_machine.specs.declared.command.Command.{Command}
use Rattle.pfx_machine.specs.Batches.{IsBatchable}
use Rattle.pfx_machine.specs.Sessions.{IsAcceptable}
use Rattle.pfx_machine.proofs.Compose.{outcome-none, outcome-outcome}
use Rattle.pfx_events_world.proofs.Machine.{take_accepted, next_accepted, next_outcome}
use Rattle.pfx_record_redo.specs.Applying.{applied, is_right, after_record}
use Rattle.pfx_record_redo.specs.Recording.{record_of, records_of}
use Rattle.pfx_record_redo.proofs.Outcomes.{records_outcome}
use Rattle.pfx_record_redo.proofs.States.{applied_behind}
use Rattle.pfx_record.specs.Batches.{all_fit, batch_fits, counts_fit}
use Rattle.pfx_record.specs.Records.{form_of, plain, Recorded}
use Rattle.pfx_record.proofs.Rising.{of_both}
use Rattle.std.specs.Global.{Vec}
use Rattle.pfx_record.specs.declared.record.Record.{Record}
use Rattle.pfx_book.specs.declared.note.Note.{Note}
use Rattle.pfx_book.specs.declared.note.Note.TheVariants.{Took, Marked}
use Rattle.pfx_book.specs.Notes.{Noted, commands_of, records_in, GoesOn}
use Rattle.pfx_book.specs.Batching.{GoesFar, MayShare, real_for, width_behind}
use Rattle.pfx_book.specs.Calls.{ReachesFar}
use Rattle.pfx_book.specs.Kept.{Counts, HasFailed, IsKept}
use Rattle.pfx_book.proofs.Merges.{some_is}
use Rattle.pfx_book.proofs.Sharing.{batchable, shareable, shared_fit, split_if, width_is}
use Rattle.pfx_book.proofs.Notes.{noted_more, records_long, all_accepted}
use Rattle.pfx_book.proofs.Keeping.{is_mark, flushed_is, commands_are, all_taken, kept_note, failed_more}

drop_own : {A : Type 0} (xs rest : List A) → drop (length xs) (xs ++ rest) ≡ rest
drop_own [] rest = refl
drop_own (x ∷ xs) rest = drop_own xs rest

tails : {A : Type 0} (xs us ys vs : List A) → length us ≡ length xs → xs ++ ys ≡ us ++ vs → ys ≡ vs
tails xs us ys vs long e = sym (drop_own xs ys) ∙ ap (drop (length xs)) e ∙ ap (λ k. drop k (us ++ vs)) (sym long) ∙ drop_own us vs

module _ {J : Type 0} (K : Kind J) where
  records_split : (L : Laws K) (s : Plain J) (H G : List (Command J)) → records_of K s (H ++ G) ≡ records_of K s H ++ records_of K (outcome K s H) G
  records_split L s [] G = ap (λ t. records_of K t G) (sym (outcome-none K s))
  records_split L s (c ∷ H) G = ap (λ l. record_of K s c ∷ l)
      (records_split L (outcome K s (c ∷ [])) H G ∙ ap (λ t. records_of K (outcome K s (c ∷ [])) H ++ records_of K t G) (outcome-outcome K L s (c ∷ []) H))

  pub record_next : (L : Laws K) (s : Plain J) (H : List (Command J)) (c : Command J) → records_of K s (H ++ c ∷ []) ≡ records_of K s H ++ record_of K (outcome K s H) c ∷ []
  record_next L s H c = records_split L s H (c ∷ [])

  -- records that go as far as they may are of commands that do
  reach_of : (L : Laws K) (s : Plain J) (H G : List (Command J)) → GoesFar (records_of K s H) (records_of K (outcome K s H) G) → ReachesFar H G
  reach_of L s H [] far = tt
  reach_of L s H (c ∷ G) (inl long) = inl (omega (arith, long, records_long K s H))
  reach_of L s H (c ∷ G) (inr apart) = inr (λ batch. apart (subst MayShare (record_next L s H c) (shareable K s (H ++ c ∷ []) batch)))

  -- of records that lead on, some first ones lead on, and the others from there
  applied_front : (s : Plain J) (xs ys : List (Recorded J)) (u : Plain J) → applied K s (xs ++ ys) ≡ Some u → (t : Plain J) × (applied K s xs ≡ Some t) × (applied K t ys ≡ Some u)
  applied_front s [] ys u e = (s, refl, e)
  applied_front s (x ∷ xs) ys u e =
      let f = split_if (is_right K s x) (applied K (after_record s x) (xs ++ ys)) u e in
      let r = applied_front (after_record s x) xs ys u f.1 in
      (r.0, ap (λ q. if q then applied K (after_record s x) xs else None) f.0 ∙ r.1, r.2)

  module _ (L : Laws K) (start : Plain J) (session : List (ℕ × Note J)) (lists : List (List (Note J))) (n : ℕ) (state : Plain J) (batch rest : List (Recorded J)) (taken marked clock : ℕ) (failure : Option Cause) where
    abbrev Now : Type 0
    Now = IsKept K start session lists n state (batch ++ rest) taken marked clock failure

    -- what was taken and what waits, by the commands
    halves : (h : Now) → records_in h.flushed ++ (batch ++ rest)
        ≡ records_of K start (take taken (commands_of session)) ++ records_of K (outcome K start (take taken (commands_of session))) (drop taken (commands_of session))
    halves h =
        let H = commands_of session in
        sym h.is_told.records ∙ ap (records_of K start) (sym (commands_are K start session lists n state (batch ++ rest) taken marked clock failure h) ∙ sym (take-append-drop taken H))
        ∙ records_split L start (take taken H) (drop taken H)

    half_long : (h : Now) → length (records_of K start (take taken (commands_of session))) ≡ length (records_in h.flushed)
    half_long h =
        let H = commands_of session in
        let all = all_taken K start session lists n state (batch ++ rest) taken marked clock failure h in
        records_long K start (take taken H) ∙ length-take-le taken H (omega (arith, all)) ∙ h.is_marked.taken_is

    -- what was taken is of the first commands
    pub taken_are : (h : Now) → records_in h.flushed ≡ records_of K start (take taken (commands_of session))
    taken_are h =
        let H = commands_of session in
        let k = length (records_in h.flushed) in
        sym (take_own k (records_in h.flushed) (batch ++ rest) refl) ∙ ap (take k) (halves h)
        ∙ take_own k (records_of K start (take taken H)) (records_of K (outcome K start (take taken H)) (drop taken H)) (half_long h)

    -- the batch is of the next commands
    pub next_is : Now → batch ≡ records_of K (outcome K start (take taken (commands_of session))) (take (length batch) (drop taken (commands_of session)))
    next_is h =
        let H = commands_of session in
        let T = take taken H in
        let G = drop taken H in
        let t = outcome K start T in
        let k = length batch in
        let next : batch ++ rest ≡ records_of K t G = tails (records_in h.flushed) (records_of K start T) (batch ++ rest) (records_of K t G) (half_long h) (halves h) in
        let split : batch ++ rest ≡ records_of K t (take k G) ++ records_of K (outcome K t (take k G)) (drop k G) = next ∙ ap (records_of K t) (sym (take-append-drop k G)) ∙ records_split L t (take k G) (drop k G) in
        let size : k ≤ length G = omega (arith, ap length next, records_long K t G, length-append batch rest) in
        let same : length (records_of K t (take k G)) ≡ k = records_long K t (take k G) ∙ length-take-le k G size in
        sym (take_own k batch rest refl) ∙ ap (take k) split ∙ take_own k (records_of K t (take k G)) (records_of K (outcome K t (take k G)) (drop k G)) same

    -- which goes as far as a batch may, if its records do
    pub reaches : Now → GoesFar batch rest → ReachesFar (take (length batch) (drop taken (commands_of session))) (drop (length batch) (drop taken (commands_of session)))
    reaches h far =
        let H = commands_of session in
        let t = outcome K start (take taken H) in
        let G = drop taken H in
        let k = length batch in
        let here = next_is h in
        let size : length (records_of K t (take k G)) ≡ k = ap length (sym here) in
        let split : batch ++ rest ≡ records_of K t (take k G) ++ records_of K (outcome K t (take k G)) (drop k G) =
        tails (records_in h.flushed) (records_of K start (take taken H)) (batch ++ rest) (records_of K t G) (half_long h) (halves h)
        ∙ ap (records_of K t) (sym (take-append-drop k G)) ∙ records_split L t (take k G) (drop k G) in
        let later = tails batch (records_of K t (take k G)) rest (records_of K (outcome K t (take k G)) (drop k G)) size split in
        reach_of L t (take k G) (drop k G) (subst (λ (q : List (Recorded J) × List (Recorded J)). GoesFar q.0 q.1) (λ i. (here i, later i)) far)

    -- where the noted records lead, and the batch from there
    pub record Leads (notes : List (Note J)) : Type 0 where
      pub t : Plain J
      pub at : applied K start (records_in notes) ≡ Some t
      pub u : Plain J
      pub next : applied K t batch ≡ Some u
      pub number : t.number + length (batch ++ rest) ≡ state.number
      pub last : u.number ≡ t.number + length batch
      pub real : t.ledger.set.real ≡ state.ledger.set.real
      pub is : t ≡ outcome K start (take taken (commands_of session))
      pub valid : IsState t
      pub after : IsState u

    pub leads : (h : Now) → Leads h.flushed
    leads h =
        let H = commands_of h.all in
        let G = commands_of session in
        let s = h.is_told in
        let accepted = all_accepted K start [] h.all s.is_legal in
        let all : applied K start (records_of K start H) ≡ Some (outcome K start H) = records_outcome K L start H s.valid accepted in
        let here : applied K start (records_in h.flushed ++ (batch ++ rest)) ≡ Some state = ap (applied K start) (sym s.records) ∙ all ∙ ap Some (sym s.outcome) in
        let a = applied_front start (records_in h.flushed) (batch ++ rest) state here in
        let b = applied_front a.0 batch rest state a.2 in
        let first = applied_behind K start a.0 (records_in h.flushed) a.1 in
        let whole = applied_behind K a.0 state (batch ++ rest) a.2 in
        let some = applied_behind K a.0 b.0 batch b.1 in
        let same = commands_are K start session lists n state (batch ++ rest) taken marked clock failure h in
        let front = records_outcome K L start (take taken G) s.valid (take_accepted K start G taken (subst (IsAcceptable K start) (sym same) accepted)) in
        let is = some_is a.0 (outcome K start (take taken G)) (sym a.1 ∙ ap (applied K start) (taken_are h) ∙ front) in
        record { t = a.0; at = a.1; u = b.0; next = b.1; number = sym whole.number; last = some.number; real = sym whole.real; is = is; valid = first.state s.valid; after = some.state (first.state s.valid) }

    pub enough : Now → length (batch ++ rest) ≤ state.number
    enough h = let l = leads h in omega (arith, l.number)

    -- the workers that the book keeps are those of the state behind the noted records
    width_here : (h : Now) (began width : ℕ) → Counts K start (commands_of session) began taken width → width ≡ (leads h).t.ledger.set.workers
    width_here h began width counts = counts.here ∙ ap (λ (v : Plain J). v.ledger.set.workers) (sym (leads h).is)

    real_here : (h : Now) (real : ℕ) → real ≡ real_for state.ledger.set.real batch → real ≡ real_for (leads h).t.ledger.set.real batch
    real_here h real is = is ∙ ap (λ m. real_for m batch) (sym (leads h).real)

    pub fits_next : (width real first began : ℕ) → Now → Counts K start (commands_of session) began taken width → real ≡ real_for state.ledger.set.real batch
        → first + length (batch ++ rest) ≡ state.number + 1 → 0 < length batch → length batch ≤ 16 → MayShare batch → IsTrue (batch_fits width real (record { first = first; records = batch }))
    fits_next width real first began h counts is begins some few share =
        let l = leads h in
        let w = width_here h began width counts in
        let m = l.valid.ledger.set.workers in
        let long = l.number in
        let last = l.last in
        let top = l.after.number in
        let numbers : IsTrue (counts_fit width first (length batch)) =
        of_both _ _ (of_both _ _ (lt-ltb 0 width (omega (arith, m.0, w))) (le-leb width 64 (omega (arith, m.1, w))))
        (of_both _ _ (of_both _ _ (lt-ltb 0 (length batch) some) (le-leb (length batch) 16 few))
        (of_both _ _ (lt-ltb 0 first (omega (arith, begins, long))) (le-leb (first + length batch) (2 ^ 48) (omega (arith, begins, long, last, top))))) in
        of_both _ _ numbers (subst (λ r. IsTrue (all_fit (form_of width r (length batch)) batch)) (sym (real_here h real is)) (shared_fit K width l.t l.u batch (sym w) share l.next))

    pub goes_on : (mine : List (Note J)) (width real first began : ℕ) → Now → slice_get lists 0 ≡ Some mine → Counts K start (commands_of session) began taken width
        → real ≡ real_for state.ledger.set.real batch → first + length (batch ++ rest) ≡ state.number + 1 → GoesOn K start mine width real first batch
    goes_on mine width real first began h known counts is begins s at =
        let l = leads h in
        let same : l.t ≡ s = some_is l.t s (sym l.at ∙ ap (λ v. applied K start (records_in v)) (flushed_is K start session lists n state (batch ++ rest) taken marked clock failure mine h known) ∙ at) in
        let long = l.number in
        let f : first ≡ l.t.number + 1 = omega (arith, begins, long) in
        subst (λ (v : Plain J). (width ≡ v.ledger.set.workers) × (real ≡ real_for v.ledger.set.real batch) × (first ≡ v.number + 1) × ((u : Plain J) × (applied K v batch ≡ Some u))) same
        (width_here h began width counts, real_here h real is, f, (l.u, l.next))

    -- the workers behind the batch
    pub counts_take : (began width : ℕ) → Now → Counts K start (commands_of session) began taken width → MayShare batch
        → Counts K start (commands_of session) began (taken + length batch) (width_behind width batch)
    counts_take began width h counts share =
        let l = leads h in
        let H = commands_of session in
        let T = outcome K start (take taken H) in
        let G = take (length batch) (drop taken H) in
        let same = commands_are K start session lists n state (batch ++ rest) taken marked clock failure h in
        let accepted = subst (IsAcceptable K start) (sym same) (all_accepted K start [] h.all h.is_told.is_legal) in
        let valid = subst IsState l.is l.valid in
        let leads_on : applied K T batch ≡ Some (outcome K T G) = ap (applied K T) (next_is h) ∙ records_outcome K L T G valid (next_accepted K L start H taken (length batch) accepted) in
        record {
          first = counts.first;
          here = ap (λ w. width_behind w batch) counts.here ∙ sym (width_is K T (outcome K T G) batch share leads_on)
              ∙ ap (λ (v : Plain J). v.ledger.set.workers) (next_outcome K L start H taken (length batch));
        }

    -- its commands
    pub batchable_next : Now → MayShare batch → IsBatchable (take (length batch) (drop taken (commands_of session)))
    batchable_next h share = batchable K (outcome K start (take taken (commands_of session))) (take (length batch) (drop taken (commands_of session))) (subst MayShare (next_is h) share)

    pub kept_take : (mine : List (Note J)) (first : ℕ) (records : Vec (Record J)) → (h : Now) → slice_get lists 0 ≡ Some mine → map plain records.items ≡ batch
        → IsKept K start session (set lists 0 (mine ++ Took first records ∷ [])) n state rest (taken + length batch) marked clock failure
    kept_take mine first records h at are =
        let known = flushed_is K start session lists n state (batch ++ rest) taken marked clock failure mine h at in
        kept_note K start session lists n state (batch ++ rest) taken marked clock failure h mine (Took first records) rest (taken + length batch) marked clock failure at
        (ap (λ l. l ++ rest) (sym are)) (omega (arith, ap length are)) (omega (arith, h.is_marked.behind)) (omega arith)
        (noted_more (Marked (start.number + marked) clock) mine (Took first records ∷ []) (subst (Noted (Marked (start.number + marked) clock)) known h.is_marked.noted))
        (λ m c last. absurd (false≢true (ap is_mark last)))
        (failed_more failure mine (Took first records ∷ []) (subst (HasFailed failure) known h.is_marked.failed)) h.is_marked.told

pub length_map : {A B : Type 0} (f : A → B) (xs : List A) → length (map f xs) ≡ length xs
length_map f [] = refl
length_map f (x ∷ xs) = ap suc (length_map f xs)

pub nil_of : {A : Type 0} (xs : List A) → length xs ≡ 0 → xs ≡ []
nil_of [] e = refl
nil_of (x ∷ xs) e = absurd (omega (arith, e))

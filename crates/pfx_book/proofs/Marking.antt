-- What the flusher notes.
use Rattle.std.specs.Prelude.{slice_get, take}
use Rattle.std.proofs.Common.{◌≡◌, ℕ, ◌+◌, ◌<◌, ◌≤◌, List, [], ◌∷◌, ◌++◌, length, set, Option, Some, None, refl, sym, ap, ◌∙◌, subst, arith, inl, inr}
use Rattle.std.proofs.lemmas.Bool.{false≢true}
use Rattle.pfx_fault.specs.declared.fields.Cause.{Cause}
use Rattle.pfx_jobs.specs.Kind.{Kind}
use Rattle.pfx_machine.specs.Plain.{Plain, IsState}
use Rattle.pfx_machine.specs.Outcome.{outcome}
use Rattle.pfx_machine.specs.declared.command.Command.{Command}
use Rattle.pfx_machine.proofs.Compose.{outcome-none}
use Rattle.std.proofs.lemmas.List.{take-append-le}
use Rattle.pfx_record.specs.Records.{Recorded}
use Rattle.pfx_book_slot.specs.Dealt.{Dealt}
use Rattle.pfx_book.specs.declared.note.Note.{Note}
use Rattle.pfx_book.specs.declared.note.Note.TheVariants.{Marked, Failed}
use Rattle.pfx_book.specs.Notes.{Noted, added, commands_of, records_in}
use Rattle.pfx_book.specs.Kept.{Counts, HasFailed, IsKept, OpenFits}
use Rattle.std.proofs.lemmas.Option.{none-some}
use Rattle.pfx_book.proofs.Notes.{commands_more, noted_more, noted_last}
use Rattle.pfx_book.proofs.Keeping.{is_mark, flushed_is, kept_note, failed_more}

-- the number that a note marks
abbrev number_of : {J : Type 0} → Note J → ℕ
number_of (Marked number clock) = number
number_of other = 0

module _ {J : Type 0} (K : Kind J) (start : Plain J) (session : List (ℕ × Note J)) (lists : List (List (Note J))) (n : ℕ) (state : Plain J) (pending : List (Recorded J)) (taken marked clock : ℕ) (failure : Option Cause) where
  abbrev Now : Type 0
  Now = IsKept K start session lists n state pending taken marked clock failure

  -- all that was taken is marked
  pub kept_mark : (h : Now) (mine : List (Note J)) (number since : ℕ) → slice_get lists 0 ≡ Some mine → number ≡ start.number + length (records_in mine)
      → failure ≡ None
      → IsKept K start session (set lists 0 (mine ++ Marked number since ∷ [])) n state pending taken taken since failure
  kept_mark h mine number since at is goes_on =
      let known = flushed_is K start session lists n state pending taken marked clock failure mine h at in
      let long = ap (λ l. length (records_in l)) known in
      let same : number ≡ start.number + taken = omega (arith, is, long, h.is_marked.taken_is) in
      kept_note K start session lists n state pending taken marked clock failure h mine (Marked number since) pending taken taken since failure at refl (omega arith) (omega arith) h.is_marked.behind
      (subst (λ m. Noted (Marked m since) (mine ++ Marked number since ∷ [])) same (noted_last (Marked number since) mine))
      (λ m c last. let is = ap number_of last in omega (arith, is, same))
      (failed_more failure mine (Marked number since ∷ []) (subst (HasFailed failure) known h.is_marked.failed))
      (λ k loss told. absurd ((h.is_marked.told k loss told).0 goes_on))

  -- the flusher gives up
  pub kept_fail : (h : Now) (mine : List (Note J)) (cause : Cause) → slice_get lists 0 ≡ Some mine
      → IsKept K start session (set lists 0 (mine ++ Failed cause ∷ [])) n state pending taken marked clock (Some cause)
  kept_fail h mine cause at =
      let known = flushed_is K start session lists n state pending taken marked clock failure mine h at in
      kept_note K start session lists n state pending taken marked clock failure h mine (Failed cause) pending taken marked clock (Some cause) at refl (omega arith) h.is_marked.behind (omega arith)
      (noted_more (Marked (start.number + marked) clock) mine (Failed cause ∷ []) (subst (Noted (Marked (start.number + marked) clock)) known h.is_marked.noted))
      (λ m c last. absurd (false≢true (ap is_mark last)))
      (noted_last (Failed cause) mine) (λ k loss told. ((λ none. none-some cause (sym none)), (h.is_marked.told k loss told).1))

-- a slot that has room has it with a later mark too
pub fits_later : {J : Type 0} (K : Kind J) (state : Plain J) (first : ℕ) (o : Option (Dealt J)) (marked later entries places : ℕ) → marked ≤ later → OpenFits K state first o marked entries places → OpenFits K state first o later entries places
fits_later K state first None marked later entries places le h = tt
fits_later K state first (Some o) marked later entries places le h = (h.0, h.1, omega (arith, h.2, le), h.3, h.4)

-- and with more places
pub fits_wider : {J : Type 0} (K : Kind J) (state : Plain J) (first : ℕ) (o : Option (Dealt J)) (marked entries places wider : ℕ) → entries < wider → OpenFits K state first o marked entries places → (later : ℕ) → later < wider → OpenFits K state first o marked later wider
fits_wider K state first None marked entries places wider le h later lt = tt
fits_wider K state first (Some o) marked entries places wider le h later lt = (h.0, lt, h.2, h.3, h.4)

pub fits_none : {J : Type 0} (K : Kind J) (state : Plain J) (first : ℕ) (o : Option (Dealt J)) (marked entries places : ℕ) → o ≡ None → OpenFits K state first o marked entries places
fits_none K state first o marked entries places none = subst (λ p. OpenFits K state first p marked entries places) (sym none) tt

-- one entry more is behind what was taken
pub counts_more : {J : Type 0} (K : Kind J) (start : Plain J) (session : List (ℕ × Note J)) (k : ℕ) (e : Note J) (began taken width : ℕ) → taken ≤ length (commands_of session)
    → Counts K start (commands_of session) began taken width → Counts K start (commands_of (session ++ (k, e) ∷ [])) began taken width
counts_more K start session k e began taken width low h =
    let H = commands_of session in
    let same : take taken (commands_of (session ++ (k, e) ∷ [])) ≡ take taken H = ap (take taken) (commands_more session k e) ∙ take-append-le taken H (added e) low in
    record { first = h.first; here = h.here ∙ ap (λ (G : List (Command _)). (outcome K start G).ledger.set.workers) (sym same) }

-- a book that begins
pub kept_new : {J : Type 0} (K : Kind J) (start state : Plain J) (lists : List (List (Note J))) (number clock : ℕ) → state ≡ start → IsState state → number ≡ state.number → lists ≡ (Marked number clock ∷ []) ∷ []
    → IsKept K start [] lists 0 state [] 0 0 clock None
kept_new K start state lists number clock same is num are =
    let first : number ≡ start.number + 0 = num ∙ ap (λ (s : Plain _). s.number) same ∙ omega arith in record {
      flushed = Marked number clock ∷ [];
      all = [];
      entries = refl;
      is_told = record {
        known = are;
        tagged = refl;
        is_legal = tt;
        outcome = same ∙ sym (outcome-none K start);
        few = omega arith;
        valid = subst IsState same is;
        records = refl;
      };
      is_marked = record { taken_is = refl; behind = omega arith; noted = inl (ap (λ (m : ℕ). Marked m clock) first); greatest = λ m c is. elim is [ inl same ↦ (let at = ap number_of same in omega (arith, at, first)) | inr none ↦ absurd none ]; room = omega arith; backed = tt; failed = tt; told = λ k loss is. absurd is };
    }

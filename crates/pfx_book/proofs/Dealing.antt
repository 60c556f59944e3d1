-- The open slot: what it shows, its results, and its end.
use Rattle.std.specs.Prelude.{slice_get, slice_set, option_map, MatchOption, Result, Ok, Err, OnOk, OnErr, IfErr, nat_le, is_some, not}
use Rattle.std.proofs.Common.{◌≡◌, ◌≢◌, ℕ, zero, suc, ◌+◌, ◌<◌, ◌^◌, List, [], ◌∷◌, map, Option, Some, None, Bool, true, false, refl, sym, ap, ◌∙◌, subst, inl, inr}
use Rattle.std.proofs.lemmas.Bool.{leb-false, lt-leb, true≢false}
use Rattle.std.proofs.lemmas.Option.{none-some}
use Rattle.pfx_weights.specs.Rows.{is_in}
use Rattle.pfx_columns.specs.Ledgers.{after}
use Rattle.pfx_jobs.specs.Kind.{Kind}
use Rattle.pfx_machine.specs.Plain.{Plain, whole, IsState}
use Rattle.pfx_machine.specs.Choosing.{row_in}
use Rattle.pfx_machine.proofs.Rowing.{row_chosen}
use Rattle.pfx_machine.specs.Happenings.{row_or_none}
use Rattle.pfx_machine.specs.Refusals.{refusal}
use Rattle.pfx_machine.specs.Steps.{state_step, happening_in, jobs_step}
use Rattle.pfx_machine.specs.Slots.{Deal, deals_in, written_back}
use Rattle.pfx_machine.specs.declared.command.Command.{Command}
use Rattle.pfx_machine.specs.declared.command.Command.TheVariants.{Slot}
use Rattle.pfx_machine.specs.declared.plain.Happening.TheVariants.{Ran as ran}
use Rattle.pfx_machine.proofs.Dealt.{written-dealt}
use Rattle.pfx_machine.proofs.Keeping.{chosen_rises}
use Rattle.pfx_machine.proofs.Serving.{apart_of, served-slot}
use Rattle.pfx_crew.specs.Gathering.{Puts, Refuses as Repels}
use Rattle.pfx_crew.specs.declared.gathering.GatherFault.{GatherFault}
use Rattle.pfx_crew.specs.declared.gathering.GatherFault.TheVariants.{Double, Stranger}
use Rattle.pfx_book_slot.specs.Dealt.{Dealt, Answers, AllBack, IsMissing, StandsAt}
use Rattle.pfx_book_slot.proofs.Placed.{get_map, get_empty, map_set, answers_set}
use Rattle.pfx_events_world.specs.Session.{Opened, AllBack as AllShown, opening_of, given_back, given_in, back_in, sealed_in}
use Rattle.pfx_book.specs.declared.faults.BookFault.{BookFault}
use Rattle.pfx_book.specs.declared.faults.BookFault.TheVariants.{SessionFull, Machine, NoMemory}
use Rattle.pfx_fault.specs.declared.fields.Cause.{Cause}
use Rattle.pfx_book.specs.declared.note.Note.{Note}
use Rattle.pfx_book.specs.Notes.{refused_at}
use Rattle.pfx_book.specs.Trying.{StaysUnopened, IsReady}
use Rattle.pfx_book.specs.Calls.{NoneMissing, IsFirstMissing, ComesBack, IsRepelled}
use Rattle.pfx_book.specs.Kept.{OpenFits}
use Rattle.pfx_book.specs.Register.{Register, register, shown}
use Rattle.pfx_book.proofs.Merges.{some_is}

module _ {J : Type 0} where
  -- what isn't for want of memory is the session's refusal
  pub other_of : (K : Kind J) (full : Bool) (s : Plain J) (why : BookFault) → StaysUnopened K full s why → why ≢ NoMemory → refused_at full K s Slot ≡ Some why
  other_of K full s why (inl same) other = absurd (other same.0)
  other_of K full s why (inr refused) other = refused

  -- a session that doesn't refuse a command isn't full
  pub room_of : (n : ℕ) (K : Kind J) (s : Plain J) (c : Command J) → refused_at (nat_le (2 ^ 20) n) K s c ≡ None → n < 2 ^ 20
  room_of n K s c free = leb-false (2 ^ 20) n (not_full (nat_le (2 ^ 20) n) free)
    where
      not_full : (b : Bool) → refused_at b K s c ≡ None → b ≡ false
      not_full true e = absurd (none-some SessionFull (sym e))
      not_full false e = refl

  -- and one that isn't full refuses as the machine does
  pub free_in : (n : ℕ) (K : Kind J) (s : Plain J) (c : Command J) → n < 2 ^ 20 → refusal K s c ≡ None → refused_at (nat_le (2 ^ 20) n) K s c ≡ None
  free_in n K s c few free = ap (λ b. refused_at b K s c) (lt-leb (2 ^ 20) n few) ∙ ap (option_map Machine) free

  not_all : (back : List (Option (Deal J))) (i : ℕ) → slice_get back i ≡ Some None → AllBack back → ⊥
  not_all [] i e all = none-some None e
  not_all (None ∷ back) i e all = all
  not_all (Some d ∷ back) zero e all = none-some d (sym (some_is (Some d) None e))
  not_all (Some d ∷ back) (suc i) e all = not_all back i e all

  -- the test whether all are back
  pub back_test : {Q : Type 0} (f : Q → Deal J) (o : Option Q) (r : Bool) (quanta : List (Deal J)) (back : List (Option (Deal J))) → MatchOption o (AllBack back) (λ q. IsMissing quanta back (f q)) → is_some o ≡ not r
      → (r ≡ true → AllBack back) × (AllBack back → r ≡ true)
  back_test f None true quanta back h e = (λ t. h, λ all. refl)
  back_test f None false quanta back h e = absurd (true≢false (sym e))
  back_test f (Some q) true quanta back h e = absurd (true≢false e)
  back_test f (Some q) false quanta back h e = (λ t. absurd (true≢false (sym t)), λ all. absurd (not_all back h.0 h.2 all))

  -- a slot that was just opened has no results
  pub answers_start : (quanta : List (Deal J)) → Answers quanta (map (λ d. None) quanta)
  answers_start [] = tt
  answers_start (q ∷ quanta) = answers_start quanta

  none_shown_of : (f : Deal J → J) (quanta : List (Deal J)) → map (option_map f) (map (λ d. None) quanta) ≡ map (λ d. None) quanta
  none_shown_of f [] = refl
  none_shown_of f (q ∷ quanta) = ap (λ l. None ∷ l) (none_shown_of f quanta)

  pub all_shown : (f : Deal J → J) (back : List (Option (Deal J))) → AllBack back → AllShown (map (option_map f) back)
  all_shown f [] h = tt
  all_shown f (None ∷ back) h = absurd h
  all_shown f (Some d ∷ back) h = all_shown f back h

  pub all_hidden : (f : Deal J → J) (back : List (Option (Deal J))) → AllShown (map (option_map f) back) → AllBack back
  all_hidden f [] h = tt
  all_hidden f (None ∷ back) h = absurd h
  all_hidden f (Some d ∷ back) h = all_hidden f back h

  module _ (K : Kind J) where
    -- a result, as the events see it
    abbrev stepped : Deal J → J
    stepped d = K.stepped d.before

    pub opening_is : (s : Plain J) (o : Dealt J) → StandsAt K s o → o.back ≡ map (λ d. None) o.quanta → shown K o ≡ opening_of K s
    opening_is s o h none =
        let row : o.row ≡ row_or_none (row_in s) = sym (ap row_or_none h.row) in
        let quanta : o.quanta ≡ deals_in K s (row_or_none (row_in s)) = h.quanta ∙ ap (deals_in K s) row in
        let back : map (option_map stepped) o.back ≡ map (λ d. None) (deals_in K s (row_or_none (row_in s))) =
        ap (map (option_map stepped)) none ∙ none_shown_of stepped o.quanta ∙ ap (map (λ d. None)) quanta in
        λ i. record { row = row i; quanta = quanta i; back = back i }

    given_all : (quanta : List (Deal J)) (back : List (Option (Deal J))) (jobs : List (Option J)) → Answers quanta back → AllBack back → given_back quanta (map (option_map stepped) back) jobs ≡ written_back K quanta jobs
    given_all [] [] jobs right all = refl
    given_all [] (b ∷ back) jobs right all = absurd right
    given_all (d ∷ quanta) [] jobs right all = absurd right
    given_all (d ∷ quanta) (None ∷ back) jobs right all = absurd all
    given_all (d ∷ quanta) (Some r ∷ back) jobs right all =
        given_all quanta back (slice_set jobs d.task (Some (stepped r))) right.1 all ∙ ap (λ (x : Deal J). written_back K quanta (slice_set jobs d.task (Some (K.stepped x.before)))) right.0

    -- the results written back are the machine's step
    pub sealed_is : (s : Plain J) (o : Dealt J) → IsState s → StandsAt K s o → Answers o.quanta o.back → AllBack o.back → sealed_in s (Some (shown K o)) ≡ state_step K s (happening_in s Slot)
    sealed_is s o state h right all =
        let row = row_or_none (row_in s) in
        let row_is : o.row ≡ row = sym (ap row_or_none h.row) in
        let apart = apart_of o.row (chosen_rises s.ledger o.row state.ledger (row_chosen s o.row h.row)) in
        let jobs : given_back o.quanta (map (option_map stepped) o.back) s.jobs ≡ jobs_step K 0 (happening_in s Slot) s.jobs =
        given_all o.quanta o.back s.jobs right all
        ∙ (ap (λ q. written_back K q s.jobs) h.quanta ∙ (written-dealt K (s.number + 1) (whole s) o.row s.jobs apart ∙ (served-slot K 0 (whole s) o.row s.jobs ∙ ap (λ (r : List ℕ). jobs_step K 0 (ran (whole s) r) s.jobs) row_is))) in
        ap (λ j. same_but o.row j) jobs ∙ ap (λ r. same_but r (jobs_step K 0 (happening_in s Slot) s.jobs)) row_is
      where
        same_but : List ℕ → List (Option J) → Plain J
        same_but row jobs = record { number = s.number + 1; from = s.from; ledger = after s.ledger (is_in row); jobs = jobs; segment = s.segment }

    -- the first quantum that is missing
    pub missing_shown : (o : Dealt J) (d : Deal J) → IsMissing o.quanta o.back d → IsFirstMissing (Some (shown K o)) d
    missing_shown o d h = (h.0, h.1, get_map (option_map stepped) o.back h.0 None h.2, λ k below there. h.3 k below (get_empty stepped o.back k there))

    pub missing_any : {Q : Type 0} (f : Q → Deal J) (o : Dealt J) (r : Option Q) → MatchOption r (AllBack o.back) (λ q. IsMissing o.quanta o.back (f q)) → MatchOption r (NoneMissing (Some (shown K o))) (λ q. IsFirstMissing (Some (shown K o)) (f q))
    missing_any f o None h = all_shown stepped o.back h
    missing_any f o (Some q) h = missing_shown o (f q) h

    -- what may be sealed has all its results
    pub ready_of : (slot : Option (Dealt J)) → ((o : Opened J) × (option_map (shown K) slot ≡ Some o) × AllShown o.back) → IsReady slot
    ready_of None m = absurd (none-some m.0 m.1)
    ready_of (Some o) m = all_hidden stepped o.back (subst (λ (v : Opened J). AllShown v.back) (sym (some_is (shown K o) m.0 m.1)) m.2)

    -- a result at its place
    pub given_shown : (o : Dealt J) (at : ℕ) (d : Deal J) (back : List (Option (Deal J))) → back ≡ slice_set o.back at (Some d) → shown K (record o { back = back }) ≡ given_in at (K.stepped d.before) (shown K o)
    given_shown o at d back is =
        let e : map (option_map stepped) back ≡ slice_set (map (option_map stepped) o.back) at (Some (stepped d)) = ap (map (option_map stepped)) is ∙ map_set (option_map stepped) o.back at (Some d) in
        λ i. record { row = o.row; quanta = o.quanta; back = e i }

    -- a result that is refused
    pub repelled_shown : (quanta : List (Deal J)) (back : List (Option (Deal J))) (d : Deal J) (fault : GatherFault) → Repels quanta d back fault → Repels quanta d (map (option_map stepped) back) fault
    repelled_shown quanta back d (Stranger task) r = r
    repelled_shown quanta back d (Double task) r = (r.0, (r.1.0, r.1.1, λ e. r.1.2 (get_empty stepped back r.1.0 e)))

    pub repelled_any : (o : Dealt J) (slot : Option (Dealt J)) (r : Result (Unit {0}) GatherFault) (d : Deal J) → slot ≡ Some o → IfErr r (λ fault. Repels o.quanta d o.back fault) → IfErr r (λ fault. IsRepelled (option_map (shown K) slot) d fault)
    repelled_any o slot (Ok u) d was p = tt
    repelled_any o slot (Err why) d was p = subst (λ (q : Option (Dealt J)). IsRepelled (option_map (shown K) q) d why) (sym was) (repelled_shown o.quanta o.back d why p)

    -- another list of results, of the same row and quanta
    pub same_but_back : (o later : Dealt J) → (later.row ≡ o.row) × (later.quanta ≡ o.quanta) → later ≡ record o { back = later.back }
    same_but_back o later same = λ i. record { row = same.0 i; quanta = same.1 i; back = later.back }

    -- a slot that took a result, or refused it, fits as before
    pub fits_given : (s : Plain J) (first marked entries places : ℕ) (o later : Dealt J) (r : Result (Unit {0}) GatherFault) (d : Deal J)
        → OnOk r (Puts o.quanta d o.back later.back (Some d)) → OnErr r (later ≡ o) → (later.row ≡ o.row) × (later.quanta ≡ o.quanta)
        → OpenFits K s first (Some o) marked entries places → OpenFits K s first (Some later) marked entries places
    fits_given s first marked entries places o later (Ok u) d put kept same h =
        let right : Answers o.quanta later.back = subst (Answers o.quanta) (sym put.3) (answers_set o.quanta o.back put.0 d put.1.0 h.4) in
        subst (λ (q : Dealt J). OpenFits K s first (Some q) marked entries places) (sym (same_but_back o later same))
        (record { number = h.0.number; row = h.0.row; quanta = h.0.quanta; accepted = h.0.accepted }, h.1, h.2, h.3, right)
    fits_given s first marked entries places o later (Err why) d put kept same h = subst (λ (q : Dealt J). OpenFits K s first (Some q) marked entries places) (sym kept) h

    -- a result that is put at its place comes back in the book that is shown
    pub came : (history : List (ℕ × Note J)) (state : Plain J) (slot : Option (Dealt J)) (taken marked clock passes opener : ℕ) (failure : Option Cause) (shut : Bool)
        (r : Result (Unit {0}) GatherFault) (o later : Dealt J) (d : Deal J) → slot ≡ Some o → OnOk r (Puts o.quanta d o.back later.back (Some d)) → (later.row ≡ o.row) × (later.quanta ≡ o.quanta)
        → OnOk r (ComesBack K d (register K history state slot taken marked clock passes opener failure shut) (register K history state (Some later) taken marked clock passes opener failure shut))
    came history state slot taken marked clock passes opener failure shut (Err why) o later d was put same = tt
    came history state slot taken marked clock passes opener failure shut (Ok u) o later d was put same =
        let at = put.0 in
        let is : shown K later ≡ given_in at (stepped d) (shown K o) = ap (shown K) (same_but_back o later same) ∙ given_shown o at d later.back put.3 in
        let opened : Some (shown K later) ≡ back_in at (stepped d) (option_map (shown K) slot) = ap Some is ∙ sym (ap (λ q. back_in at (stepped d) (option_map (shown K) q)) was) in
        (at, (shown K o, ap (option_map (shown K)) was, put.1.0, get_map (option_map stepped) o.back at None put.2), ap with_opened opened)
      where
        with_opened : Option (Opened J) → Register J
        with_opened w =
            let old = register K history state slot taken marked clock passes opener failure shut in
            record old { session = record (old.session) { opened = w } }

-- What a book shows, after each of its calls.
use Rattle.std.specs.Prelude.{option_map, is_some, nat_lt, nat_eq, not, zero, suc, ◌<◌, IsTrue, Result, Ok, Err, OnOk}
use Rattle.std.proofs.lemmas.Bool.{lt-ltb, ltb-true, eq-eqb, eqb-true, false≢true, false_from_ne_true}
use Rattle.std.proofs.Common.{◌≡◌, ℕ, ◌+◌, ◌-◌, length, arith, List, [], ◌∷◌, ◌++◌, Option, Some, None, Bool, false, refl, sym, ap, ◌∙◌, append-nil}
use Rattle.std.proofs.lemmas.Option.{none-some}
use Rattle.pfx_fault.specs.declared.fields.Cause.{Cause}
use Rattle.pfx_jobs.specs.Kind.{Kind}
use Rattle.pfx_machine.specs.Plain.{Plain}
use Rattle.pfx_machine.specs.Steps.{state_step, happening_in}
use Rattle.pfx_machine.specs.declared.command.Command.{Command}
use Rattle.pfx_machine.specs.declared.command.Reply.{Reply}
use Rattle.pfx_machine.specs.Slots.{Deal}
use Rattle.pfx_crew.specs.Gathering.{Puts}
use Rattle.pfx_crew.specs.declared.gathering.GatherFault.{GatherFault}
use Rattle.pfx_book_slot.specs.Dealt.{Dealt}
use Rattle.pfx_book_slot.proofs.Placed.{get_map}
use Rattle.pfx_machine.specs.declared.command.Command.TheVariants.{Slot}
use Rattle.pfx_events_world.specs.Session.{Session, Opened, asked, receipted, opening_of, begun, given_in, back_in, gave, sealed_in, sealed}
use Rattle.pfx_book.specs.declared.faults.BookFault.{BookFault}
use Rattle.pfx_book.specs.declared.note.Note.{Note}
use Rattle.pfx_book.specs.declared.note.Note.TheVariants.{Accepted, Refused, Receipt}
use Rattle.pfx_book.specs.Notes.{commands_of, receipts_of}
use Rattle.pfx_book.specs.Register.{Register, register, shown, HasRoom}
use Rattle.pfx_book.specs.Calls.{entered, ComesBack}
use Rattle.pfx_book.proofs.Dealing.{same_but_back, given_shown}
use Rattle.pfx_book.proofs.Notes.{commands_more, receipts_more}

pub none_shown : {J : Type 0} (K : Kind J) (o : Option (Dealt J)) → option_map (shown K) o ≡ None → o ≡ None
none_shown K None e = refl
none_shown K (Some o) e = absurd (none-some (shown K o) (sym e))

module _ {J : Type 0} (K : Kind J) (xs : List (ℕ × Note J)) (s : Plain J) (slot : Option (Dealt J)) (taken marked clock passes opener : ℕ) (failure : Option Cause) (shut : Bool) where
  -- the same with another history
  abbrev whole : List (Command J) → List (ℕ × ℕ) → Plain J → Option (Opened J) → List (ℕ × Note J) → Register J
  whole accepted receipts state opened history = record {
    session = record { accepted = accepted; state = state; opened = opened; taken = taken; marked = marked; marked_at = clock; receipts = receipts; halted = is_some failure };
    history = history;
    passes = passes;
    opener = opener;
    failure = failure;
    shut = shut;
  }

  abbrev Here : Register J
  Here = register K xs s slot taken marked clock passes opener failure shut

  pub shows_asked : (k n : ℕ) (c : Command J) (r : Reply) (t : Plain J) → t ≡ state_step K s (happening_in s c)
      → register K (xs ++ (k, Accepted n c r) ∷ []) t slot taken marked clock passes opener failure shut ≡ entered k (Accepted n c r) (asked K c Here.session) Here
  shows_asked k n c r t step =
      let e : Note J = Accepted n c r in
      λ i. whole (commands_more xs k e i) (receipts_more xs k e i) (step i) (option_map (shown K) slot) (xs ++ (k, e) ∷ [])

  pub shows_refused : (k n : ℕ) (c : Command J) (f : BookFault) (t : Plain J) → t ≡ s
      → register K (xs ++ (k, Refused n c f) ∷ []) t slot taken marked clock passes opener failure shut ≡ entered k (Refused n c f) Here.session Here
  shows_refused k n c f t still =
      let e : Note J = Refused n c f in
      λ i. whole ((commands_more xs k e ∙ append-nil (commands_of xs)) i) (receipts_more xs k e i) (still i) (option_map (shown K) slot) (xs ++ (k, e) ∷ [])

  pub shows_receipt : (k n : ℕ) → register K (xs ++ (k, Receipt n clock) ∷ []) s slot taken marked clock passes opener failure shut ≡ entered k (Receipt n clock) (receipted n Here.session) Here
  shows_receipt k n =
      let e : Note J = Receipt n clock in
      λ i. whole ((commands_more xs k e ∙ append-nil (commands_of xs)) i) (receipts_more xs k e i) s (option_map (shown K) slot) (xs ++ (k, e) ∷ [])

  -- the same with another slot, and its opener
  abbrev slotted : Plain J → Option (Opened J) → ℕ → Register J
  slotted state opened by = record {
    session = record { accepted = commands_of xs; state = state; opened = opened; taken = taken; marked = marked; marked_at = clock; receipts = receipts_of xs; halted = is_some failure };
    history = xs;
    passes = passes;
    opener = by;
    failure = failure;
    shut = shut;
  }

  pub shows_opened : (o : Dealt J) (k : ℕ) (t : Plain J) → t ≡ s → shown K o ≡ opening_of K s
      → register K xs t (Some o) taken marked clock passes k failure shut ≡ record Here { session = begun K Here.session; opener = k }
  shows_opened o k t still is = λ i. slotted (still i) (Some (is i)) k

  pub shows_gave : (o later : Dealt J) (at : ℕ) (r : J) → slot ≡ Some o → shown K later ≡ given_in at r (shown K o)
      → register K xs s (Some later) taken marked clock passes opener failure shut ≡ record Here { session = gave at r Here.session }
  shows_gave o later at r was is =
      let given : Some (shown K later) ≡ back_in at r (option_map (shown K) slot) = ap Some is ∙ ap (λ p. back_in at r (option_map (shown K) p)) (sym was) in
      λ i. slotted s (given i) opener

  -- a result that was taken
  pub shows_given : (o later : Dealt J) (r : Result (Unit {0}) GatherFault) (d : Deal J) → slot ≡ Some o → OnOk r (Puts o.quanta d o.back later.back (Some d)) → (later.row ≡ o.row) × (later.quanta ≡ o.quanta)
      → OnOk r (ComesBack K d Here (register K xs s (Some later) taken marked clock passes opener failure shut))
  shows_given o later (Ok u) d was put same =
      let now : Dealt J = record o { back = later.back } in (
        put.0,
        (shown K o, ap (option_map (shown K)) was, put.1.0, get_map (option_map (λ (x : Deal J). K.stepped x.before)) o.back put.0 None put.2),
        ap (λ (q : Dealt J). register K xs s (Some q) taken marked clock passes opener failure shut) (same_but_back K o later same)
            ∙ shows_gave o now put.0 (K.stepped d.before) was (given_shown K o put.0 d later.back put.3),
      )
  shows_given o later (Err why) d was put same = tt

  pub shows_sealed : (o : Dealt J) (k n : ℕ) (r : Reply) (t : Plain J) → slot ≡ Some o → t ≡ sealed_in s (Some (shown K o))
      → register K (xs ++ (k, Accepted n Slot r) ∷ []) t None taken marked clock passes opener failure shut ≡ entered k (Accepted n Slot r) (sealed Here.session) Here
  shows_sealed o k n r t was step =
      let e : Note J = Accepted n Slot r in
      let next : t ≡ sealed_in s (option_map (shown K) slot) = step ∙ ap (λ p. sealed_in s (option_map (shown K) p)) (sym was) in
      λ i. whole (commands_more xs k e i) (receipts_more xs k e i) (next i) None (xs ++ (k, e) ∷ [])

-- the test for room
pub room_is : {J : Type 0} (b : Session J) (number began marked : ℕ) {accepted : ℕ} → length b.accepted ≡ accepted → b.marked ≡ marked → number ≡ began + accepted
    → (IsTrue (nat_lt (number - began) (marked + 64)) → HasRoom b) × (HasRoom b → IsTrue (nat_lt (number - began) (marked + 64)))
room_is b number began marked {accepted} long same is =
    let d : number - began ≡ length b.accepted = omega (arith, is, long) in
    (λ t. let l = ltb-true (number - began) (marked + 64) t in omega (arith, l, d, same), λ r. lt-ltb (number - began) (marked + 64) (omega (arith, r, d, same)))

-- the test for what waits
pub pending_is : {J : Type 0} (b : Session J) (r : Bool) (p : ℕ) {taken accepted : ℕ} → length b.accepted ≡ accepted → b.taken ≡ taken → accepted ≡ taken + p → r ≡ nat_eq p 0
    → (IsTrue (not r) → b.taken < length b.accepted) × (b.taken < length b.accepted → IsTrue (not r))
pending_is b r zero long same is e = (λ t. absurd (false≢true (sym (ap not e) ∙ t)), λ l. absurd (omega (arith, l, long, same, is)))
pending_is b r (suc p) long same is e =
    let some : nat_eq (suc p) 0 ≡ false = false_from_ne_true (nat_eq (suc p) 0) (λ t. let z = eqb-true (suc p) 0 t in omega (arith, z)) in
    (λ t. omega (arith, long, same, is), λ l. ap not (e ∙ some))

-- the test for what isn't marked
pub settled_is : {J : Type 0} (b : Session J) (number began marked : ℕ) {accepted : ℕ} → length b.accepted ≡ accepted → b.marked ≡ marked → number ≡ began + accepted
    → (IsTrue (nat_eq (number - began) marked) → b.marked ≡ length b.accepted) × (b.marked ≡ length b.accepted → IsTrue (nat_eq (number - began) marked))
settled_is b number began marked {accepted} long same is =
    let d : number - began ≡ length b.accepted = omega (arith, is, long) in
    (λ t. let l = eqb-true (number - began) marked t in omega (arith, l, d, same), λ r. eq-eqb (number - began) marked (omega (arith, r, d, same)))

-- A single client's notes that are one longer.
use Rattle.std.specs.Prelude.{if◌then◌else◌, max, nat_le, option_map, map}
use Rattle.std.proofs.Common.{◌≡◌, ◌⊎◌, ◌≤◌, ℕ, ◌+◌, ◌^◌, List, [], ◌∷◌, ◌++◌, length, length-append, Option, None, Some, Ok, Err, Bool, true, false, refl, sym, ap, subst, ◌∙◌, arith, append_assoc, append-nil, inl, inr}
use Rattle.std.proofs.lemmas.Bool.{leb-true}
use Rattle.std.proofs.lemmas.Option.{none-some}
use Rattle.pfx_book.proofs.Notes.{greatest_more, legal_more, noted_last, number_is}
use Rattle.pfx_book.specs.Notes.{Fits, Legal, Noted, added, alone, answers_of, commands_of, greatest, is_entry, number_in, refused_at}
use Rattle.pfx_book.specs.declared.faults.BookFault.TheVariants.{Machine, SessionFull}
use Rattle.pfx_book.specs.declared.note.Note.{Note}
use Rattle.pfx_book.specs.declared.note.Note.TheVariants.{Accepted, Failed, Lost, Marked, Receipt, Refused, Took}
use Rattle.pfx_front.specs.Sole.{IsAlone, state_of}
use Rattle.pfx_machine.proofs.Compose.{outcome-outcome}
use Rattle.pfx_machine.specs.Outcome.{outcome}
use Rattle.pfx_machine.specs.Plain.{Plain}
use Rattle.pfx_machine.specs.Refusals.{refusal, reply}
use Rattle.pfx_machine.specs.Runs.{answer, answer_by}
use Rattle.pfx_machine.specs.declared.command.Command.{Command}
use Rattle.pfx_machine.specs.declared.command.Reply.{Reply}
use Rattle.pfx_machine.specs.declared.faults.MachineFault.{MachineFault}
use Rattle.pfx_front_engine.specs.Asking.{IsAnswered}
use Rattle.pfx_front_engine.specs.Keeping.{HasReceipt, IsKept, IsSettled, KeepsBy}
use Rattle.pfx_front_engine.specs.KeepingLaws.{commands_both, receipt_later}
use Rattle.pfx_jobs.specs.Kind.{Kind, Laws}

if_more : {A : Type 0} (b : Bool) (x : A) (xs ys : List A) → (if b then x ∷ (xs ++ ys) else xs ++ ys) ≡ (if b then x ∷ xs else xs) ++ ys
if_more true x xs ys = refl
if_more false x xs ys = refl

answers_more : {J : Type 0} (xs : List (Note J)) (e : Note J) → is_entry e ≡ true → answers_of (xs ++ e ∷ []) ≡ answers_of xs ++ e ∷ []
answers_more [] e is = ap (λ (b : Bool). if b then e ∷ [] else []) is
answers_more {J = J} (x ∷ xs) e is = ap (λ (l : List (Note J)). if is_entry x then x ∷ l else l) (answers_more xs e is) ∙ if_more (is_entry x) x (answers_of xs) (e ∷ [])

abbrev pub tagged : {J : Type 0} → List (Note J) → List (ℕ × Note J)
tagged xs = map (λ e. (1, e)) xs

tagged_more : {J : Type 0} (xs : List (Note J)) (e : Note J) → tagged (xs ++ e ∷ []) ≡ tagged xs ++ (1, e) ∷ []
tagged_more [] e = refl
tagged_more {J = J} (x ∷ xs) e = ap (λ (l : List (ℕ × Note J)). (1, x) ∷ l) (tagged_more xs e)

pub alone_more : {J : Type 0} (xs : List (Note J)) (e : Note J) → is_entry e ≡ true → alone (xs ++ e ∷ []) ≡ alone xs ++ (1, e) ∷ []
alone_more xs e is = ap tagged (answers_more xs e is) ∙ tagged_more (answers_of xs) e

legal_last : {J : Type 0} (K : Kind J) (B : Plain J) (H : List (Command J)) (xs : List (ℕ × Note J)) (e : Note J) → Legal K B H (xs ++ (1, e) ∷ []) → Fits K B (H ++ commands_of xs) e
legal_last K B H [] e l = subst (λ G. Fits K B G e) (sym (append-nil H)) l.0
legal_last K B H (x ∷ xs) e l = subst (λ G. Fits K B G e) (append_assoc H (added x.1) (commands_of xs)) (legal_last K B (H ++ added x.1) xs e l.1)

-- the last note is right after those before it
pub fits_last : {J : Type 0} (K : Kind J) (B : Plain J) (xs : List (Note J)) (e : Note J) → is_entry e ≡ true → IsAlone K B (xs ++ e ∷ []) → Fits K B (commands_of (alone xs)) e
fits_last K B xs e is l = legal_last K B [] (alone xs) e (subst (Legal K B []) (alone_more xs e is) l)

-- ---- what the session refuses, and what the machine does

accepted_by : {J : Type 0} (K : Kind J) (full : Bool) (s : Plain J) (c : Command J) → refused_at full K s c ≡ None → refusal K s c ≡ None
accepted_by K true s c h = absurd (none-some SessionFull (sym h))
accepted_by K false s c h = by (refusal K s c) h
  where
    by : (o : Option MachineFault) → option_map Machine o ≡ None → o ≡ None
    by None h = refl
    by (Some f) h = absurd (none-some (Machine f) (sym h))

refused_by : {J : Type 0} (K : Kind J) (full : Bool) (s : Plain J) (c : Command J) (f : MachineFault) → refused_at full K s c ≡ Some (Machine f) → refusal K s c ≡ Some f
refused_by K true s c f h = cc
refused_by K false s c f h = by (refusal K s c) h
  where
    by : (o : Option MachineFault) → option_map Machine o ≡ Some (Machine f) → o ≡ Some f
    by None h = absurd (none-some (Machine f) h)
    by (Some g) h = cc

pub answered : {J : Type 0} (K : Kind J) (B : Plain J) (xs : List (Note J)) (n : ℕ) (c : Command J) (said : Reply) → IsAlone K B (xs ++ Accepted n c said ∷ [])
    → (answer K (state_of K B xs) c ≡ Ok said) × (n ≡ (state_of K B xs).number + 1)
answered K B xs n c said l =
    let f = fits_last K B xs (Accepted n c said) refl l in
    let s = state_of K B xs in
    (ap (answer_by (reply s c)) (accepted_by K (nat_le (2 ^ 20) (length (commands_of (alone xs)))) s c f.1.0) ∙ ap Ok (sym f.1.1), f.0)

pub refused : {J : Type 0} (K : Kind J) (B : Plain J) (xs : List (Note J)) (n : ℕ) (c : Command J) (f : MachineFault) → IsAlone K B (xs ++ Refused n c (Machine f) ∷ []) → answer K (state_of K B xs) c ≡ Err f
refused K B xs n c f l =
    let s = state_of K B xs in
    ap (answer_by (reply s c)) (refused_by K (nat_le (2 ^ 20) (length (commands_of (alone xs)))) s c f (fits_last K B xs (Refused n c (Machine f)) refl l).1)

full_by : {J : Type 0} (K : Kind J) (full : Bool) (s : Plain J) (c : Command J) → refused_at full K s c ≡ Some SessionFull → full ≡ true
full_by K true s c h = refl
full_by K false s c h = by (refusal K s c) h
  where
    by : (o : Option MachineFault) → option_map Machine o ≡ Some SessionFull → false ≡ true
    by None h = absurd (none-some SessionFull h)
    by (Some g) h = cc

-- a session that is full has as many commands as it may
pub session_full : {J : Type 0} (K : Kind J) (B : Plain J) (xs : List (Note J)) (n : ℕ) (c : Command J) → IsAlone K B (xs ++ Refused n c SessionFull ∷ []) → 2 ^ 20 ≤ length (commands_of (alone xs))
session_full K B xs n c l =
    leb-true (2 ^ 20) (length (commands_of (alone xs)))
    (full_by K (nat_le (2 ^ 20) (length (commands_of (alone xs)))) (state_of K B xs) c (fits_last K B xs (Refused n c SessionFull) refl l).1)

-- ---- what is kept

-- the notes have gone on without a command
pub stays_as : {J : Type 0} (first : ℕ) (was is : List (Note J)) → alone is ≡ alone was → KeepsBy first was [] 0 is
stays_as first was is same = record { later = []; grows = same ∙ sym (append-nil (alone was)); commands = refl; receipt = inl refl }

pub stays_with : {J : Type 0} (first : ℕ) (was is : List (Note J)) (e : Note J) → added e ≡ [] → alone is ≡ alone was ++ (1, e) ∷ [] → KeepsBy first was [] 0 is
stays_with first was is e none same = record { later = (1, e) ∷ []; grows = same; commands = append-nil (added e) ∙ none; receipt = inl refl }

pub more_by : {J : Type 0} (first : ℕ) (was is : List (Note J)) (n : ℕ) (c : Command J) (said : Reply) → alone is ≡ alone was ++ (1, Accepted n c said) ∷ [] → KeepsBy first was (c ∷ []) 0 is
more_by first was is n c said same = record { later = (1, Accepted n c said) ∷ []; grows = same; commands = refl; receipt = inl refl }

-- commands without a receipt, and then others
pub grown : {J : Type 0} (first : ℕ) (a b c : List (Note J)) (H G : List (Command J)) → KeepsBy first a H 0 b → KeepsBy first b G 0 c → KeepsBy first a (H ++ G) 0 c
grown first a b c H G one two = record {
  later = one.later ++ two.later;
  grows = two.grows ∙ ap (λ l. l ++ two.later) one.grows ∙ append_assoc (alone a) one.later two.later;
  commands = commands_both one.later two.later ∙ ap (λ l. l ++ commands_of two.later) one.commands ∙ ap (λ l. H ++ l) two.commands;
  receipt = inl refl;
}

-- the commands of the notes are those that were kept, after those before
pub commands_are : {J : Type 0} (first : ℕ) (a b : List (Note J)) (H : List (Command J)) (n : ℕ) → KeepsBy first a H n b → commands_of (alone b) ≡ commands_of (alone a) ++ H
commands_are first a b H n h = ap commands_of h.grows ∙ commands_both (alone a) h.later ∙ ap (λ l. commands_of (alone a) ++ l) h.commands

pub state_is : {J : Type 0} (K : Kind J) (L : Laws K) (B : Plain J) (first : ℕ) (a b : List (Note J)) (H : List (Command J)) (n : ℕ) → KeepsBy first a H n b → state_of K B b ≡ outcome K (state_of K B a) H
state_is K L B first a b H n h = ap (outcome K B) (commands_are first a b H n h) ∙ sym (outcome-outcome K L B (commands_of (alone a)) H)

-- if all have their receipt, all of these commands have
pub all_kept : {J : Type 0} (first : ℕ) (a b : List (Note J)) (H : List (Command J)) → KeepsBy first a H 0 b → IsSettled first b → KeepsBy first a H (length H) b
all_kept {J = J} first a b H h settled = record { later = h.later; grows = h.grows; commands = h.commands; receipt = by settled }
  where
    long : length (commands_of (alone b)) ≡ length (commands_of (alone a)) + length H
    long = ap length (commands_are first a b H 0 h) ∙ length_both (commands_of (alone a)) H
      where
        length_both : (xs ys : List (Command J)) → length (xs ++ ys) ≡ length xs + length ys
        length_both [] ys = omega arith
        length_both (x ∷ xs) ys = let rest = length_both xs ys in omega (arith, rest)

    by : IsSettled first b → (length H ≡ 0) ⊎ HasReceipt b (first + (length (commands_of (alone a)) + length H))
    by (inl none) = inl (let empty : length (commands_of (alone b)) ≡ 0 = ap length none in omega (arith, long, empty))
    by (inr r) = inr (subst (λ n. HasReceipt b (first + n)) long r)

-- the last note is the receipt of all
pub settled_by : {J : Type 0} (K : Kind J) (B : Plain J) (was is : List (Note J)) (n clock : ℕ) → alone is ≡ alone was ++ (1, Receipt n clock) ∷ [] → n ≡ (state_of K B was).number → IsSettled B.number is
settled_by {J = J} K B was is n clock same high =
    let count : commands_of (alone is) ≡ commands_of (alone was) = ap commands_of same ∙ commands_both (alone was) ((1, Receipt n clock) ∷ []) ∙ append-nil (commands_of (alone was)) in
    let long = ap length count in
    let number = number_is K B (commands_of (alone was)) in
    inr (record { number = n; clock = clock; high = omega (arith, long, number, high); noted = subst (λ (l : List (ℕ × Note J)). Noted (1, Receipt n clock) l) (sym same) (noted_last (1, Receipt n clock) (alone was)) })

-- a receipt of a number that was accepted is right
pub alone_receipt : {J : Type 0} (K : Kind J) (B : Plain J) (xs : List (Note J)) (n clock : ℕ) → IsAlone K B xs → n ≤ (state_of K B xs).number → IsAlone K B (xs ++ Receipt n clock ∷ [])
alone_receipt K B xs n clock l le = subst (Legal K B []) (sym (alone_more xs (Receipt n clock) refl)) (legal_more K B [] (alone xs) 1 (Receipt n clock) l le)

-- the number of the last command is among the pass's
pub known_last : {J : Type 0} (xs : List (Note J)) (n : ℕ) (c : Command J) (said : Reply) → n ≤ greatest (xs ++ Accepted n c said ∷ [])
known_last xs n c said = let h = greatest_more xs (Accepted n c said) in omega (arith, h)

greatest_if : {J : Type 0} (x : Note J) (xs ys : List (Note J)) → greatest xs ≡ greatest ys → greatest (if is_entry x then x ∷ xs else xs) ≡ max (number_in x) (greatest ys)
greatest_if (Accepted n c r) xs ys h = ap (max n) h
greatest_if (Refused n c f) xs ys h = ap (max 0) h
greatest_if (Receipt n d) xs ys h = ap (max 0) h
greatest_if (Lost cause) xs ys h = omega (arith, h)
greatest_if (Took n records) xs ys h = ap (max 0) h
greatest_if (Marked n d) xs ys h = ap (max 0) h
greatest_if (Failed cause) xs ys h = ap (max 0) h

greatest_answers : {J : Type 0} (xs : List (Note J)) → greatest (answers_of xs) ≡ greatest xs
greatest_answers [] = refl
greatest_answers (x ∷ xs) = greatest_if x (answers_of xs) xs (greatest_answers xs)

pub greatest_same_answers : {J : Type 0} (was is : List (Note J)) → answers_of is ≡ answers_of was → greatest is ≡ greatest was
greatest_same_answers was is same = sym (greatest_answers is) ∙ ap greatest same ∙ greatest_answers was

pub settled_stays : {J : Type 0} (first : ℕ) (was is : List (Note J)) → KeepsBy first was [] 0 is → IsSettled first was → IsSettled first is
settled_stays first was is h settled = by settled
  where
    same : commands_of (alone is) ≡ commands_of (alone was)
    same = commands_are first was is [] 0 h ∙ append-nil (commands_of (alone was))

    by : IsSettled first was → IsSettled first is
    by (inl none) = inl (same ∙ none)
    by (inr r) = inr (let long = ap length same in receipt_later was is h.later _ _ h.grows (omega (arith, long)) r)

module _ {J : Type 0} (K : Kind J) (B : Plain J) (was is : List (Note J)) (number kept : ℕ) (h : IsKept K B was number kept) where
  -- the number up to which there was a receipt still has one
  held_later : (later : List (ℕ × Note J)) → alone is ≡ alone was ++ later → (kept ≡ B.number) ⊎ HasReceipt is kept
  held_later later grows = by h.held
    where
      by : (kept ≡ B.number) ⊎ HasReceipt was kept → (kept ≡ B.number) ⊎ HasReceipt is kept
      by (inl start) = inl start
      by (inr r) = inr (receipt_later was is later kept kept grows (omega arith) r)

  -- what the engine's type keeps, if no command came
  pub kept_later : IsAlone K B is → KeepsBy B.number was [] 0 is → greatest was ≤ greatest is → IsKept K B is number kept
  kept_later l stays rises = record {
    is_alone = l;
    number_is = h.number_is ∙ ap (λ (H : List (Command J)). (outcome K B H).number) (sym (commands_are B.number was is [] 0 stays ∙ append-nil (commands_of (alone was))));
    low = h.low;
    held = held_later stays.later stays.grows;
    known = λ behind. let k = h.known behind in (k.0, (let top = k.1 in omega (arith, top, rises)));
    settled = λ all. settled_stays B.number was is stays (h.settled all);
  }

  pub kept_lost : answers_of is ≡ answers_of was → IsKept K B is number kept
  kept_lost same =
      let top = greatest_same_answers was is same in
      kept_later (subst (λ (l : List (Note J)). Legal K B [] (tagged l)) (sym same) h.is_alone) (stays_as B.number was is (ap tagged same)) (omega (arith, top))

  pub kept_receipt : (clock : ℕ) → is ≡ was ++ Receipt number clock ∷ [] → IsKept K B is number number
  kept_receipt clock same =
      let at : alone is ≡ alone was ++ (1, Receipt number clock) ∷ [] = ap alone same ∙ alone_more was (Receipt number clock) refl in
      let here = h.number_is in
      record {
        is_alone = subst (λ (l : List (Note J)). IsAlone K B l) (sym same) (alone_receipt K B was number clock h.is_alone (omega (arith, here)));
        number_is = h.number_is ∙ ap (λ (H : List (Command J)). (outcome K B H).number) (sym (ap commands_of at ∙ commands_both (alone was) ((1, Receipt number clock) ∷ []) ∙ append-nil (commands_of (alone was))));
        low = omega arith;
        held = inr (record { number = number; clock = clock; high = omega arith; noted = subst (λ (l : List (ℕ × Note J)). Noted (1, Receipt number clock) l) (sym at) (noted_last (1, Receipt number clock) (alone was)) });
        known = λ behind. absurd (behind refl);
        settled = λ _. settled_by K B was is number clock at h.number_is;
      }

  pub kept_answered : (c : Command J) (n : ℕ) (said : Reply) → IsAlone K B is → IsAnswered K B was c n said is → IsKept K B is n kept
  kept_answered c n said l a =
      let before = number_is K B (commands_of (alone was)) in
      let now = number_is K B (commands_of (alone is)) in
      let long : length (commands_of (alone is)) ≡ length (commands_of (alone was) ++ c ∷ []) = ap (λ v. length (commands_of v)) a.noted ∙ ap length (commands_both (alone was) ((1, Accepted n c said) ∷ [])) in
      let more : length (commands_of (alone was) ++ c ∷ []) ≡ length (commands_of (alone was)) + 1 = length-append (commands_of (alone was)) (c ∷ []) in
      let next = a.next in
      let low = h.low in
      let at = h.number_is in
      record {
        is_alone = l;
        number_is = omega (arith, before, now, long, more, next);
        low = omega (arith, low, at, next);
        held = held_later ((1, Accepted n c said) ∷ []) a.noted;
        known = λ _. (omega (arith, next), a.known);
        settled = λ all. absurd (omega (arith, all, low, at, next));
      }

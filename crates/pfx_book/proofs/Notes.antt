-- Notes and sessions that are one longer.
use Rattle.std.specs.Prelude.{◌⊎◌, if◌then◌else◌, ◌==◌, unwrap_or, option_map, is_some, nat_le}
use Rattle.std.proofs.Common.{◌≡◌, ℕ, suc, ◌+◌, ◌≤◌, ◌^◌, max, List, [], ◌∷◌, ◌++◌, length, Option, Some, None, Bool, true, false, refl, sym, ap, ◌∙◌, subst, arith, append_assoc, append-nil, length-append, inl, inr}
use Rattle.std.proofs.lemmas.Bool.{eqb-true, false≢true}
use Rattle.std.proofs.lemmas.Option.{none-some, same_Some}
use Rattle.pfx_jobs.specs.Kind.{Kind}
use Rattle.pfx_machine.specs.Plain.{Plain}
use Rattle.pfx_machine.specs.Happenings.{happening, happenings_behind, happenings}
use Rattle.pfx_machine.specs.declared.plain.Happening.{Happening}
use Rattle.pfx_machine.specs.Outcome.{outcome}
use Rattle.pfx_machine.specs.Refusals.{refusal}
use Rattle.pfx_machine.specs.Sessions.{AllAccepted}
use Rattle.pfx_machine.specs.declared.command.Command.{Command}
use Rattle.pfx_machine.specs.declared.faults.MachineFault.{MachineFault}
use Rattle.pfx_record.specs.Records.{Recorded}
use Rattle.pfx_record_redo.specs.Recording.{records_of}
use Rattle.pfx_book.specs.Merging.{of}
use Rattle.pfx_book.specs.declared.faults.BookFault.TheVariants.{SessionFull, Machine}
use Rattle.pfx_book.specs.declared.note.Loss.{Loss}
use Rattle.pfx_book.specs.declared.note.Note.{Note}
use Rattle.pfx_book.specs.declared.note.Note.TheVariants.{Accepted, Refused, Receipt, Lost, Took, Marked, Failed}
use Rattle.pfx_book.specs.declared.line.Line.{Line}
use Rattle.pfx_book.specs.declared.line.Line.TheVariants as line
use Rattle.pfx_book.specs.Notes.{Noted, IsRested, added, commands_of, receipt_in, receipts_of, refused_at, Fits, Legal, number_in, greatest, lost_or, lost_in, taken_in, records_in, Backed, AllBacked, is_entry, entries_of}
use Rattle.pfx_book.specs.Lines.{pass_of, IsOf, said_of, entry_of, told}
use Rattle.pfx_book.proofs.Merges.{behind}

pub noted_more : {A : Type 0} (x : A) (xs ys : List A) → Noted x xs → Noted x (xs ++ ys)
noted_more x [] ys h = absurd h
noted_more x (y ∷ xs) ys (inl same) = inl same
noted_more x (y ∷ xs) ys (inr h) = inr (noted_more x xs ys h)

pub noted_last : {A : Type 0} (x : A) (xs : List A) → Noted x (xs ++ x ∷ [])
noted_last x [] = inl refl
noted_last x (y ∷ xs) = inr (noted_last x xs)

-- what is noted in a list that is one longer
pub noted_split : {A : Type 0} (x : A) (xs : List A) (y : A) → Noted x (xs ++ y ∷ []) → Noted x xs ⊎ (y ≡ x)
noted_split x [] y (inl same) = inr same
noted_split x [] y (inr h) = absurd h
noted_split x (z ∷ zs) y (inl same) = inl (inl same)
noted_split x (z ∷ zs) y (inr h) = elim (noted_split x zs y h) [ inl l ↦ inl (inr l) | inr r ↦ inr r ]

pub none_is : {A : Type 0} (o : Option A) → is_some o ≡ false → o ≡ None
none_is None e = refl
none_is (Some x) e = absurd (false≢true (sym e))

-- what isn't refused by the session isn't refused by the machine
machine_none : (o : Option MachineFault) → option_map Machine o ≡ None → o ≡ None
machine_none None e = refl
machine_none (Some f) e = absurd (none-some (Machine f) (sym e))

module _ {J : Type 0} where
  happened_long : (B : Plain J) (happened : List (Happening J)) (H : List (Command J)) → length (happenings_behind B happened H) ≡ length happened + length H
  happened_long B happened [] = omega arith
  happened_long B happened (c ∷ H) = happened_long B (happened ++ happening B happened c ∷ []) H ∙ omega (arith, length-append happened (happening B happened c ∷ []))

  pub number_is : (K : Kind J) (B : Plain J) (H : List (Command J)) → (outcome K B H).number ≡ B.number + length H
  number_is K B H =
      let long : length (happenings B H) ≡ length H = happened_long B [] H ∙ omega arith in
      ap (λ n. B.number + n) long

  pub records_long : (K : Kind J) (s : Plain J) (H : List (Command J)) → length (records_of K s H) ≡ length H
  records_long K s [] = refl
  records_long K s (c ∷ H) = ap suc (records_long K (outcome K s (c ∷ [])) H)

  pub commands_more : (xs : List (ℕ × Note J)) (k : ℕ) (e : Note J) → commands_of (xs ++ (k, e) ∷ []) ≡ commands_of xs ++ added e
  commands_more [] k e = append-nil (added e)
  commands_more (x ∷ xs) k e = ap (λ l. added x.1 ++ l) (commands_more xs k e) ∙ sym (append_assoc (added x.1) (commands_of xs) (added e))

  pub receipts_more : (xs : List (ℕ × Note J)) (k : ℕ) (e : Note J) → receipts_of (xs ++ (k, e) ∷ []) ≡ receipt_in e ++ receipts_of xs
  receipts_more [] k e = sym (append-nil (receipt_in e))
  receipts_more (x ∷ xs) k e = ap (λ l. l ++ receipt_in x.1) (receipts_more xs k e) ∙ append_assoc (receipt_in e) (receipts_of xs) (receipt_in x.1)

  pub legal_more : (K : Kind J) (B : Plain J) (H : List (Command J)) (xs : List (ℕ × Note J)) (k : ℕ) (e : Note J) → Legal K B H xs → Fits K B (H ++ commands_of xs) e → Legal K B H (xs ++ (k, e) ∷ [])
  legal_more K B H [] k e l f = (subst (λ G. Fits K B G e) (append-nil H) f, tt)
  legal_more K B H (x ∷ xs) k e l f = (l.0, legal_more K B (H ++ added x.1) xs k e l.1 (subst (λ G. Fits K B G e) (sym (append_assoc H (added x.1) (commands_of xs))) f))

  -- the greatest number of a list that is one longer
  pub greatest_more : (xs : List (Note J)) (e : Note J) → greatest (xs ++ e ∷ []) ≡ max (greatest xs) (number_in e)
  greatest_more [] e = omega arith
  greatest_more (x ∷ xs) e = let h = greatest_more xs e in omega (arith, h)

  -- a list with no number more has the same greatest one
  pub greatest_same : (xs : List (Note J)) (e : Note J) → number_in e ≡ 0 → greatest (xs ++ e ∷ []) ≡ greatest xs
  greatest_same xs e none = greatest_more xs e ∙ omega (arith, none)

  pub lost_more : (xs : List (Note J)) (e : Note J) → lost_or e None ≡ None → lost_in (xs ++ e ∷ []) ≡ lost_in xs
  lost_more [] e none = none
  lost_more (x ∷ xs) e none = ap (lost_or x) (lost_more xs e none)

  only_or : (e : Note J) (rest : Option Loss) (loss : Loss) → lost_or e rest ≡ None → lost_or e (Some loss) ≡ Some loss
  only_or (Lost other) rest loss none = absurd (none-some other (sym none))
  only_or (Accepted n c r) rest loss none = refl
  only_or (Refused n c f) rest loss none = refl
  only_or (Receipt n d) rest loss none = refl
  only_or (Took n records) rest loss none = refl
  only_or (Marked n d) rest loss none = refl
  only_or (Failed other) rest loss none = refl

  rest_or : (e : Note J) (rest : Option Loss) → lost_or e rest ≡ None → rest ≡ None
  rest_or (Lost other) rest none = absurd (none-some other (sym none))
  rest_or (Accepted n c r) rest none = none
  rest_or (Refused n c f) rest none = none
  rest_or (Receipt n d) rest none = none
  rest_or (Took n records) rest none = none
  rest_or (Marked n d) rest none = none
  rest_or (Failed other) rest none = none

  -- the first loss of a list that had none
  pub lost_first : (xs : List (Note J)) (loss : Loss) → lost_in xs ≡ None → lost_in (xs ++ Lost loss ∷ []) ≡ Some loss
  lost_first [] loss none = refl
  lost_first (x ∷ xs) loss none = ap (lost_or x) (lost_first xs loss (rest_or x (lost_in xs) none)) ∙ only_or x (lost_in xs) loss none

  -- a loss that is told of is noted
  pub lost_noted : (xs : List (Note J)) (loss : Loss) → lost_in xs ≡ Some loss → Noted (Lost loss) xs
  lost_noted [] loss is = absurd (none-some loss is)
  lost_noted (Lost other ∷ xs) loss is = inl (ap Lost (same_Some other loss is))
  lost_noted (Accepted n c r ∷ xs) loss is = inr (lost_noted xs loss is)
  lost_noted (Refused n c f ∷ xs) loss is = inr (lost_noted xs loss is)
  lost_noted (Receipt n d ∷ xs) loss is = inr (lost_noted xs loss is)
  lost_noted (Took n records ∷ xs) loss is = inr (lost_noted xs loss is)
  lost_noted (Marked n d ∷ xs) loss is = inr (lost_noted xs loss is)
  lost_noted (Failed cause ∷ xs) loss is = inr (lost_noted xs loss is)

  one_of : (b : Bool) (k : ℕ) (e : Note J) (x : ℕ × Note J) (rest : List (Note J)) (all : List (ℕ × Note J)) → (b ≡ true → k ≡ x.0)
      → (Noted e rest → Noted (k, e) all) → Noted e (if b then x.1 ∷ rest else rest) → Noted (k, e) (x ∷ all)
  one_of true k e x rest all same more (inl is) = inl (λ i. (sym (same refl) i, is i))
  one_of true k e x rest all same more (inr later) = inr (more later)
  one_of false k e x rest all same more later = inr (more later)

  -- what one pass notes is among the notes of all
  pub noted_of : (k : ℕ) (e : Note J) (xs : List (ℕ × Note J)) → Noted e (of k xs) → Noted (k, e) xs
  noted_of k e [] h = absurd h
  noted_of k e (x ∷ xs) h = one_of (k == x.0) k e x (of k xs) xs (eqb-true k x.0) (noted_of k e xs) h

  one_bound : (K : Kind J) (B : Plain J) (H : List (Command J)) (e : Note J) → Fits K B H e → number_in e ≤ B.number + length (H ++ added e)
  one_bound K B H (Accepted n c r) f = let h = f.0 in omega (arith, h, number_is K B H, length-append H (c ∷ []))
  one_bound K B H (Refused n c g) f = omega arith
  one_bound K B H (Receipt n d) f = omega arith
  one_bound K B H (Lost loss) f = omega arith
  one_bound K B H (Took n records) f = omega arith
  one_bound K B H (Marked n d) f = omega arith
  one_bound K B H (Failed cause) f = omega arith

  picked : (b : Bool) (e : Note J) (xs : List (Note J)) (n : ℕ) → number_in e ≤ n → greatest xs ≤ n → greatest (if b then e ∷ xs else xs) ≤ n
  picked true e xs n h t = omega (arith, h, t)
  picked false e xs n h t = t

  -- of legal notes each number is at most the last
  pub bounded : (K : Kind J) (B : Plain J) (k : ℕ) (H : List (Command J)) (xs : List (ℕ × Note J)) → Legal K B H xs → greatest (of k xs) ≤ B.number + length (H ++ commands_of xs)
  bounded K B k H [] l = omega arith
  bounded K B k H (x ∷ xs) l =
      let one = one_bound K B H x.1 l.0 in
      let rest = bounded K B k (H ++ added x.1) xs l.1 in
      let long : length (H ++ commands_of (x ∷ xs)) ≡ length ((H ++ added x.1) ++ commands_of xs) = ap length (sym (append_assoc H (added x.1) (commands_of xs))) in
      let split = length-append (H ++ added x.1) (commands_of xs) in
      picked (k == x.0) x.1 (of k xs) (B.number + length (H ++ commands_of (x ∷ xs))) (omega (arith, one, long, split)) (omega (arith, rest, long))

  -- entries alone
  pub entries_more : (xs : List (ℕ × Note J)) (k : ℕ) (e : Note J) → is_entry e ≡ true → entries_of (xs ++ (k, e) ∷ []) ≡ entries_of xs ++ (k, e) ∷ []
  entries_more [] k e is = ap (λ (b : Bool). if b then (k, e) ∷ [] else []) is
  entries_more (x ∷ xs) k e is = ap (λ (r : List (ℕ × Note J)). if is_entry x.1 then x ∷ r else r) (entries_more xs k e is) ∙ behind (is_entry x.1) x (entries_of xs) (k, e)

  pub entries_else : (xs : List (ℕ × Note J)) (k : ℕ) (e : Note J) → is_entry e ≡ false → entries_of (xs ++ (k, e) ∷ []) ≡ entries_of xs
  entries_else [] k e is = ap (λ (b : Bool). if b then (k, e) ∷ [] else []) is
  entries_else (x ∷ xs) k e is = ap (λ (r : List (ℕ × Note J)). if is_entry x.1 then x ∷ r else r) (entries_else xs k e is)

  skipped : (k : ℕ) (e : Note J) (rest : List (ℕ × Note J)) → commands_of (if is_entry e then (k, e) ∷ rest else rest) ≡ added e ++ commands_of rest
  skipped k (Accepted n c r) rest = refl
  skipped k (Refused n c f) rest = refl
  skipped k (Receipt n d) rest = refl
  skipped k (Lost loss) rest = refl
  skipped k (Took n records) rest = refl
  skipped k (Marked n d) rest = refl
  skipped k (Failed cause) rest = refl

  pub commands_entries : (xs : List (ℕ × Note J)) → commands_of (entries_of xs) ≡ commands_of xs
  commands_entries [] = refl
  commands_entries (x ∷ xs) = skipped x.0 x.1 (entries_of xs) ∙ ap (λ l. added x.1 ++ l) (commands_entries xs)

  kept_legal : (K : Kind J) (B : Plain J) (H : List (Command J)) (k : ℕ) (e : Note J) (rest : List (ℕ × Note J)) → Fits K B H e → Legal K B (H ++ added e) rest → Legal K B H (if is_entry e then (k, e) ∷ rest else rest)
  kept_legal K B H k (Accepted n c r) rest f l = (f, l)
  kept_legal K B H k (Refused n c g) rest f l = (f, l)
  kept_legal K B H k (Receipt n d) rest f l = (f, l)
  kept_legal K B H k (Lost loss) rest f l = subst (λ G. Legal K B G rest) (append-nil H) l
  kept_legal K B H k (Took n records) rest f l = absurd f
  kept_legal K B H k (Marked n d) rest f l = absurd f
  kept_legal K B H k (Failed cause) rest f l = absurd f

  pub legal_entries : (K : Kind J) (B : Plain J) (H : List (Command J)) (xs : List (ℕ × Note J)) → Legal K B H xs → Legal K B H (entries_of xs)
  legal_entries K B H [] l = tt
  legal_entries K B H (x ∷ xs) l = kept_legal K B H x.0 x.1 (entries_of xs) l.0 (legal_entries K B (H ++ added x.1) xs l.1)

  -- lines
  told_last : (K : Kind J) (B : Plain J) (H : List (Command J)) (xs : List (Line J)) (x : Line J)
      → told K B H (xs ++ x ∷ []) ≡ told K B H xs ++ (pass_of x, entry_of K B (H ++ commands_of (told K B H xs)) x) ∷ []
  told_last K B H [] x = λ i. (pass_of x, entry_of K B (sym (append-nil H) i) x) ∷ []
  told_last K B H (y ∷ ys) x =
      let e = entry_of K B H y in
      ap (λ l. (pass_of y, e) ∷ l) (told_last K B (H ++ added e) ys x
      ∙ ap (λ G. told K B (H ++ added e) ys ++ (pass_of x, entry_of K B G x) ∷ []) (append_assoc H (added e) (commands_of (told K B (H ++ added e) ys))))

  is_pass : (p : ℕ) (r : Bool) (c : Command J) (l : Line J) → IsOf p r c l → pass_of l ≡ p
  is_pass p r c (line.Submit pass refused task job) h = h.0
  is_pass p r c (line.Slot pass refused) h = h.0
  is_pass p r c (line.Withdraw pass refused task) h = h.0
  is_pass p r c (line.Reweigh pass refused workers weights) h = h.0
  is_pass p r c (line.Receipt pass number clock) h = absurd h

  is_said : (K : Kind J) (B : Plain J) (H : List (Command J)) (p : ℕ) (r : Bool) (c : Command J) (l : Line J) → IsOf p r c l → entry_of K B H l ≡ said_of K B H r c
  is_said K B H p r c (line.Submit pass refused task job) h = λ i. said_of K B H (h.1 i) (h.2 i)
  is_said K B H p r c (line.Slot pass refused) h = λ i. said_of K B H (h.1 i) (h.2 i)
  is_said K B H p r c (line.Withdraw pass refused task) h = λ i. said_of K B H (h.1 i) (h.2 i)
  is_said K B H p r c (line.Reweigh pass refused workers weights) h = λ i. said_of K B H (h.1 i) (h.2 i)
  is_said K B H p r c (line.Receipt pass number clock) h = absurd h

  module _ (K : Kind J) (B : Plain J) (xs : List (Line J)) (p : ℕ) (c : Command J) (l : Line J) (n : ℕ) where
    -- a line more, of an accepted command that is right there
    pub told_accepted : (r : _) → IsOf p false c l → Fits K B (commands_of (told K B [] xs)) (Accepted n c r) → told K B [] (xs ++ l ∷ []) ≡ told K B [] xs ++ (p, Accepted n c r) ∷ []
    told_accepted r is f =
        let H = commands_of (told K B [] xs) in
        let said = is_said K B H p false c l is in
        told_last K B [] xs l ∙ (λ i. told K B [] xs ++ (is_pass p false c l is i, (said ∙ (λ j. Accepted (sym f.0 j) c (sym f.1.1 j))) i) ∷ [])

    -- the same of a refused one
    pub told_refused : (g : _) → IsOf p true c l → Fits K B (commands_of (told K B [] xs)) (Refused n c g) → told K B [] (xs ++ l ∷ []) ≡ told K B [] xs ++ (p, Refused n c g) ∷ []
    told_refused g is f =
        let H = commands_of (told K B [] xs) in
        let said = is_said K B H p true c l is in
        told_last K B [] xs l ∙ (λ i. told K B [] xs ++ (is_pass p true c l is i, (said ∙ (λ j. Refused (sym f.0 j) c (unwrap_or (f.1 j) SessionFull))) i) ∷ [])

  -- a receipt's line
  pub told_receipt : (K : Kind J) (B : Plain J) (xs : List (Line J)) (p n d : ℕ) → told K B [] (xs ++ line.Receipt p n d ∷ []) ≡ told K B [] xs ++ (p, Receipt n d) ∷ []
  told_receipt K B xs p n d = told_last K B [] xs (line.Receipt p n d)

  -- what was taken
  pub records_more : (xs ys : List (Note J)) → records_in (xs ++ ys) ≡ records_in xs ++ records_in ys
  records_more [] ys = refl
  records_more (x ∷ xs) ys = ap (λ l. taken_in x ++ l) (records_more xs ys) ∙ sym (append_assoc (taken_in x) (records_in xs) (records_in ys))

  -- a mark of all that was taken
  pub rested_marked : (first : ℕ) (notes : List (Note J)) (number clock : ℕ) → number ≡ first + length (records_in notes) → IsRested first (notes ++ Marked number clock ∷ [])
  rested_marked first notes number clock is =
      let e : Note J = Marked number clock in
      let still : records_in (notes ++ e ∷ []) ≡ records_in notes = records_more notes (e ∷ []) ∙ append-nil (records_in notes) in
      (clock, subst (λ m. Noted (Marked m clock) (notes ++ e ∷ [])) (is ∙ ap (λ (l : List (Recorded J)). first + length l) (sym still)) (noted_last e notes))

  -- what is backed stays so
  backed_more : (xs ys : List (Note J)) (e : Note J) → Backed xs e → Backed (xs ++ ys) e
  backed_more xs ys (Receipt n d) h = (h.0, h.1, noted_more (Marked h.0 d) xs ys h.2)
  backed_more xs ys (Lost loss) h = noted_more (Failed loss.cause) xs ys h
  backed_more xs ys (Accepted n c r) h = tt
  backed_more xs ys (Refused n c f) h = tt
  backed_more xs ys (Took n records) h = tt
  backed_more xs ys (Marked n d) h = tt
  backed_more xs ys (Failed cause) h = tt

  pub all_backed_more : (xs ys : List (Note J)) (all : List (ℕ × Note J)) → AllBacked xs all → AllBacked (xs ++ ys) all
  all_backed_more xs ys [] h = tt
  all_backed_more xs ys (x ∷ all) h = (backed_more xs ys x.1 h.0, all_backed_more xs ys all h.1)

  pub all_backed_last : (xs : List (Note J)) (all : List (ℕ × Note J)) (k : ℕ) (e : Note J) → AllBacked xs all → Backed xs e → AllBacked xs (all ++ (k, e) ∷ [])
  all_backed_last xs [] k e h b = (b, tt)
  all_backed_last xs (x ∷ all) k e h b = (h.0, all_backed_last xs all k e h.1 b)

  kept_backed : (notes : List (Note J)) (k : ℕ) (e : Note J) (rest : List (ℕ × Note J)) → Backed notes e → AllBacked notes rest → AllBacked notes (if is_entry e then (k, e) ∷ rest else rest)
  kept_backed notes k (Accepted n c r) rest b l = (b, l)
  kept_backed notes k (Refused n c g) rest b l = (b, l)
  kept_backed notes k (Receipt n d) rest b l = (b, l)
  kept_backed notes k (Lost loss) rest b l = l
  kept_backed notes k (Took n records) rest b l = (b, l)
  kept_backed notes k (Marked n d) rest b l = (b, l)
  kept_backed notes k (Failed cause) rest b l = (b, l)

  pub backed_entries : (notes : List (Note J)) (all : List (ℕ × Note J)) → AllBacked notes all → AllBacked notes (entries_of all)
  backed_entries notes [] h = tt
  backed_entries notes (x ∷ all) h = kept_backed notes x.0 x.1 (entries_of all) h.0 (backed_entries notes all h.1)

  pub free_of : (b : Bool) (K : Kind J) (s : Plain J) (c : Command J) → refused_at b K s c ≡ None → refusal K s c ≡ None
  free_of true K s c e = absurd (none-some SessionFull (sym e))
  free_of false K s c e = machine_none (refusal K s c) e

  one_accepted : (K : Kind J) (B : Plain J) (H : List (Command J)) (e : Note J) (G : List (Command J)) → Fits K B H e → AllAccepted K B (H ++ added e) G → AllAccepted K B H (added e ++ G)
  one_accepted K B H (Accepted n c r) G f a = (free_of (nat_le (2 ^ 20) (length H)) K (outcome K B H) c f.1.0, a)
  one_accepted K B H (Refused n c g) G f a = subst (λ l. AllAccepted K B l G) (append-nil H) a
  one_accepted K B H (Receipt n d) G f a = subst (λ l. AllAccepted K B l G) (append-nil H) a
  one_accepted K B H (Lost loss) G f a = subst (λ l. AllAccepted K B l G) (append-nil H) a
  one_accepted K B H (Took n records) G f a = absurd f
  one_accepted K B H (Marked n d) G f a = absurd f
  one_accepted K B H (Failed cause) G f a = absurd f

  pub all_accepted : (K : Kind J) (B : Plain J) (H : List (Command J)) (xs : List (ℕ × Note J)) → Legal K B H xs → AllAccepted K B H (commands_of xs)
  all_accepted K B H [] l = tt
  all_accepted K B H (x ∷ xs) l = one_accepted K B H x.1 (commands_of xs) l.0 (all_accepted K B (H ++ added x.1) xs l.1)

-- The entry of a command that was tried.
use Rattle.std.specs.Prelude.{nat_le, slice_get}
use Rattle.std.proofs.Common.{◌≡◌, ℕ, ◌+◌, ◌-◌, ◌<◌, ◌^◌, List, [], ◌∷◌, ◌++◌, length, set, Bool, true, false, Option, Some, None, refl, sym, ◌∙◌, ap, subst, arith, length-append}
use Rattle.pfx_fault.specs.declared.fields.Cause.{Cause}
use Rattle.pfx_record.specs.Records.{Recorded}
use Rattle.pfx_record_redo.specs.Recording.{record_of, records_of}
use Rattle.pfx_jobs.specs.Kind.{Kind, Laws}
use Rattle.pfx_machine.specs.Plain.{Plain}
use Rattle.pfx_machine.specs.Outcome.{outcome}
use Rattle.pfx_machine.specs.Refusals.{reply}
use Rattle.pfx_machine.specs.Steps.{state_step, happening_in}
use Rattle.pfx_machine.specs.declared.command.Command.{Command}
use Rattle.pfx_machine.specs.declared.command.Reply.{Reply}
use Rattle.pfx_machine.proofs.Compose.{outcome-none}
use Rattle.pfx_machine.proofs.Snoc.{outcome-snoc}
use Rattle.pfx_book.specs.declared.faults.BookFault.{BookFault}
use Rattle.pfx_book.specs.declared.note.Note.{Note}
use Rattle.pfx_book.specs.declared.note.Note.TheVariants.{Accepted, Refused}
use Rattle.pfx_book.specs.declared.line.Line.{Line}
use Rattle.pfx_book.specs.Notes.{Fits, refused_at, commands_of, greatest}
use Rattle.pfx_book.specs.Lines.{IsOf, told}
use Rattle.pfx_book.specs.Kept.{IsKept}
use Rattle.pfx_book.proofs.Notes.{number_is, told_accepted, told_refused}
use Rattle.pfx_book.proofs.Keeping.{below, kept_entry, kept_answer, outcome_is, state_number}
use Rattle.pfx_book.proofs.Taking.{record_next}

-- one command more is one step
pub one_step : {J : Type 0} (K : Kind J) (L : Laws K) (s t : Plain J) (c : Command J) → ((B : Plain J) → (H : List (Command J)) → s ≡ outcome K B H → t ≡ outcome K B (H ++ c ∷ [])) → t ≡ state_step K s (happening_in s c)
one_step K L s t c next =
    let none = outcome-none K s in
    next s [] (sym none) ∙ outcome-snoc K L s [] c ∙ ap (λ v. state_step K v (happening_in v c)) none

module _ {J : Type 0} (K : Kind J) (B : Plain J) (H : List (Command J)) (s t : Plain J) (full : Bool) (c : Command J) where
  pub fits_refused : (copy : Command J) (f : BookFault) (n : ℕ) → s ≡ outcome K B H → full ≡ nat_le (2 ^ 20) (length H) → copy ≡ c → refused_at full K s c ≡ Some f → t ≡ s → n ≡ t.number → Fits K B H (Refused n copy f)
  fits_refused copy f n at full_is same refused still is =
      (is ∙ ap (λ (u : Plain J). u.number) (still ∙ at), (λ i. refused_at (sym full_is i) K (sym at i) (same i)) ∙ refused)

  -- the number after one command more
  pub number_next : (n : ℕ) → s ≡ outcome K B H → t ≡ outcome K B (H ++ c ∷ []) → n ≡ t.number → n ≡ s.number + 1
  number_next n at next is =
      let a = number_is K B H in
      let b = number_is K B (H ++ c ∷ []) in
      let x : s.number ≡ (outcome K B H).number = ap (λ (u : Plain J). u.number) at in
      let y : t.number ≡ (outcome K B (H ++ c ∷ [])).number = ap (λ (u : Plain J). u.number) next in
      let z = length-append H (c ∷ []) in
      omega (arith, a, b, x, y, z, is)

  pub fits_accepted : (copy : Command J) (said : Reply) (n : ℕ) → s ≡ outcome K B H → full ≡ nat_le (2 ^ 20) (length H) → copy ≡ c → refused_at full K s c ≡ None → said ≡ reply s c → t ≡ outcome K B (H ++ c ∷ []) → n ≡ t.number → Fits K B H (Accepted n copy said)
  fits_accepted copy said n at full_is same accepted says next is =
      let x : s.number ≡ (outcome K B H).number = ap (λ (u : Plain J). u.number) at in
      let m = number_next n at next is in
      (omega (arith, m, x), ((λ i. refused_at (sym full_is i) K (sym at i) (same i)) ∙ accepted, says ∙ (λ i. reply (at i) (sym same i))))

module _ {J : Type 0} (K : Kind J) (L : Laws K) (B : Plain J) (lines : List (Line J)) (lists : List (List (Note J))) (n : ℕ) (s : Plain J) (pend : List (Recorded J)) (taken marked clock : ℕ) (failure : Option Cause) (k : ℕ) (mine : List (Note J)) where
  -- the session as it is
  abbrev Before : List (ℕ × Note J)
  Before = told K B [] lines

  abbrev Now : Type 0
  Now = IsKept K B Before lists n s pend taken marked clock failure

  -- an accepted command's line, and the book with it
  pub accepts : (h : Now) → slice_get lists k ≡ Some mine → 0 < k → (c copy : Command J) (said : Reply) (number : ℕ) (t : Plain J) (entry : Recorded J) (line : Line J) (full : Bool)
      → full ≡ nat_le (2 ^ 20) (length (commands_of Before)) → copy ≡ c → refused_at full K s c ≡ None → said ≡ reply s c → entry ≡ record_of K s c
      → t ≡ outcome K B (commands_of Before ++ c ∷ []) → number ≡ t.number → IsOf k false copy line → length (commands_of Before) < marked + 64
      → (told K B [] (lines ++ line ∷ []) ≡ Before ++ (k, Accepted number copy said) ∷ [])
      × IsKept K B (told K B [] (lines ++ line ∷ [])) (set lists k (mine ++ Accepted number copy said ∷ [])) n t (pend ++ entry ∷ []) taken marked clock failure
      × (greatest mine < number) × (number ≡ s.number + 1)
  accepts h at pos c copy said number t entry line full full_is same free says is next num of_line room =
      let H = commands_of Before in
      let e : Note J = Accepted number copy said in
      let here = outcome_is K B Before lists n s pend taken marked clock failure h in
      let fit : Fits K B H e = fits_accepted K B H s t full c copy said number here full_is same free says next num in
      let shown = told_accepted K B lines k copy line number said of_line fit in
      let records : records_of K B (H ++ copy ∷ []) ≡ records_of K B H ++ entry ∷ [] =
      record_next K L B H copy ∙ (λ i. records_of K B H ++ (ap (λ (v : Plain J). record_of K v copy) (sym here) ∙ ap (record_of K s) same ∙ sym is) i ∷ []) in
      let kept = kept_entry K B Before lists n s pend taken marked clock failure h k mine e t (entry ∷ []) at pos refl fit (next ∙ ap (λ d. outcome K B (H ++ d ∷ [])) (sym same)) records (omega (arith, room)) tt in
      let m = number_next K B H s t full c number here next num in
      let b = below K B Before lists n s pend taken marked clock failure k mine h at pos in
      (shown, subst (λ l. IsKept K B l (set lists k (mine ++ e ∷ [])) n t (pend ++ entry ∷ []) taken marked clock failure) (sym shown) kept, omega (arith, b, m), m)

  -- a refused command's line, and the book with it
  pub refuses : (h : Now) → slice_get lists k ≡ Some mine → 0 < k → (c copy : Command J) (fault : BookFault) (number : ℕ) (t : Plain J) (line : Line J) (full : Bool)
      → full ≡ nat_le (2 ^ 20) (length (commands_of Before)) → copy ≡ c → refused_at full K s c ≡ Some fault → t ≡ s → number ≡ t.number → IsOf k true copy line
      → (told K B [] (lines ++ line ∷ []) ≡ Before ++ (k, Refused number copy fault) ∷ [])
      × IsKept K B (told K B [] (lines ++ line ∷ [])) (set lists k (mine ++ Refused number copy fault ∷ [])) n t pend taken marked clock failure
  refuses h at pos c copy fault number t line full full_is same refused still num of_line =
      let H = commands_of Before in
      let e : Note J = Refused number copy fault in
      let here = outcome_is K B Before lists n s pend taken marked clock failure h in
      let fit : Fits K B H e = fits_refused K B H s t full c copy fault number here full_is same refused still num in
      let shown = told_refused K B lines k copy line number fault of_line fit in
      let kept = kept_answer K B Before lists n s pend taken marked clock failure h k mine e at pos refl refl fit tt in
      (shown, subst (λ (q : List (ℕ × Note J) × Plain J). IsKept K B q.0 (set lists k (mine ++ e ∷ [])) n q.1 pend taken marked clock failure) (λ i. (sym shown i, sym still i)) kept)

  -- whether the session is full, by its numbers
  pub full_is : Now → (began : ℕ) → began ≡ B.number → (m : ℕ) → m ≡ s.number → nat_le (2 ^ 20) (m - began) ≡ nat_le (2 ^ 20) (length (commands_of Before))
  full_is h began first m num = ap (nat_le (2 ^ 20)) (omega (arith, first, num, state_number K B Before lists n s pend taken marked clock failure h))

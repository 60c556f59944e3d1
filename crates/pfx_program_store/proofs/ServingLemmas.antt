-- What a run over a front leaves on the disk.
use Rattle.std.specs.Io.KnownBytes.{Appends}
use Rattle.std.specs.Prelude.{◌&&◌, nat_le, nat_lt}
use Rattle.std.proofs.lemmas.Bool.{leb-true, ltb-true}
use Rattle.std.proofs.Common.{◌≡◌, ◌⊎◌, ◌<◌, ◌≤◌, ℕ, zero, suc, ◌+◌, Bool, true, false, List, [], ◌∷◌, ◌++◌, length, take, Option, Some, None, Result, Ok, Err, IfSome, refl, sym, ap, subst, ◌∙◌, arith, append_assoc, append-nil, inl, inr}
use Rattle.std.proofs.lemmas.List.Sorted.{IsPermutation-keeps}
use Rattle.std.specs.Prelude.{IsPermutation}
use Rattle.std.specs.List.{swap}
use Rattle.pfx_book.specs.Merging.{Tagged, of}
use Rattle.pfx_book.specs.Notes.{Noted, alone, commands_of}
use Rattle.pfx_book.specs.Register.{Register}
use Rattle.pfx_book.specs.declared.note.Note.{Note}
use Rattle.pfx_book.specs.declared.note.Note.TheVariants.{Receipt}
use Rattle.pfx_disk_chronicle.specs.Chart.{GoesAlong, charted, charted_honest}
use Rattle.pfx_disk_chronicle.specs.declared.made.Made.{Made}
use Rattle.pfx_disk.specs.Disk.{View, IsHonest}
use Rattle.pfx_program_store.proofs.EndingLemmas.{begun, known_rest, nothing_more}
use Rattle.pfx_store_engine.proofs.Keeps.{survives_more}
use Rattle.pfx_program_store.specs.Ending.{EndsBehind}
use Rattle.pfx_store_engine.specs.Surviving as engine
use Rattle.pfx_fault.specs.declared.refusals.Fault.{Fault}
use Rattle.pfx_fault.specs.declared.refusals.Fault.TheVariants as fault
use Rattle.pfx_store_format.specs.Format.{format}
use Rattle.pfx_front.specs.Closing.{IsHeld, IsSession, Survives}
use Rattle.pfx_front.specs.Sole.{state_of}
use Rattle.pfx_front.specs.Starting.{IsFresh}
use Rattle.pfx_store.proofs.Grouping.{joined_alone, length-alone}
use Rattle.pfx_kinds.specs.AnyKind.{any_kind, any_laws}
use Rattle.pfx_kinds.specs.declared.any.AnyJob.{AnyJob}
use Rattle.pfx_machine.proofs.Compose.{outcome-none}
use Rattle.pfx_machine.specs.Outcome.{outcome}
use Rattle.pfx_machine.specs.Plain.{Plain}
use Rattle.pfx_machine.specs.declared.command.Command.{Command}
use Rattle.pfx_program.proofs.StepLemmas.{commands_append}
use Rattle.pfx_program.specs.declared.form.OutputForm.{OutputForm}
use Rattle.pfx_program.specs.Running.{Carried, Ends, Halts, Runs, Stopped, first_text}
use Rattle.pfx_program.specs.Script.{Step, at_start, course_from, taken, text_of}
use Rattle.pfx_program.specs.declared.report.AtRefusal.{AtRefusal}
use Rattle.pfx_program.specs.declared.report.Report.{Report}
use Rattle.pfx_program.specs.Script as script
use Rattle.pfx_store_image.specs.Recovery.{recovered}
use Rattle.pfx_program_script.specs.Records.{Fields, Records}
use Rattle.pfx_front_engine.proofs.Notes.{commands_are, tagged}
use Rattle.pfx_front_engine.proofs.Promising.{promise}
use Rattle.pfx_front_engine.specs.Asking.{MayEndRun}
use Rattle.pfx_front_engine.specs.Keeping.{HasReceipt, KeepsBy}
use Rattle.pfx_program_store.specs.Serving.{IsServedFault, IsServedRun}

-- one pass in any order is that pass
pub one_pass : {P : Type 0} (p : P) (ps : List P) → IsPermutation (p ∷ []) ps → ps ≡ p ∷ []
one_pass {P = P} p ps h = IsPermutation-keeps (p ∷ []) (λ l. l ≡ p ∷ []) refl swapped ps h
  where
    swapped : (l : List P) (i j : ℕ) → i < length l → j < length l → l ≡ p ∷ [] → swap l i j ≡ p ∷ []
    swapped l i j low high same =
        let long : length l ≡ 1 = ap length same in
        let first : i ≡ 0 = omega (arith, low, long) in
        let second : j ≡ 0 = omega (arith, high, long) in
        λ k. swap (same k) (first k) (second k)

both_one : (e : Note AnyJob) (k : ℕ) (xs : List (ℕ × Note AnyJob)) → nat_lt 0 k ≡ true → nat_le k 1 ≡ true → xs ≡ tagged (of 1 xs) → (k, e) ∷ xs ≡ tagged (of 1 ((k, e) ∷ xs))
both_one e zero xs low high rest = let h = ltb-true 0 0 low in absurd (omega (arith, h))
both_one e (suc zero) xs low high rest = ap (λ (l : List (ℕ × Note AnyJob)). (1, e) ∷ l) rest
both_one e (suc (suc k)) xs low high rest = let h = leb-true (suc (suc k)) 1 high in absurd (omega (arith, h))

-- a session whose entries are all of the first pass
first_alone : (xs : List (ℕ × Note AnyJob)) → Tagged 1 xs ≡ true → xs ≡ tagged (of 1 xs)
first_alone [] t = refl
first_alone ((k, e) ∷ xs) t =
    let r = and_right (nat_lt 0 k) (nat_le k 1 && Tagged 1 xs) t in
    both_one e k xs (and_left (nat_lt 0 k) (nat_le k 1 && Tagged 1 xs) t) (and_left (nat_le k 1) (Tagged 1 xs) r) (first_alone xs (and_right (nat_le k 1) (Tagged 1 xs) r))
  where
    and_left : (a b : Bool) → a && b ≡ true → a ≡ true
    and_left true b h = refl
    and_left false b h = h

    and_right : (a b : Bool) → a && b ≡ true → b ≡ true
    and_right true b h = h
    and_right false b h = cc

-- the session of a single pass is its notes
pub session_alone : (K : _) (B : Plain AnyJob) (r : Register AnyJob) (n : ℕ) (notes : List (Note AnyJob)) → IsSession K B r ((n, notes) ∷ []) → r.history ≡ alone notes
session_alone K B r n notes h =
    let m = h.merge in
    first_alone r.history m.tagged ∙ ap (λ (l : List (List (Note AnyJob))). tagged (first l)) (sym m.lists_are)
  where
    first : List (List (Note AnyJob)) → List (Note AnyJob)
    first [] = []
    first (x ∷ xs) = x

module _ (form : OutputForm) (at_refusal : AtRefusal) (B : Plain AnyJob) (r : Register AnyJob) (disk : View) (began : ℕ) (b : List (Note AnyJob)) (session : r.history ≡ alone b) (accepted : r.session.accepted ≡ commands_of r.history) where
  as_engine : (H : List (Command AnyJob)) (n m : ℕ) (image : List ℕ) → r.session.accepted ≡ H → B.number + n ≤ m → Survives any_kind B r.session.accepted m image → engine.Survives any_kind B H n image
  as_engine H n m image are le v =
      let most = v.at_most in
      let least = v.at_least in
      let long = ap length are in
      record {
        count = v.count;
        at_least = omega (arith, least, le);
        at_most = omega (arith, most, long, length-alone H);
        recovered = v.recovered ∙ ap (λ (l : List (Command AnyJob)). Ok (outcome any_kind B (take v.count l))) are ∙ ap (λ (l : List (Command AnyJob)). Ok (outcome any_kind B l)) (sym (joined_alone v.count H));
      }

  -- what has a receipt survives, with what may
  survives : (a : List (Note AnyJob)) (H : List (Command AnyJob)) (n : ℕ) → a ≡ [] → KeepsBy B.number a H n b → IsHonest disk → IsHeld any_kind B began r disk → (image : List ℕ) → disk.now image → engine.Survives any_kind B H n image
  survives a H n none kept honest held image here = by kept.receipt
    where
      empty : commands_of (alone a) ≡ []
      empty = ap (λ (l : List (Note AnyJob)). commands_of (alone l)) none

      are : r.session.accepted ≡ H
      are = accepted ∙ ap commands_of session ∙ commands_are B.number a b H n kept ∙ ap (λ l. l ++ H) empty

      by : (n ≡ 0) ⊎ HasReceipt b (B.number + (length (commands_of (alone a)) + n)) → engine.Survives any_kind B H n image
      by (inl none_of) =
          let all = held.all in
          as_engine H n B.number image are (omega (arith, none_of)) (all.images image (honest.counted began image all.past here))
      by (inr h) =
          let high = h.high in
          let long = ap length empty in
          let one = held.receipts 1 h.number h.clock (subst (Noted (1, Receipt h.number h.clock)) (sym session) h.noted) in
          as_engine H n h.number image are (omega (arith, high, long)) (one.images image (honest.counted h.clock image one.past here))

  module _ {E : Type 0} (notes : E → List (Note AnyJob)) where
    module _ (x y : E) (none : notes x ≡ []) (end : notes y ≡ b) (held : IsHonest disk → IsHeld any_kind B began r disk) (lines : Records) (records : List Fields) (failed : Bool) (was is : Option (List ℕ)) where
      mine : (H : List (Command AnyJob)) (n : ℕ) → KeepsBy B.number (notes x) H n (notes y) → IsHonest disk → (image : List ℕ) → disk.now image → engine.Survives any_kind B H n image
      mine H n kept honest image here = survives (notes x) H n none (subst (KeepsBy B.number (notes x) H n) end kept) honest (held honest) image here

      carried_kept : Carried (promise any_kind any_laws notes B) (course_from (lines.place + 1) (at_start form B) records).steps x y was is → IsHonest disk → (image : List ℕ) → disk.now image
          → engine.Survives any_kind B (script.commands_of ((course_from (lines.place + 1) (at_start form B) records).steps ++ [])) (length (script.commands_of (course_from (lines.place + 1) (at_start form B) records).steps)) image
      carried_kept h honest image here =
          let steps : List Step = (course_from (lines.place + 1) (at_start form B) records).steps in
          subst (λ (l : List Step). engine.Survives any_kind B (script.commands_of l) (length (script.commands_of steps)) image) (sym (append-nil steps))
          (mine (script.commands_of steps) (length (script.commands_of steps)) h.keeps honest image here)

      -- a run that went through its whole course
      whole : (result : Result Report Fault) → EndsBehind IsServedFault (course_from (lines.place + 1) (at_start form B) records).steps [] (course_from (lines.place + 1) (at_start form B) records) failed was is result
          → IfSome lines.left (λ all. taken at_refusal (at_start form B) all ≡ records) → Carried (promise any_kind any_laws notes B) (course_from (lines.place + 1) (at_start form B) records).steps x y was is → IsServedRun form at_refusal B lines failed was is disk result
      whole result ends known h = record {
        records = records;
        known = known;
        printed = (course_from (lines.place + 1) (at_start form B) records).steps;
        rest = [];
        course = sym (append-nil (course_from (lines.place + 1) (at_start form B) records).steps);
        ends = ends;
        kept = carried_kept h;
      }

      stopped : (most : ℕ) (f : Fault) → IfSome lines.left (λ all. taken at_refusal (at_start form B) all ≡ records) → Stopped (promise any_kind any_laws notes B) most (failed ≡ true) (course_from (lines.place + 1) (at_start form B) records).steps x y was is f
          → ((printed tried rest : List Step) (s t : Plain AnyJob) → Halts (failed ≡ true) (λ u g. MayEndRun g) s (text_of printed) tried t was is f
          → EndsBehind IsServedFault printed (tried ++ rest) (course_from (lines.place + 1) (at_start form B) records) failed was is (Err f))
          → IsServedRun form at_refusal B lines failed was is disk (Err f)
      stopped most f known h ends =
          let split : (script.commands_of h.printed ++ script.commands_of h.tried) ++ script.commands_of h.rest ≡ script.commands_of (h.printed ++ (h.tried ++ h.rest)) =
          append_assoc (script.commands_of h.printed) (script.commands_of h.tried) (script.commands_of h.rest)
          ∙ ap (λ (l : List (Command AnyJob)). script.commands_of h.printed ++ l) (sym (commands_append h.tried h.rest)) ∙ sym (commands_append h.printed (h.tried ++ h.rest)) in
          record {
            records = records;
            known = known;
            printed = h.printed;
            rest = h.tried ++ h.rest;
            course = h.split;
            ends = ends h.printed h.tried h.rest _ _ h.why;
            kept = λ honest image here. subst (λ (l : List (Command AnyJob)). engine.Survives any_kind B l (length (script.commands_of h.printed)) image) split
                (survives_more any_kind B (script.commands_of h.printed ++ script.commands_of h.tried) (script.commands_of h.rest) (length (script.commands_of h.printed)) image
                (mine (script.commands_of h.printed ++ script.commands_of h.tried) (length (script.commands_of h.printed)) h.keeps honest image here));
          }

      by_end : (most : ℕ) (result : Result Report Fault) → IfSome lines.left (λ all. taken at_refusal (at_start form B) all ≡ records) → Ends (promise any_kind any_laws notes B) most (failed ≡ true) (course_from (lines.place + 1) (at_start form B) records) x y was is result
          → IsServedRun form at_refusal B lines failed was is disk result
      by_end most (Ok report) known h = whole (Ok report) (h.0, refl, h.1.text, h.3) known h.1
      by_end most (Err (fault.BadScript at)) known h = whole (Err (fault.BadScript at)) (h.0, refl, h.1.text) known h.1
      by_end most (Err fault.OutputFailed) known h = stopped most fault.OutputFailed known h (λ printed tried rest s t why. (why.1, (begun tried rest why.1 why.2 why.3).0, (begun tried rest why.1 why.2 why.3).1, why.4))
      by_end most (Err fault.InputFailed) known h = stopped most fault.InputFailed known h (λ printed tried rest s t why. (why.0, why.2))
      by_end most (Err fault.NoMemory) known h = stopped most fault.NoMemory known h (λ printed tried rest s t why. (tt, why.1))
      by_end most (Err fault.NoThread) known h = stopped most fault.NoThread known h (λ printed tried rest s t why. absurd why.0)
      by_end most (Err other) known h = stopped most other known h (λ printed tried rest s t why. (why.0, why.2))

    -- a run, and the end of its front
    pub served : (most : ℕ) (x y : E) → notes x ≡ [] → notes y ≡ b → (IsHonest disk → IsHeld any_kind B began r disk) → (lines : Records) (failed : Bool) (was is : Option (List ℕ)) (result : Result Report Fault)
        → Runs (promise any_kind any_laws notes B) form at_refusal most lines failed x y was is result → IsServedRun form at_refusal B lines failed was is disk result
    served most x y none end held lines failed was is result h =
        let at : state_of any_kind B (notes x) ≡ B = ap (state_of any_kind B) none ∙ outcome-none any_kind B in
        let known = subst (λ (s : Plain AnyJob). IfSome lines.left (λ all. taken at_refusal (at_start form s) all ≡ h.records)) at h.known in
        let ends = subst (λ (s : Plain AnyJob). Ends (promise any_kind any_laws notes B) most (failed ≡ true) (course_from (lines.place + 1) (at_start form s) h.records) x y was is result) at h.ends in
        by_end x y none end held lines h.records failed was is most result known ends

-- a run whose front didn't start
pub unserved : (form : OutputForm) (at_refusal : AtRefusal) (B : Plain AnyJob) (disk : View) (lines : Records) (failed : Bool) (was : Option (List ℕ)) (f : Fault) → (f ≡ fault.NoThread) ⊎ (f ≡ fault.NoMemory)
    → (IsHonest disk → (image : List ℕ) → disk.now image → recovered (format any_kind) image ≡ Ok B) → IsServedRun form at_refusal B lines failed was was disk (Err f)
unserved form at_refusal B disk lines failed was f why images = record {
  records = rest.0;
  known = rest.1;
  printed = [];
  rest = (course_from (lines.place + 1) (at_start form B) rest.0).steps;
  course = refl;
  ends = by why;
  kept = λ honest image here. record {
    count = 0;
    at_least = omega arith;
    at_most = omega arith;
    recovered = images honest image here ∙ ap Ok (sym (outcome-none any_kind B));
  };
}
  where
    rest : (records : List Fields) × IfSome lines.left (λ all. taken at_refusal (at_start form B) all ≡ records)
    rest = known_rest at_refusal (at_start form B) lines.left

    Ends_so : Fault → Type 0
    Ends_so g = EndsBehind IsServedFault [] (course_from (lines.place + 1) (at_start form B) rest.0).steps (course_from (lines.place + 1) (at_start form B) rest.0) failed was was (Err g)

    by : (f ≡ fault.NoThread) ⊎ (f ≡ fault.NoMemory) → Ends_so f
    by (inl is) = subst Ends_so (sym is) (refl, nothing_more was)
    by (inr is) = subst Ends_so (sym is) (tt, nothing_more was)

-- what a stop leaves of a disk on which nothing was done yet
pub fresh_images : (start s : Plain AnyJob) (failed now : ℕ) (broken : Bool) (disk : View) → IsFresh any_kind start failed now broken s disk
    → IsHonest disk → (image : List ℕ) → disk.now image → recovered (format any_kind) image ≡ Ok start
fresh_images start s failed now broken disk fresh honest image here =
    fresh.images honest image (honest.counted disk.clock image (omega arith) here) ∙ ap Ok fresh.state

-- a run on a disk that told its calls was one on the disk itself
pub told_run : (held : Type 0) (image : List ℕ) (first before : ℕ) (made : List Made) (late : ℕ) (failed : Bool) (disk : View)
    → GoesAlong held image first before made late failed disk → (form : OutputForm) (at_refusal : AtRefusal) (B : Plain AnyJob) (lines : Records) (stopped : Bool)
    (was is : Option (List ℕ)) (result : Result Report Fault)
    → IsServedRun form at_refusal B lines stopped was is (charted held image first before made late failed) result
    → IsServedRun form at_refusal B lines stopped was is disk result
told_run held image first before made late failed disk along form at_refusal B lines stopped was is result h = record {
  records = h.records;
  known = h.known;
  printed = h.printed;
  rest = h.rest;
  course = h.course;
  ends = h.ends;
  kept = λ honest left here.
      let follows = along.follows honest in
      h.kept (charted_honest held image first before made late failed follows.premise) left (follows.premise, follows.images left here);
}

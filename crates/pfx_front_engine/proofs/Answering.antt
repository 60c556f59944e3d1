-- Why a command of a front's only client has no answer.
use Rattle.std.proofs.Common.{◌≡◌, ◌≤◌, ℕ, List, [], ◌∷◌, ◌++◌, length, append-nil, Err, refl, sym, ap, subst, ◌∙◌, arith, inl, inr}
use Rattle.pfx_book.proofs.Notes.{greatest_more}
use Rattle.pfx_book.specs.Calls.{noted}
use Rattle.pfx_book.specs.Notes.{alone, commands_of, greatest}
use Rattle.pfx_book.specs.declared.faults.BookFault.{BookFault}
use Rattle.pfx_book.specs.declared.faults.BookFault.TheVariants as book
use Rattle.pfx_book.specs.declared.note.Note.{Note}
use Rattle.pfx_book.specs.declared.note.Note.TheVariants as note
use Rattle.pfx_choice.specs.declared.faults.ChoiceFault.TheVariants as choicefault
use Rattle.pfx_fault.specs.declared.refusals.Fault.{Fault}
use Rattle.pfx_fault.specs.declared.refusals.Fault.TheVariants as fault
use Rattle.pfx_front.specs.Calling.{HasNoReply}
use Rattle.pfx_front.specs.Sole.{IsAlone, state_of}
use Rattle.pfx_front.specs.declared.faults.CallFault as front
use Rattle.pfx_front.specs.declared.faults.CallFault.TheVariants as frontfault
use Rattle.pfx_machine.specs.Plain.{Plain}
use Rattle.pfx_machine.specs.Runs.{answer}
use Rattle.pfx_machine.specs.declared.command.Command.{Command}
use Rattle.pfx_machine.specs.declared.command.Reply.{Reply}
use Rattle.pfx_machine.specs.declared.faults.MachineFault.{MachineFault}
use Rattle.pfx_machine.specs.declared.faults.MachineFault.TheVariants.{NoRow}
use Rattle.pfx_store_engine.specs.Promises.{IsEngineFault}
use Rattle.pfx_front_engine.specs.Asking.{IsAnswered, IsFrontFault, IsReason, IsUnanswered, MayEndRun, why_machine, why_of}
use Rattle.pfx_front_engine.proofs.Notes.{alone_more, answered, commands_are, greatest_same_answers, known_last, refused, session_full, stays_as, stays_with, tagged}
use Rattle.pfx_front_engine.specs.Keeping.{KeepsBy}
use Rattle.pfx_jobs.specs.Kind.{Kind}

-- what ends a run is a fault of an engine
pub engine_fault : {J : Type 0} (K : Kind J) (start : Plain J) (notes : List (Note J)) (s : Plain J) (f : Fault) → IsFrontFault K start notes f → IsEngineFault (λ t g. MayEndRun g) s f
engine_fault K start notes s fault.NoMemory h = tt
engine_fault K start notes s fault.SessionFull h = tt
engine_fault K start notes s (fault.StoreFailed marked cause) h = tt
engine_fault K start notes s fault.InputFailed h = absurd h
engine_fault K start notes s fault.OutputFailed h = absurd h
engine_fault K start notes s (fault.BadScript at) h = absurd h
engine_fault K start notes s other h = h

machine_reason : {J : Type 0} (K : Kind J) (start : Plain J) (was : List (Note J)) (c : Command J) (is : List (Note J)) (f : MachineFault)
    → answer K (state_of K start was) c ≡ Err f → IsReason K start was c is (why_machine f)
machine_reason K start was c is (NoRow choicefault.NoMemory) h = tt
machine_reason K start was c is other h = h

module _ {J : Type 0} (K : Kind J) (B : Plain J) (c : Command J) (was is : ℕ × List (Note J)) where
  noted_why : (b : BookFault) (n : ℕ) → is ≡ noted (note.Refused n c b) was → IsAlone K B is.1 → IsUnanswered K B was.1 c is.1 (why_of (frontfault.Refused b))
  noted_why b n same l = record { reason = by b l'; stays = stays; known = rises }
    where
      rises : greatest was.1 ≤ greatest is.1
      rises = let top = ap (λ p. greatest p.1) same in let more = greatest_more was.1 (note.Refused n c b) in omega (arith, top, more)

      stays : KeepsBy B.number was.1 [] 0 is.1
      stays = stays_with B.number was.1 is.1 (note.Refused n c b) refl (ap (λ p. alone p.1) same ∙ alone_more was.1 (note.Refused n c b) refl)

      still : commands_of (alone is.1) ≡ commands_of (alone was.1)
      still = commands_are B.number was.1 is.1 [] 0 stays ∙ append-nil (commands_of (alone was.1))

      l' : IsAlone K B (was.1 ++ note.Refused n c b ∷ [])
      l' = subst (λ (p : ℕ × List (Note J)). IsAlone K B p.1) same l

      by : (d : BookFault) → IsAlone K B (was.1 ++ note.Refused n c d ∷ []) → IsReason K B was.1 c is.1 (why_of (frontfault.Refused d))
      by book.NoMemory k = tt
      by book.SessionFull k = (let full = session_full K B was.1 n c k in let long = ap length still in omega (arith, full, long))
      by (book.Machine f) k = machine_reason K B was.1 c is.1 f (refused K B was.1 n c f k)

  pub unanswered : (why : front.CallFault) → HasNoReply c was is why → IsAlone K B is.1 → IsUnanswered K B was.1 c is.1 (why_of why)
  unanswered frontfault.NoMemory h l = record { reason = tt; stays = stays_as B.number was.1 is.1 (ap (λ p. alone p.1) h); known = (let top = ap (λ p. greatest p.1) h in omega (arith, top)) }
  unanswered (frontfault.Refused b) h l = noted_why b h.0 h.1 l
  unanswered (frontfault.StoreFailed marked cause) h l = record { reason = inl h.2; stays = stays_as B.number was.1 is.1 (ap tagged h.1); known = (let top = greatest_same_answers was.1 is.1 h.1 in omega (arith, top)) }

  pub answered_as : (n : ℕ) (said : Reply) → is ≡ noted (note.Accepted n c said) was → IsAlone K B is.1 → IsAnswered K B was.1 c n said is.1
  answered_as n said same l =
      let at : is.1 ≡ was.1 ++ note.Accepted n c said ∷ [] = ap (λ p. p.1) same in
      let h = answered K B was.1 n c said (subst (IsAlone K B) at l) in
      record {
        accepted = h.0;
        next = h.1;
        noted = ap alone at ∙ alone_more was.1 (note.Accepted n c said) refl;
        known = subst (λ (notes : List (Note J)). n ≤ greatest notes) (sym at) (known_last was.1 n c said);
      }

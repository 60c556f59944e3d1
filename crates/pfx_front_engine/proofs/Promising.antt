-- What the engine's calls promise.
use Rattle.std.proofs.Common.{◌≡◌, ◌≢◌, ◌≤◌, ℕ, List, [], ◌∷◌, ◌++◌, ◌+◌, length, append-nil, Ok, Err, refl, sym, subst, ◌∙◌, arith, inl, inr}
use Rattle.pfx_book.specs.declared.note.Note.{Note}
use Rattle.pfx_fault.specs.declared.refusals.Fault.{Fault}
use Rattle.pfx_fault.specs.declared.refusals.Fault.TheVariants as fault
use Rattle.pfx_front.specs.Sole.{IsShownBy, state_of}
use Rattle.pfx_machine.proofs.Compose.{outcome-none}
use Rattle.pfx_machine.specs.Outcome.{outcome}
use Rattle.pfx_machine.specs.Plain.{Plain}
use Rattle.pfx_machine.specs.Runs.{answer}
use Rattle.pfx_machine.specs.declared.board.Board.{Board}
use Rattle.pfx_machine.specs.declared.command.Command.{Command}
use Rattle.pfx_machine.specs.declared.command.Command.TheVariants.{Slot}
use Rattle.pfx_machine.specs.declared.command.Reply.{Reply}
use Rattle.pfx_machine.specs.declared.faults.MachineFault.{MachineFault}
use Rattle.pfx_store_engine.proofs.Sharing.{accepted_err, accepted_ok, told_err, told_ok}
use Rattle.pfx_store_engine.proofs.Slots.{answered_more, length_slots, slots_more}
use Rattle.pfx_store_engine.specs.Promises.{Promise, AreAnswered, AreDone, AreInDoubt, AreLeftBy, AreNotDone, IsDone, IsInDoubt, IsLeftBy, IsNotDone, IsSame, Shows, slots_for}
use Rattle.pfx_store_engine.specs.Sharing.{AreAllDone, AreAllLeft, Told, accepted_of}
use Rattle.pfx_store_engine.specs.declared.engine.EngineFault.{EngineFault}
use Rattle.pfx_store_engine.specs.declared.engine.EngineFault.TheVariants as enginefault
use Rattle.pfx_front_engine.proofs.Answering.{engine_fault}
use Rattle.pfx_front_engine.proofs.Notes.{all_kept, grown, more_by, settled_stays, state_is}
use Rattle.pfx_front_engine.specs.Asking.{AreAllAsked, AreAsked, AreSomeAsked, IsAnswered, IsFrontFault, IsUnanswered, MayEndRun}
use Rattle.pfx_front_engine.specs.Keeping.{IsSettled, KeepsBy}
use Rattle.pfx_front_engine.specs.KeepingLaws.{keeps_none}
use Rattle.pfx_jobs.specs.Kind.{Kind, Laws}

module _ {J : Type 0} (K : Kind J) (L : Laws K) {E : Type 0} (notes : E → List (Note J)) (B : Plain J) where
  -- what an engine promises, by its client's notes
  abbrev pub promise : Promise J E
  promise = record {
    state = λ e. state_of K B (notes e);
    faults = λ s f. MayEndRun f;
    settled = λ e. IsSettled B.number (notes e);
    keeps = λ x H n y. KeepsBy B.number (notes x) H n (notes y);
  }

  module _ (old new : E) where
    left_same : (c : Command J) (f : Fault) → IsSame promise old new → IsLeftBy K promise c old new f
    left_same c fault.NoMemory h = h
    left_same c other h = inl h

    left_by : (c : Command J) (f : Fault) → f ≢ fault.NoMemory → IsInDoubt K promise c old new → IsLeftBy K promise c old new f
    left_by c fault.NoMemory apart h = absurd (apart refl)
    left_by c other apart h = inr h

    slots_left_same : (count : ℕ) (f : Fault) → IsSame promise old new → AreLeftBy K promise count old new f
    slots_left_same count fault.NoMemory h = h
    slots_left_same count other h = inl h

    slots_left_by : (count : ℕ) (f : Fault) → f ≢ fault.NoMemory → AreInDoubt K promise count old new → AreLeftBy K promise count old new f
    slots_left_by count fault.NoMemory apart h = absurd (apart refl)
    slots_left_by count other apart h = inr h

    pub same : KeepsBy B.number (notes old) [] 0 (notes new) → IsSame promise old new
    same h = record { state = state_is K L B B.number (notes old) (notes new) [] 0 h ∙ outcome-none K (state_of K B (notes old)); keeps = h }

    -- a command that has no answer
    pub not_done : (c : Command J) (why : EngineFault) → IsUnanswered K B (notes old) c (notes new) why → IsNotDone K promise c old new why
    not_done c (enginefault.Refused f) h = (h.reason, same h.stays, settled_stays B.number (notes old) (notes new) h.stays)
    not_done c (enginefault.Failed f) h = (engine_fault K B (notes new) (state_of K B (notes old)) f h.reason, left_same c f (same h.stays))

    pub slot_not_done : (count : ℕ) (why : EngineFault) → IsUnanswered K B (notes old) Slot (notes new) why → AreNotDone K promise count old new why
    slot_not_done count (enginefault.Refused f) h = (h.reason, same h.stays, settled_stays B.number (notes old) (notes new) h.stays)
    slot_not_done count (enginefault.Failed f) h = (engine_fault K B (notes new) (state_of K B (notes old)) f h.reason, slots_left_same count f (same h.stays))

    -- the board of the state after the same commands
    pub shown : KeepsBy B.number (notes old) [] 0 (notes new) → (board : Board) → IsShownBy K (state_of K B (notes new)) board → Shows K (state_of K B (notes old)) board
    shown h board b = subst (λ (s : Plain J). Shows K s board) (same h).state (record { number = b.number; slot = b.slot; from = b.from; lines = b.lines })

    -- a copy of that state
    pub copied : KeepsBy B.number (notes old) [] 0 (notes new) → (copy : Plain J) → copy ≡ state_of K B (notes new) → copy ≡ state_of K B (notes old)
    copied h copy b = b ∙ (same h).state

    module _ (mid : List (Note J)) (stays : KeepsBy B.number mid [] 0 (notes new)) where
      -- a command that was answered, and then waited for
      asked : (c : Command J) (n : ℕ) (said : Reply) → IsAnswered K B (notes old) c n said mid → KeepsBy B.number (notes old) (c ∷ []) 0 (notes new)
      asked c n said a = grown B.number (notes old) mid (notes new) (c ∷ []) [] (more_by B.number (notes old) mid n c said a.noted) stays

      pub done : (c : Command J) (n : ℕ) (said : Reply) → IsAnswered K B (notes old) c n said mid → IsSettled B.number (notes new) → IsDone K promise c n said old new
      done c n said a settled =
          let k = asked c n said a in
          record {
            accepted = a.accepted;
            next = a.next;
            state = state_is K L B B.number (notes old) (notes new) (c ∷ []) 0 k;
            keeps = all_kept B.number (notes old) (notes new) (c ∷ []) k settled;
            settled = settled;
          }

      pub doubted : (c : Command J) (n : ℕ) (said : Reply) (f : Fault) → IsAnswered K B (notes old) c n said mid → IsFrontFault K B (notes new) f → f ≢ fault.NoMemory → IsNotDone K promise c old new (enginefault.Failed f)
      doubted c n said f a front apart =
          let k = asked c n said a in
          (engine_fault K B (notes new) (state_of K B (notes old)) f front, left_by c f apart (record { reply = said; accepted = a.accepted; state = inr (state_is K L B B.number (notes old) (notes new) (c ∷ []) 0 k); keeps = k }))

      -- Slots that were answered, and then waited for
      module _ (count few : ℕ) (less : few ≤ count) (said : List (ℕ × Reply)) (a : AreAsked K B (notes old) few said mid) where
        long : length said ≤ count
        long = let h = a.few in omega (arith, h, less)

        now : KeepsBy B.number (notes old) (slots_for said) 0 (notes new)
        now = subst (λ (H : List (Command J)). KeepsBy B.number (notes old) H 0 (notes new)) (append-nil (slots_for said)) (grown B.number (notes old) mid (notes new) (slots_for said) [] a.kept stays)

        pub slots_done : IsSettled B.number (notes new) → AreDone K promise count said old new
        slots_done settled = record {
          some = a.some;
          few = long;
          answered = a.answered;
          state = state_is K L B B.number (notes old) (notes new) (slots_for said) 0 now;
          keeps = subst (λ (n : ℕ). KeepsBy B.number (notes old) (slots_for said) n (notes new)) (length_slots J said) (all_kept B.number (notes old) (notes new) (slots_for said) now settled);
          settled = settled;
        }

        pub slots_doubted : (f : Fault) → IsFrontFault K B (notes new) f → f ≢ fault.NoMemory → AreNotDone K promise count old new (enginefault.Failed f)
        slots_doubted f front apart = (
          engine_fault K B (notes new) (state_of K B (notes old)) f front,
          slots_left_by count f apart (record { said = said; few = long; answered = a.answered; state = inr (state_is K L B B.number (notes old) (notes new) (slots_for said) 0 now); keeps = now }),
        )

      -- commands that were told, and then waited for
      module _ (H : List (Command J)) (told : List Told) (a : AreAllAsked K B (notes old) H told mid) where
        told_now : KeepsBy B.number (notes old) (accepted_of H told) 0 (notes new)
        told_now = subst (λ (G : List (Command J)). KeepsBy B.number (notes old) G 0 (notes new)) (append-nil (accepted_of H told)) (grown B.number (notes old) mid (notes new) (accepted_of H told) [] a.kept stays)

        pub all_done : IsSettled B.number (notes new) → AreAllDone K promise H told old new
        all_done settled = record {
          answered = a.answered;
          state = state_is K L B B.number (notes old) (notes new) (accepted_of H told) 0 told_now;
          keeps = all_kept B.number (notes old) (notes new) (accepted_of H told) told_now settled;
          settled = settled;
        }

        pub all_doubted : AreAllLeft K promise H old new
        all_doubted = record {
          took = H;
          rest = [];
          split = sym (append-nil H);
          said = told;
          answered = a.answered;
          state = inr (state_is K L B B.number (notes old) (notes new) (accepted_of H told) 0 told_now);
          keeps = told_now;
        }

    -- commands of which some were told
    pub some_left : (H : List (Command J)) → AreSomeAsked K B (notes old) H (notes new) → AreAllLeft K promise H old new
    some_left H h =
        let a = h.asked in
        record {
          took = h.took;
          rest = h.rest;
          split = h.split;
          said = h.said;
          answered = a.answered;
          state = inr (state_is K L B B.number (notes old) (notes new) (accepted_of h.took h.said) 0 a.kept);
          keeps = a.kept;
        }

-- ---- Slots that are asked for one after the other

module _ {J : Type 0} (K : Kind J) (L : Laws K) (B : Plain J) (old mid new : List (Note J)) (said : List (ℕ × Reply)) (kept : KeepsBy B.number old (slots_for said) 0 mid) where
  -- one more was answered
  pub answered_next : (x : ℕ × Reply) → AreAnswered K (state_of K B old) said → IsAnswered K B mid Slot x.0 x.1 new → AreAnswered K (state_of K B old) (said ++ x ∷ [])
  answered_next x all a =
      let at : state_of K B mid ≡ outcome K (state_of K B old) (slots_for said) = state_is K L B B.number old mid (slots_for said) 0 kept in
      answered_more K L (state_of K B old) said x all (subst (λ (s : Plain J). answer K s Slot ≡ Ok x.1) at a.accepted) (subst (λ (s : Plain J). x.0 ≡ s.number + 1) at a.next)

  pub kept_next : (x : ℕ × Reply) → IsAnswered K B mid Slot x.0 x.1 new → KeepsBy B.number old (slots_for (said ++ x ∷ [])) 0 new
  kept_next x a = subst (λ (H : List (Command J)). KeepsBy B.number old H 0 new) (sym (slots_more said x)) (grown B.number old mid new (slots_for said) (Slot ∷ []) kept (more_by B.number mid new x.0 Slot x.1 a.noted))

  -- no more was
  pub kept_so_far : KeepsBy B.number mid [] 0 new → KeepsBy B.number old (slots_for said) 0 new
  kept_so_far stays = subst (λ (H : List (Command J)). KeepsBy B.number old H 0 new) (append-nil (slots_for said)) (grown B.number old mid new (slots_for said) [] kept stays)

-- ---- commands that are asked for one after the other

-- none yet
pub told_none : {J : Type 0} (K : Kind J) (B : Plain J) (notes : List (Note J)) → AreAllAsked K B notes [] [] notes
told_none K B notes = record { answered = tt; kept = keeps_none B.number notes }

module _ {J : Type 0} (K : Kind J) (L : Laws K) (B : Plain J) (old mid new : List (Note J)) (H : List (Command J)) (told : List Told) (h : AreAllAsked K B old H told mid) where
  told_at : state_of K B mid ≡ outcome K (state_of K B old) (accepted_of H told)
  told_at = state_is K L B B.number old mid (accepted_of H told) 0 h.kept

  told_so_far : KeepsBy B.number mid [] 0 new → KeepsBy B.number old (accepted_of H told) 0 new
  told_so_far stays = subst (λ (G : List (Command J)). KeepsBy B.number old G 0 new) (append-nil (accepted_of H told)) (grown B.number old mid new (accepted_of H told) [] h.kept stays)

  -- one more was accepted
  pub told_next : (c : Command J) (x : ℕ × Reply) → IsAnswered K B mid c x.0 x.1 new → AreAllAsked K B old (H ++ c ∷ []) (told ++ Ok x ∷ []) new
  told_next c x a = record {
    answered = told_ok K L (state_of K B old) H told c x h.answered (subst (λ (s : Plain J). answer K s c ≡ Ok x.1) told_at a.accepted) (subst (λ (s : Plain J). x.0 ≡ s.number + 1) told_at a.next);
    kept = subst (λ (G : List (Command J)). KeepsBy B.number old G 0 new) (sym (accepted_ok K (state_of K B old) H told c x h.answered))
        (grown B.number old mid new (accepted_of H told) (c ∷ []) h.kept (more_by B.number mid new x.0 c x.1 a.noted));
  }

  -- or refused
  pub told_refused : (c : Command J) (f : MachineFault) → IsUnanswered K B mid c new (enginefault.Refused f) → AreAllAsked K B old (H ++ c ∷ []) (told ++ Err f ∷ []) new
  told_refused c f u = record {
    answered = told_err K L (state_of K B old) H told c f h.answered (subst (λ (s : Plain J). answer K s c ≡ Err f) told_at u.reason);
    kept = subst (λ (G : List (Command J)). KeepsBy B.number old G 0 new) (sym (accepted_err K (state_of K B old) H told c f h.answered)) (told_so_far u.stays);
  }

  -- or the front failed
  pub told_fails : (all : List (Command J)) (c : Command J) (rest : List (Command J)) (f : Fault) → all ≡ H ++ rest → IsUnanswered K B mid c new (enginefault.Failed f) → AreSomeAsked K B old all new
  told_fails all c rest f split u = record { took = H; rest = rest; split = split; said = told; asked = record { answered = h.answered; kept = told_so_far u.stays } }

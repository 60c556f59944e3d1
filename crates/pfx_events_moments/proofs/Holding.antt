-- What stands in a world's images, moment by moment.
use Rattle.std.proofs.Common.{◌≡◌, ◌≢◌, ◌⊎◌, inl, inr, ⊎_elim, ℕ, ◌+◌, ◌≤◌, min, List, [], ◌∷◌, ◌++◌, length, take, Bool, true, false, Some, Ok, refl, sym, ap, ◌∙◌, subst, arith, append_assoc, append-nil}
use Rattle.std.proofs.lemmas.List.{take_all, length-map}
use Rattle.pfx_disk_chronicle.specs.Chart.{acts_of, act_of, charted}
use Rattle.pfx_disk_chronicle.specs.declared.made.Made.{Made}
use Rattle.pfx_disk.specs.Stop.{Act, Left}
use Rattle.pfx_disk.specs.CallsMade.{LeavesAtMost}
use Rattle.pfx_store_format.specs.Format.{format}
use Rattle.pfx_jobs.specs.Kind.{Kind}
use Rattle.pfx_machine.specs.Outcome.{outcome}
use Rattle.pfx_machine.specs.Plain.{Plain}
use Rattle.pfx_machine.specs.declared.command.Command.{Command}
use Rattle.pfx_store_image.specs.Recovery.{recovered}
use Rattle.pfx_store.specs.Files.{FileOf, recovered_file}
use Rattle.pfx_events_world.specs.Calls.{MayLeave}
use Rattle.pfx_events_world.specs.Claims.{IsReceipted, Survives}
use Rattle.pfx_events_world.specs.Events.{Event, Take, Tend, Device, Stop, MayHappen, CanRun, run, happens, called}
use Rattle.pfx_events_world.specs.World.{World}
use Rattle.pfx_events.specs.Reached.{IsReached, KeepsClaims}
use Rattle.pfx_events.specs.Store.{store_of}
use Rattle.pfx_events.specs.Ties.{through}
use Rattle.pfx_events_moments.specs.Moments.{Holds}

module _ {J : Type 0} (K : Kind J) (B : Plain J) where
  -- calls leave what was accepted and receipted
  called_accepted : (w : World (store_of K)) (coming : List Act) → (called (store_of K) w coming).book.accepted ≡ w.book.accepted
  called_accepted w [] = refl
  called_accepted w (act ∷ []) = refl
  called_accepted w (act ∷ next ∷ coming) = refl

  called_receipts : (w : World (store_of K)) (coming : List Act) → (called (store_of K) w coming).book.receipts ≡ w.book.receipts
  called_receipts w [] = refl
  called_receipts w (act ∷ []) = refl
  called_receipts w (act ∷ next ∷ coming) = refl

  pub through_accepted : (w : World (store_of K)) (gone : List Act) → (run (store_of K) B w (through gone)).book.accepted ≡ w.book.accepted
  through_accepted w [] = refl
  through_accepted w (act ∷ gone) = through_accepted (called (store_of K) w w.coming) gone ∙ called_accepted w w.coming

  pub through_receipts : (w : World (store_of K)) (gone : List Act) → (run (store_of K) B w (through gone)).book.receipts ≡ w.book.receipts
  through_receipts w [] = refl
  through_receipts w (act ∷ gone) = through_receipts (called (store_of K) w w.coming) gone ∙ called_receipts w w.coming

  -- what survives is held
  pub held_in : ((image : List ℕ) (s : Plain J) (f : FileOf J) → recovered_file K image ≡ Some (s, f) → recovered (format K) image ≡ Ok s)
      → (accepted : List (Command J)) (n : ℕ) (images : List ℕ → Type 0) → Survives (store_of K) B accepted n images → (image : List ℕ) → images image → Holds K B accepted n image
  held_in means accepted n images h image is =
      let e = h.each image is in
      record { count = e.0; few = e.2; recovered = means image (outcome K B (take e.0 accepted)) e.1 e.3; number = e.4 }

  module _ (means : (image : List ℕ) (s : Plain J) (f : FileOf J) → recovered_file K image ≡ Some (s, f) → recovered (format K) image ≡ Ok s)
      (keeps : (w : World (store_of K)) → IsReached (store_of K) B w → KeepsClaims (store_of K) B w)
      (further : (w : World (store_of K)) (events : List (Event J)) → IsReached (store_of K) B w → CanRun (store_of K) B w events → IsReached (store_of K) B (run (store_of K) B w events)) where
    -- in a world that was reached
    pub holds_in : (w : World (store_of K)) → IsReached (store_of K) B w → (n : ℕ) → IsReceipted n w.book.receipts → (image : List ℕ)
        → MayLeave w.start w.done w.coming image → Holds K B w.book.accepted n image
    holds_in w reached n given image left = held_in means w.book.accepted n (MayLeave w.start w.done w.coming) ((keeps w reached).survived.receipted n given) image left

    -- after an event that leaves what was accepted and receipted, and some of its calls
    pub holds_after : (w : World (store_of K)) (e : Event J) (gone : List Act) → (happens (store_of K) B w e).book.accepted ≡ w.book.accepted
        → (happens (store_of K) B w e).book.receipts ≡ w.book.receipts → IsReached (store_of K) B w → CanRun (store_of K) B w (e ∷ through gone)
        → (n : ℕ) → IsReceipted n w.book.receipts → (image : List ℕ) → MayHappen (store_of K) B (run (store_of K) B w (e ∷ through gone)) (Stop image) → Holds K B w.book.accepted n image
    holds_after w e gone same alike reached can n given image stop =
        let v = happens (store_of K) B w e in
        let accepted = through_accepted v gone ∙ same in
        let receipts = through_receipts v gone ∙ alike in
        subst (λ l. Holds K B l n image) accepted
        (holds_in (run (store_of K) B w (e ∷ through gone)) (further w (e ∷ through gone) reached can) n (subst (IsReceipted n) (sym receipts) given) image stop)

-- some of the calls to come went through
module _ {J : Type 0} (K : Kind J) (B : Plain J) where
  record CalledBy (w v : World (store_of K)) (act : Act) (after : List Act) : Type 0 where
    pub coming : v.coming ≡ after
    pub start : v.start ≡ w.start
    pub done : v.done ≡ w.done ++ act ∷ []
    pub halted : v.book.halted ≡ w.book.halted

  called_by : (w : World (store_of K)) (act : Act) (coming : List Act) → CalledBy w (called (store_of K) w (act ∷ coming)) act coming
  called_by w act [] = record { coming = refl; start = refl; done = refl; halted = refl }
  called_by w act (next ∷ coming) = record { coming = refl; start = refl; done = refl; halted = refl }

  pub record Partly (w v : World (store_of K)) (gone : List Act) : Type 0 where
    pub can : CanRun (store_of K) B w (through gone)
    pub start : v.start ≡ w.start
    pub done : v.done ≡ w.done ++ gone

  pub partly : (w : World (store_of K)) (gone rest : List Act) → w.coming ≡ gone ++ rest → w.book.halted ≡ false → Partly w (run (store_of K) B w (through gone)) gone
  partly w [] rest is free = record { can = tt; start = refl; done = sym (append-nil w.done) }
  partly w (act ∷ gone) rest is free =
      let f : CalledBy w (called (store_of K) w w.coming) act (gone ++ rest) = subst (λ l. CalledBy w (called (store_of K) w l) act (gone ++ rest)) (sym is) (called_by w act (gone ++ rest)) in
      let some : w.coming ≢ [] = λ none. cc (is, none) in
      let r = partly (called (store_of K) w w.coming) gone rest f.coming (f.halted ∙ free) in
      record {
        can = ((some, free), r.can);
        start = r.start ∙ f.start;
        done = r.done ∙ (ap (λ d. d ++ gone) f.done ∙ append_assoc w.done (act ∷ []) gone);
      }

  pub logs_hold : (means : (image : List ℕ) (s : Plain J) (f : FileOf J) → recovered_file K image ≡ Some (s, f) → recovered (format K) image ≡ Ok s)
      (keeps : (w : World (store_of K)) → IsReached (store_of K) B w → KeepsClaims (store_of K) B w)
      (further : (w : World (store_of K)) (events : List (Event J)) → IsReached (store_of K) B w → CanRun (store_of K) B w events → IsReached (store_of K) B (run (store_of K) B w events))
      (w : World (store_of K)) (gone rest : List Act) → IsReached (store_of K) B w → w.coming ≡ gone ++ rest → w.book.halted ≡ false
      → (n : ℕ) → IsReceipted n w.book.receipts → (image : List ℕ) → Left w.start (w.done ++ gone) image → Holds K B w.book.accepted n image
  logs_hold means keeps further w gone rest reached is free n given image left =
      let v = run (store_of K) B w (through gone) in
      let p = partly w gone rest is free in
      let there : Left v.start v.done image = subst (λ s. Left s v.done image) (sym p.start) (subst (λ d. Left w.start d image) (sym p.done) left) in
      subst (λ l. Holds K B l n image) (through_accepted K B w gone)
      (holds_in K B means keeps further v (further w (through gone) reached p.can) n (subst (IsReceipted n) (sym (through_receipts K B w gone)) given) image (inl there))

-- a beginning of the list of calls is a moment of the disk
pub since_made : (held : Type 0) (start : List ℕ) (first before : ℕ) (made : List Made) (late : ℕ) (failed : Bool) (c k : ℕ) (image : List ℕ) → held → c ≤ k → k ≤ length made
    → Left start (take k (acts_of made)) image → (charted held start first before made late failed).since (first + c) image
since_made held start first before made late failed c k image h low high left =
    let count = length-map made act_of in
    (h, λ _. (k, omega (arith, low), omega (arith, high, count), left))

-- and the last moment is now
pub now_made : (held : Type 0) (start : List ℕ) (first before : ℕ) (made : List Made) (late : ℕ) (failed : Bool) (image : List ℕ)
    → (charted held start first before made late failed).since (first + length made) image → (charted held start first before made late failed).now image
now_made held start first before made late failed image is =
    let count = length-map made act_of in
    let there = is.1 (omega arith) in
    (is.0, subst (λ l. Left start l image) (take_all there.0 (acts_of made) (omega (arith, there.1, count))) there.3)

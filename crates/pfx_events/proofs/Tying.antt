-- A world's device calls, all of them or up to one that fails.
use Rattle.std.specs.Prelude.{◌≡◌, ◌≢◌, ℕ, ◌+◌, ◌-◌, ◌≤◌, ◌⊎◌, Option, List, [], ◌∷◌, ◌++◌, true, false, Some, Result, Ok, Err, OnOk, IfOk, IfErr, MatchResult, length, refl}
use Rattle.std.proofs.lemmas.Option.{same_Some}
use Rattle.std.proofs.Common.{sym, ◌∙◌, ap, subst, arith, inl, inr, ⊎_elim, append_assoc, append-nil, length-append}
use Rattle.pfx_disk.specs.CallsMade.{with_failed, LeavesAtMost, IsAfter, BrokeOff, HasMade, HasBrokenOff, HasKeptTo}
use Rattle.pfx_disk.specs.Disk.{View}
use Rattle.pfx_disk.specs.Stop.{Act, Sync, Left}
use Rattle.pfx_record_redo.specs.Applying.{applied}
use Rattle.pfx_record_redo.specs.Recording.{records_of}
use Rattle.pfx_record_redo.proofs.Outcomes.{records_outcome}
use Rattle.pfx_jobs.specs.Kind.{Kind, Laws}
use Rattle.pfx_store.specs.Stores.{PlainStore}
use Rattle.pfx_store.specs.Files.{FileOf, HasFile, appending, appended, recovered_file}
use Rattle.pfx_machine.specs.Outcome.{outcome}
use Rattle.pfx_machine.specs.Plain.{Plain, IsState}
use Rattle.pfx_machine.specs.Sessions.{IsAcceptable}
use Rattle.pfx_machine.specs.declared.command.Command.{Command}
use Rattle.pfx_record.specs.Batches.{PlainBatch, batch_bytes}
use Rattle.pfx_record.specs.Records.{Recorded}
use Rattle.pfx_store_format.specs.Format.{format}
use Rattle.pfx_store_image.specs.Store.{Replays}
use Rattle.pfx_machine.proofs.Compose.{outcome-none}
use Rattle.pfx_store_file.specs.declared.places.Places.{Places}
use Rattle.pfx_events_world.specs.Setting.{Setting, Settled}
use Rattle.pfx_events_world.specs.World.{World, new_world, state_at}
use Rattle.pfx_events_world.specs.Events.{Event, Device, Stop, Take, MayHappen, next_of, happens, run, CanRun, called, missed, stopped}
use Rattle.pfx_events_world.proofs.Machine.{next_accepted, next_outcome, take-take}
use Rattle.pfx_events.specs.Batches.{frames_of, joined, AreSmall}
use Rattle.pfx_events.specs.Reached.{AreAside, IsReached, going_world}
use Rattle.pfx_events.specs.Store.{frame_of, store_of}
use Rattle.pfx_events.specs.Ties.{Carries, through, broken_off, IsIn, IsTied}
use Rattle.pfx_events.proofs.Reaching.{reached_claims, reached_first, reached_on, reached_settled, reached_stays}
use Rattle.pfx_events.proofs.Batching.{frames_there, frames_grow}
use Rattle.pfx_events.proofs.Sound.{sound}

module _ {J : Type 0} (S : Setting J) (B : Plain J) where
  -- all calls to come went through
  record Gone (w v : World S) (calls : List Act) : Type 0 where
    pub none : v.coming ≡ []
    pub start : v.start ≡ w.start
    pub done : v.done ≡ w.done ++ calls
    pub place : v.place ≡ w.place
    pub accepted : v.book.accepted ≡ w.book.accepted
    pub taken : v.book.taken ≡ w.book.taken

  gone : (w : World S) (calls : List Act) → w.coming ≡ calls → w.book.halted ≡ false → CanRun S B w (through calls) × Gone w (run S B w (through calls)) calls
  gone w [] is free = (tt, record { none = is; start = refl; done = sym (append-nil w.done); place = refl; accepted = refl; taken = refl })
  gone w (act ∷ []) is free =
      let some : w.coming ≢ [] = λ none. cc in
      (((some, free), tt), subst (λ l. Gone w (called S w l) (act ∷ [])) (sym is) (record { none = refl; start = refl; done = refl; place = refl; accepted = refl; taken = refl }))
  gone w (act ∷ next ∷ coming) is free =
      let some : w.coming ≢ [] = λ none. cc in
      let rest = gone (called S w (act ∷ next ∷ coming)) (next ∷ coming) refl free in
      let here : CanRun S B (called S w w.coming) (through (next ∷ coming)) × Gone w (run S B (called S w w.coming) (through (next ∷ coming))) (act ∷ next ∷ coming) =
      subst (λ l. CanRun S B (called S w l) (through (next ∷ coming)) × Gone w (run S B (called S w l) (through (next ∷ coming))) (act ∷ next ∷ coming)) (sym is) (
        rest.0,
        record {
          none = rest.1.none;
          start = rest.1.start;
          done = rest.1.done ∙ append_assoc w.done (act ∷ []) (next ∷ coming);
          place = rest.1.place;
          accepted = rest.1.accepted;
          taken = rest.1.taken;
        },
      ) in
      (((some, free), here.0), here.1)

  -- some went through, and the next one failed
  record Stuck (w v : World S) (gone : List Act) (act : Act) : Type 0 where
    pub start : v.start ≡ w.start
    pub done : v.done ≡ with_failed (w.done ++ gone) act

  -- one call went through, and more are to come
  abbrev on : World S → Act → List Act → World S
  on w act coming = record w { coming = coming; done = w.done ++ act ∷ []; clock = w.clock + 1 }

  called_on : (w : World S) (act : Act) (gone : List Act) (last : Act) (rest : List Act) → called S w (act ∷ (gone ++ last ∷ rest)) ≡ on w act (gone ++ last ∷ rest)
  called_on w act [] last rest = refl
  called_on w act (next ∷ gone) last rest = refl

  stuck : (w : World S) (gone : List Act) (act : Act) (rest : List Act) → w.coming ≡ gone ++ act ∷ rest → w.book.halted ≡ false →
      CanRun S B w (broken_off gone) × Stuck w (run S B w (broken_off gone)) gone act
  stuck w [] act rest is free =
      let some : w.coming ≢ [] = λ none. cc in
      (((some, free), tt), subst (λ l. Stuck w (happens_missed l) [] act) (sym is) (record { start = refl; done = ap (λ l. with_failed l act) (sym (append-nil w.done)) }))
    where
      happens_missed : List Act → World S
      happens_missed l = missed S w l
  stuck w (one ∷ gone) act rest is free =
      let some : w.coming ≢ [] = λ none. cc in
      let more = stuck (on w one (gone ++ act ∷ rest)) gone act rest refl free in
      let same : called S w w.coming ≡ on w one (gone ++ act ∷ rest) = ap (called S w) is ∙ called_on w one gone act rest in
      let here : CanRun S B (called S w w.coming) (broken_off gone) × Stuck w (run S B (called S w w.coming) (broken_off gone)) (one ∷ gone) act =
      subst (λ v. CanRun S B v (broken_off gone) × Stuck w (run S B v (broken_off gone)) (one ∷ gone) act) (sym same)
      (more.0, record { start = more.1.start; done = more.1.done ∙ ap (λ l. with_failed l act) (append_assoc w.done (one ∷ []) gone) }) in
      (((some, free), here.0), here.1)

  -- some went through, and others are to come
  record Partly (w v : World S) (gone : List Act) : Type 0 where
    pub start : v.start ≡ w.start
    pub done : v.done ≡ w.done ++ gone

  partly : (w : World S) (first coming : List Act) → w.coming ≡ first ++ coming → w.book.halted ≡ false → CanRun S B w (through first) × Partly w (run S B w (through first)) first
  partly w first [] is free = let g = gone w first (is ∙ append-nil first) free in (g.0, record { start = g.1.start; done = g.1.done })
  partly w [] (act ∷ coming) is free = (tt, record { start = refl; done = sym (append-nil w.done) })
  partly w (one ∷ first) (act ∷ coming) is free =
      let some : w.coming ≢ [] = λ none. cc in
      let more = partly (on w one (first ++ act ∷ coming)) first (act ∷ coming) refl free in
      let same : called S w w.coming ≡ on w one (first ++ act ∷ coming) = ap (called S w) is ∙ called_on w one first act coming in
      let here : CanRun S B (called S w w.coming) (through first) × Partly w (run S B (called S w w.coming) (through first)) (one ∷ first) =
      subst (λ v. CanRun S B v (through first) × Partly w (run S B v (through first)) (one ∷ first)) (sym same)
      (more.0, record { start = more.1.start; done = more.1.done ∙ append_assoc w.done (one ∷ []) first }) in
      (((some, free), here.0), here.1)

module _ {J : Type 0} (K : Kind J) (B : Plain J) where
  -- a world whose calls to come were made of its disk, which was after those done
  module _ (w : World (store_of K)) (calls : List Act) (coming : w.coming ≡ calls) (free : w.book.halted ≡ false) (old new : View) (before : IsAfter old w.start w.done) where
    pub all_made : HasMade calls old new → (places : Places) (body : List ℕ) → HasFile K w.place places body →
        CanRun (store_of K) B w (through calls) × IsIn K (run (store_of K) B w (through calls)) places body new
    all_made made places body has =
        let g = gone (store_of K) B w calls coming free in (
          g.0,
          record {
            none = g.1.none;
            has = subst (λ p. HasFile K p places body) (sym g.1.place) has;
            after = subst (λ s. IsAfter new s (run (store_of K) B w (through calls)).done) (sym g.1.start) (subst (λ d. IsAfter new w.start d) (sym g.1.done) (made w.start w.done before));
          },
        )

    pub broke : HasBrokenOff calls old new →
        (gone : List Act) × CanRun (store_of K) B w (broken_off gone) × LeavesAtMost new (run (store_of K) B w (broken_off gone)).start (run (store_of K) B w (broken_off gone)).done
    broke broken =
        let b = broken w.start w.done before in
        let s = stuck (store_of K) B w b.gone b.act b.rest (coming ∙ sym b.are) free in (
          b.gone,
          s.0,
          subst (λ x. LeavesAtMost new x (run (store_of K) B w (broken_off b.gone)).done) (sym s.1.start) (subst (λ d. LeavesAtMost new w.start d) (sym s.1.done) b.images),
        )

    -- the book is as before, and a stop within these calls is one of the world behind some of them
    as_before : (run (store_of K) B w (through calls)).book.accepted ≡ w.book.accepted
    as_before = (gone (store_of K) B w calls coming free).1.accepted

    taken_before : (run (store_of K) B w (through calls)).book.taken ≡ w.book.taken
    taken_before = (gone (store_of K) B w calls coming free).1.taken

    pub kept_state : (t : Plain J) → t ≡ state_at (store_of K) B w.book.accepted w.book.taken →
        t ≡ state_at (store_of K) B (run (store_of K) B w (through calls)).book.accepted (run (store_of K) B w (through calls)).book.taken
    kept_state t is =
        let v = run (store_of K) B w (through calls) in
        subst (λ l. t ≡ state_at (store_of K) B l v.book.taken) (sym as_before) (subst (λ k. t ≡ state_at (store_of K) B w.book.accepted k) (sym taken_before) is)

    pub within : HasKeptTo calls old new → (c : ℕ) (image : List ℕ) → c ≤ old.clock → new.since c image → old.since c image
        ⊎ ((first : List Act) × CanRun (store_of K) B w (through first) × MayHappen (store_of K) B (run (store_of K) B w (through first)) (Stop image))
    within kept c image past left = ⊎_elim inl (λ m. inr (part m.0 m.1 m.2 m.3)) (kept w.start w.done before c image past left)
      where
        part : (first more : List Act) → first ++ more ≡ calls → Left w.start (w.done ++ first) image →
            (one : List Act) × CanRun (store_of K) B w (through one) × MayHappen (store_of K) B (run (store_of K) B w (through one)) (Stop image)
        part first more are is =
            let s = partly (store_of K) B w first more (coming ∙ sym are) free in
            let v = run (store_of K) B w (through first) in
            (first, s.0, inl (subst (λ x. Left x v.done image) (sym s.1.start) (subst (λ d. Left w.start d image) (sym s.1.done) is)))

  -- a stop, and the sync of an open
  pub reopened : (w : World (store_of K)) (image : List ℕ) (s : Plain J) (f : FileOf J) (old new : View) (places : Places) (body : List ℕ) → recovered_file K image ≡ Some (s, f) →
      IsAfter old image [] → HasMade (Sync ∷ []) old new → HasFile K f places body →
      CanRun (store_of K) B (happens (store_of K) B w (Stop image)) (Device true ∷ [])
      × (recovered_file K image ≡ Some (s, (run (store_of K) B w (Stop image ∷ Device true ∷ [])).place))
      × IsIn K (run (store_of K) B w (Stop image ∷ Device true ∷ [])) places body new
  reopened w image s f old new places body is before made has =
      subst (λ r. CanRun (store_of K) B (stopped (store_of K) B w image r) (Device true ∷ [])
      × (recovered_file K image ≡ Some (s, (run (store_of K) B (stopped (store_of K) B w image r) (Device true ∷ [])).place))
      × IsIn K (run (store_of K) B (stopped (store_of K) B w image r) (Device true ∷ [])) places body new) (sym is)
      ((((λ none. cc), refl), tt), is, record { none = refl; has = has; after = made image [] before })

  -- the store that opened the image that it found, as a run begins there
  pub begun : (image : List ℕ) (f : FileOf J) (old new : View) (places : Places) (body : List ℕ) → IsAfter old image [] → HasMade (Sync ∷ []) old new → HasFile K f places body →
      IsIn K (new_world (store_of K) B image f) places body new
  begun image f old new places body before made has =
      let after = made image [] before in
      record { none = refl; has = has; after = record { contents = after.contents; images = after.images } }

-- the calls and the file of an append, if the batch is of these commands at this state
module _ {J : Type 0} (K : Kind J) (f : FileOf J) (s t : Plain J) (H : List (Command J)) (batch : PlainBatch J) (same : s ≡ t) (carries : Carries K s H batch) where
  pub same_calls : appending K f s (batch_bytes K batch) ≡ (store_of K).calls f t H
  same_calls = ap (λ b. appending K f s (batch_bytes K b)) carries ∙ ap (λ (u : Plain J). appending K f u (frame_of K u H)) same

  pub same_file : appended K f s (batch_bytes K batch) ≡ (store_of K).moved f t H
  same_file = ap (λ b. appended K f s (batch_bytes K b)) carries ∙ ap (λ (u : Plain J). appended K f u (frame_of K u H)) same

-- what two clauses say of an answer
pub on_ok_both : {T E P Q R : Type 0} (r : Result T E) → OnOk r P → OnOk r Q → (P → Q → R) → OnOk r R
on_ok_both (Ok x) p q f = f p q
on_ok_both (Err e) p q f = tt

pub if_ok_both : {T E : Type 0} (P Q R : T → Type 0) (r : Result T E) → IfOk r P → IfOk r Q → ((x : T) → P x → Q x → R x) → IfOk r R
if_ok_both P Q R (Ok x) p q f = f x p q
if_ok_both P Q R (Err e) p q f = tt

pub if_err_then : {T E : Type 0} (P Q : E → Type 0) (r : Result T E) → ((e : E) → P e → Q e) → IfErr r P → IfErr r Q
if_err_then P Q (Ok x) f is = tt
if_err_then P Q (Err e) f is = f e is

pub on_ok_all : {T E P Q R U : Type 0} (r : Result T E) → OnOk r P → OnOk r Q → OnOk r R → (P → Q → R → U) → OnOk r U
on_ok_all (Ok x) p q s f = f p q s
on_ok_all (Err e) p q s f = tt

pub on_ok_then : {T E P Q : Type 0} (r : Result T E) → OnOk r P → (P → Q) → OnOk r Q
on_ok_then (Ok x) p f = f p
on_ok_then (Err e) p f = tt

pub if_ok_all : {T E : Type 0} (P Q R U : T → Type 0) (r : Result T E) → IfOk r P → IfOk r Q → IfOk r R → ((x : T) → P x → Q x → R x → U x) → IfOk r U
if_ok_all P Q R U (Ok x) p q s f = f x p q s
if_ok_all P Q R U (Err e) p q s f = tt

pub match_ok : {T E : Type 0} (P : T → Type 0) (Q : E → Type 0) (r : Result T E) → MatchResult r P Q → IfOk r P
match_ok P Q (Ok x) m = m
match_ok P Q (Err e) m = tt

-- where the one call that was to come is a sync that failed, all is as before
abbrev first : List Act → Act
first [] = Sync
first (act ∷ calls) = act

alone : (gone : List Act) (act : Act) (rest : List Act) → gone ++ act ∷ rest ≡ Sync ∷ [] → with_failed gone act ≡ []
alone [] act rest is = ap (λ l. with_failed [] (first l)) is
alone (one ∷ gone) act rest is = absurd (omega (arith, ap length is, length-append gone (act ∷ rest)))

pub still_one : (image : List ℕ) (new : View) → BrokeOff new image [] (Sync ∷ []) → LeavesAtMost new image []
still_one image new b = subst (λ d. LeavesAtMost new image d) (alone b.gone b.act b.rest b.are) b.images

-- what goes on from world to world: the store's state, and that a run leads there
module _ {J : Type 0} (K : Kind J) (L : Laws K) (B : Plain J) where
  -- the state that a batch of the next commands leads to
  pub taken_state : (w : World (store_of K)) (n : ℕ) (s t : Plain J) (batch : PlainBatch J) → IsReached (store_of K) B w → MayHappen (store_of K) B w (Take n) →
      s ≡ state_at (store_of K) B w.book.accepted w.book.taken → Carries K s (next_of (store_of K) w n) batch → applied K s batch.records ≡ Some t →
      t ≡ state_at (store_of K) B w.book.accepted (w.book.taken + n)
  taken_state w n s t batch reached may at carries led =
      let h = reached_claims (store_of K) (sound K L) B w reached in
      let H = next_of (store_of K) w n in
      let here = state_at (store_of K) B w.book.accepted w.book.taken in
      let all : IsAcceptable K here H = next_accepted K L B w.book.accepted w.book.taken n h.orderly.acceptable in
      let state : IsState here = h.orderly.fair w.book.taken (omega (arith, may.4)) in
      let wants : applied K here (records_of K here H) ≡ Some t =
      subst (λ (u : Plain J). applied K u (records_of K u H) ≡ Some t) at (subst (λ (l : List (Recorded J)). applied K s l ≡ Some t) (ap (λ (b : PlainBatch J). b.records) carries) led) in
      same_Some _ _ (sym wants ∙ records_outcome K L here H state all) ∙ next_outcome K L B w.book.accepted w.book.taken n

  -- the state that an open finds
  pub opened_state : (w : World (store_of K)) (image : List ℕ) (s : Plain J) (f : FileOf J) → recovered_file K image ≡ Some (s, f) →
      IsReached (store_of K) B (run (store_of K) B w (Stop image ∷ Device true ∷ [])) →
      s ≡ state_at (store_of K) B (run (store_of K) B w (Stop image ∷ Device true ∷ [])).book.accepted (run (store_of K) B w (Stop image ∷ Device true ∷ [])).book.taken
  opened_state w image s f is reached =
      let h = reached_claims (store_of K) (sound K L) B (run (store_of K) B w (Stop image ∷ Device true ∷ [])) reached in
      subst (λ r. s ≡ state_at (store_of K) B (synced r).book.accepted (synced r).book.taken) (sym is)
      (subst (λ r. (synced r).book.state ≡ outcome K B (synced r).book.accepted) is h.orderly.state
      ∙ ap (outcome K B) (sym (take-take (s.number - B.number) (s.number - B.number) w.book.accepted (omega arith))))
    where
      synced : Option (Plain J × FileOf J) → World (store_of K)
      synced r = run (store_of K) B (stopped (store_of K) B w image r) (Device true ∷ [])

  module _ {D : Type 0} (view : D → View) (w : World (store_of K)) (store : PlainStore D J) (tied : IsTied K view B w store) where
    -- what happens aside leaves the store tied
    pub stays_tied : (events : List (Event J)) → AreAside events → CanRun (store_of K) B w events → IsTied K view B (run (store_of K) B w events) store
    stays_tied events aside can =
        let v = run (store_of K) B w events in
        let s = reached_stays (store_of K) (sound K L) B w events aside tied.reached can in
        record {
          reached = reached_on (store_of K) B w events tied.reached can;
          there = record {
            none = s.none tied.there.none;
            has = subst (λ p. HasFile K p store.file.places store.spelled) (sym s.place) tied.there.has;
            after = subst (λ x. IsAfter (view store.file.disk) x v.done) (sym s.start) (subst (λ d. IsAfter (view store.file.disk) w.start d) (sym s.done) tied.there.after);
          };
          state = tied.state ∙ sym s.state;
          honest = tied.honest;
        }

    -- a run of its own begins where the store is
    pub tied_anew : w.broken ≡ false → IsTied K view store.state (going_world (store_of K) store.state w.start w.done w.place) store
    tied_anew whole =
        let settled = reached_settled (store_of K) (sound K L) B w tied.reached tied.there.none whole in
        record {
          reached = reached_first (store_of K) store.state w.start w.done w.place (subst (λ s. Settled (store_of K) w.start w.done s w.place) (sym tied.state) settled);
          there = record { none = refl; has = tied.there.has; after = tied.there.after };
          state = sym (outcome-none K store.state);
          honest = tied.honest;
        }

  -- one batch more is one frame more
  pub frames_grown : (s t : Plain J) (batches : List (List (Command J))) (H : List (Command J)) (batch : PlainBatch J) → t ≡ outcome K s (joined batches) → Carries K t H batch →
      frames_of K s batches ++ batch_bytes K batch ∷ [] ≡ frames_of K s (batches ++ H ∷ [])
  frames_grown s t batches H batch at carries =
      ap (λ l. frames_of K s batches ++ l ∷ []) (ap (batch_bytes K) carries ∙ ap (λ (u : Plain J). frame_of K u H) at) ∙ sym (frames_grow K L s batches H)

  pub frames_led : (s t : Plain J) (batches : List (List (Command J))) → IsState s → IsAcceptable K s (joined batches) → AreSmall batches → t ≡ outcome K s (joined batches) →
      Replays (format K) s (frames_of K s batches) t
  frames_led s t batches state all small at = subst (λ (u : Plain J). Replays (format K) s (frames_of K s batches) u) (sym at) (frames_there K L s batches state all small)

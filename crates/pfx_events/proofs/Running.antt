-- What can be done from a world at rest, over and over.
use Rattle.std.specs.Prelude.{◌≡◌, ◌≢◌, ℕ, ◌+◌, ◌-◌, ◌<◌, ◌≤◌, Bool, true, false, cond, List, [], ◌∷◌, ◌++◌, length, map, take, drop, Option, Some, None, slice_get, slice_set, refl}
use Rattle.std.proofs.Common.{sym, ◌∙◌, ap, subst, arith, inl, inr, append_assoc, append-nil, length-append}
use Rattle.std.proofs.lemmas.List.{length-take-le}
use Rattle.pfx_disk.specs.Stop.{Act, contents_after}
use Rattle.pfx_disk.proofs.Left.{here}
use Rattle.pfx_machine.specs.Batches.{IsBatchable}
use Rattle.pfx_machine.specs.Plain.{Plain}
use Rattle.pfx_machine.specs.Slots.{Deal}
use Rattle.pfx_machine.specs.Refusals.{refusal}
use Rattle.pfx_machine.specs.declared.command.Command.{Command}
use Rattle.pfx_machine.specs.declared.command.Command.TheVariants.{Slot}
use Rattle.pfx_events_world.specs.Calls.{MayLeave}
use Rattle.pfx_events_world.specs.Claims.{IsReceipted}
use Rattle.pfx_events_world.specs.Events.{Event, Ask, Begin, Step, Give, Seal, Take, Tend, Device, Publish, Mark, Receipt, Stop, IsIdle, MayHappen, CanRun, run, happens, called, stopped, run_once, made_by, give_one}
use Rattle.pfx_events_world.specs.Session.{Opened, AllBack, IsQuick, opening_of, given_in, back_in, gave}
use Rattle.pfx_events_world.specs.Setting.{Setting, IsSound}
use Rattle.pfx_events_world.specs.World.{World, state_at}
use Rattle.pfx_events_world.proofs.Holding.{Holds}
use Rattle.pfx_events_world.proofs.Keeping.{found_in, count_is, keeps}
use Rattle.pfx_events_world.proofs.Worked.{can_join}
use Rattle.pfx_events.specs.Reached.{IsAtRest, Reaches, IsStopped}
use Rattle.pfx_events.specs.Ties.{through}
use Rattle.pfx_events.proofs.Reaching.{run_join}

cond_same : (b : Bool) (x y : ℕ) → y ≡ x → cond b x y ≡ x
cond_same true x y is = refl
cond_same false x y is = is

module _ {X : Type 0} where
  got_at : (front : List X) (x : X) (rest : List X) → slice_get (front ++ x ∷ rest) (length front) ≡ Some x
  got_at [] x rest = refl
  got_at (y ∷ front) x rest = got_at front x rest

  set_at : (front : List X) (x y : X) (rest : List X) → slice_set (front ++ x ∷ rest) (length front) y ≡ front ++ y ∷ rest
  set_at [] x y rest = refl
  set_at (z ∷ front) x y rest = ap (λ l. z ∷ l) (set_at front x y rest)

one_back : {J : Type 0} (back : List (Option J)) (r : J) → AllBack back → AllBack (back ++ Some r ∷ [])
one_back [] r all = tt
one_back (None ∷ back) r all = absurd all
one_back (Some x ∷ back) r all = one_back back r all

-- one command alone may be a batch
one_batchable : {J : Type 0} (H : List (Command J)) → IsBatchable (take 1 H)
one_batchable [] = tt
one_batchable (c ∷ H) = tt

module _ {J : Type 0} (S : Setting J) (B : Plain J) where
  -- calls that go through leave the book but for its mark
  pub record Went (w v : World S) : Type 0 where
    pub none : v.coming ≡ []
    pub broken : v.broken ≡ w.broken
    pub halted : v.book.halted ≡ w.book.halted
    pub opened : v.book.opened ≡ w.book.opened
    pub accepted : v.book.accepted ≡ w.book.accepted
    pub taken : v.book.taken ≡ w.book.taken
    pub receipts : v.book.receipts ≡ w.book.receipts
    pub place : v.place ≡ w.place
    pub marked : w.book.marked ≡ w.book.taken → v.book.marked ≡ w.book.taken

  calls_go : (w : World S) (calls : List Act) → w.coming ≡ calls → w.book.halted ≡ false → CanRun S B w (through calls) × Went w (run S B w (through calls))
  calls_go w [] is free = (tt, record { none = is; broken = refl; halted = refl; opened = refl; accepted = refl; taken = refl; receipts = refl; place = refl; marked = λ m. m })
  calls_go w (act ∷ []) is free =
      let some : w.coming ≢ [] = λ none. cc in (
        ((some, free), tt),
        subst (λ l. Went w (called S w l)) (sym is) (record {
          none = refl;
          broken = refl;
          halted = refl;
          opened = refl;
          accepted = refl;
          taken = refl;
          receipts = refl;
          place = refl;
          marked = λ m. cond_same w.opening w.book.taken w.book.marked m;
        }),
      )
  calls_go w (act ∷ next ∷ coming) is free =
      let some : w.coming ≢ [] = λ none. cc in
      let rest = calls_go (called S w (act ∷ next ∷ coming)) (next ∷ coming) refl free in
      let at : CanRun S B (called S w w.coming) (through (next ∷ coming)) × Went w (run S B (called S w w.coming) (through (next ∷ coming))) =
      subst (λ l. CanRun S B (called S w l) (through (next ∷ coming)) × Went w (run S B (called S w l) (through (next ∷ coming)))) (sym is) (
        rest.0,
        record {
          none = rest.1.none;
          broken = rest.1.broken;
          halted = rest.1.halted;
          opened = rest.1.opened;
          accepted = rest.1.accepted;
          taken = rest.1.taken;
          receipts = rest.1.receipts;
          place = rest.1.place;
          marked = rest.1.marked;
        },
      ) in
      (((some, free), at.0), at.1)

  -- these events lead to this world at rest, and where the file's parts are there
  pub record Ends (w v : World S) (H : List (Command J)) (events : List (Event J)) : Type 0 where
    pub can : CanRun S B w events
    pub rests : IsAtRest S v
    pub accepted : v.book.accepted ≡ H
    pub receipt : IsReceipted (B.number + length H) v.book.receipts
    pub receipts : (n : ℕ) → IsReceipted n w.book.receipts → IsReceipted n v.book.receipts
    pub place : v.place ≡ S.moved w.place (state_at S B H w.book.taken) (take 1 (drop w.book.taken H))

  pub record Leads (w : World S) (H : List (Command J)) : Type 0 where
    pub events : List (Event J)
    pub ends : Ends w (run S B w events) H events

  pub reaches : (w : World S) (H : List (Command J)) → Leads w H → (events : List (Event J)) × Reaches S B w H events
  reaches w H l = (l.events, record { can = l.ends.can; rests = l.ends.rests; accepted = l.ends.accepted; receipt = l.ends.receipt; receipts = l.ends.receipts })

  -- the one command that isn't taken yet is taken, appended, published, marked and receipted
  flush : (w : World S) → w.coming ≡ [] → w.broken ≡ false → w.book.halted ≡ false → w.book.opened ≡ None → w.book.marked ≡ w.book.taken →
      w.book.taken + 1 ≡ length w.book.accepted → Leads w w.book.accepted
  flush w none whole free shut marked long =
      let taking = happens S B w (Take 1) in
      let g = calls_go taking taking.coming refl free in
      let v = run S B taking (through taking.coming) in
      let n = B.number + length w.book.accepted in
      let tail : List (Event J) = Publish ∷ Mark ∷ Receipt n ∷ [] in
      let idle : IsIdle S v = record { none = g.1.none; whole = g.1.broken ∙ whole; goes_on = g.1.halted ∙ free } in
      let again : IsIdle S (happens S B v Publish) = record { none = g.1.none; whole = g.1.broken ∙ whole; goes_on = g.1.halted ∙ free } in
      let low : n ≤ B.number + v.book.taken = omega (arith, g.1.taken, long) in
      let last : CanRun S B v (Publish ∷ Mark ∷ Receipt n ∷ []) = (idle, ((again, refl), (low, tt))) in
      let u = run S B v (Publish ∷ Mark ∷ Receipt n ∷ []) in
      record {
        events = Take 1 ∷ (through taking.coming ++ Publish ∷ Mark ∷ Receipt n ∷ []);
        ends = subst (λ (x : World S). Ends w x w.book.accepted (Take 1 ∷ (through taking.coming ++ Publish ∷ Mark ∷ Receipt n ∷ [])))
            (sym (run_join S B taking (through taking.coming) (Publish ∷ Mark ∷ Receipt n ∷ [])))
            (record {
              can = (
                (record { none = none; whole = whole; goes_on = free }, marked, omega arith, omega arith, omega (arith, long), one_batchable (drop w.book.taken w.book.accepted)),
                can_join S B taking (through taking.coming) (Publish ∷ Mark ∷ Receipt n ∷ []) g.0 last,
              );
              rests = record {
                none = g.1.none;
                whole = g.1.broken ∙ whole;
                goes_on = g.1.halted ∙ free;
                shut = g.1.opened ∙ shut;
                marked = refl;
                taken = g.1.taken ∙ (long ∙ ap length (sym g.1.accepted));
              };
              accepted = g.1.accepted;
              receipt = inl refl;
              receipts = λ m r. inr (subst (IsReceipted m) (sym g.1.receipts) r);
              place = g.1.place;
            });
      }

  -- a command is asked
  pub command_goes : (w : World S) (c : Command J) → IsAtRest S w → IsQuick c → refusal S.kind w.book.state c ≡ None → Leads w (w.book.accepted ++ c ∷ [])
  command_goes w c rest quick free =
      let f = flush (happens S B w (Ask c)) rest.none rest.whole rest.goes_on rest.shut rest.marked (omega (arith, rest.taken, length-append w.book.accepted (c ∷ []))) in
      record {
        events = Ask c ∷ f.events;
        ends = record {
          can = ((quick, rest.shut, rest.goes_on, free), f.ends.can);
          rests = f.ends.rests;
          accepted = f.ends.accepted;
          receipt = f.ends.receipt;
          receipts = f.ends.receipts;
          place = f.ends.place;
        };
      }

  -- all quanta of the open slot are run and given back
  record Given (w v : World S) : Type 0 where
    pub slot : Opened J
    pub is : v.book.opened ≡ Some slot
    pub all : AllBack slot.back
    pub none : v.coming ≡ w.coming
    pub broken : v.broken ≡ w.broken
    pub halted : v.book.halted ≡ w.book.halted
    pub accepted : v.book.accepted ≡ w.book.accepted
    pub taken : v.book.taken ≡ w.book.taken
    pub marked : v.book.marked ≡ w.book.marked
    pub receipts : v.book.receipts ≡ w.book.receipts
    pub place : v.place ≡ w.place

  record Gives (w : World S) : Type 0 where
    pub events : List (Event J)
    pub can : CanRun S B w events
    pub given : Given w (run S B w events)

  gives : (w : World S) (o : Opened J) (front rest : List (Deal J)) (back : List (Option J)) → w.book.opened ≡ Some o → o.quanta ≡ front ++ rest →
      o.back ≡ back ++ map (λ d. None) rest → length front ≡ length back → AllBack back → Gives w
  gives w o front [] back is quanta backs long all = record {
    events = [];
    can = tt;
    given = record {
      slot = o;
      is = is;
      all = subst AllBack (sym (backs ∙ append-nil back)) all;
      none = refl;
      broken = refl;
      halted = refl;
      accepted = refl;
      taken = refl;
      marked = refl;
      receipts = refl;
      place = refl;
    };
  }
  gives w o front (d ∷ rest) back is quanta backs long all =
      let i = length back in
      let r = S.kind.stepped d.before in
      let u = happens S B w (Step i) in
      let next : World S = record u { book = gave i r u.book } in
      let here : slice_get o.quanta i ≡ Some d = subst (λ k. slice_get o.quanta k ≡ Some d) long (ap (λ l. slice_get l (length front)) quanta ∙ got_at front d rest) in
      let open_here : slice_get o.back i ≡ Some None = ap (λ l. slice_get l i) backs ∙ got_at back None (map (λ d. None) rest) in
      let made : u.made ≡ (d, r) ∷ w.made = ap (λ x. made_by S.kind i x w.made) is ∙ ap (λ x. run_once S.kind x w.made) here in
      let first : slice_get u.made 0 ≡ Some (d, r) = ap (λ l. slice_get l 0) made in
      let same : happens S B u (Give 0 i) ≡ next = ap (give_one S u i) first in
      let more = gives next (given_in i r o) (front ++ d ∷ []) rest (back ++ Some r ∷ []) (ap (back_in i r) is)
      (quanta ∙ sym (append_assoc front (d ∷ []) rest))
      (ap (λ l. slice_set l i (Some r)) backs ∙ (set_at back None (Some r) (map (λ d. None) rest) ∙ sym (append_assoc back (Some r ∷ []) (map (λ d. None) rest))))
      (omega (arith, long, length-append front (d ∷ []), length-append back (Some r ∷ [])))
      (one_back back r all) in
      let g = more.given in
      let goes : Given w (run S B next more.events) = record {
        slot = g.slot;
        is = g.is;
        all = g.all;
        none = g.none;
        broken = g.broken;
        halted = g.halted;
        accepted = g.accepted;
        taken = g.taken;
        marked = g.marked;
        receipts = g.receipts;
        place = g.place;
      } in
      record {
        events = Step i ∷ Give 0 i ∷ more.events;
        can = ((o, d, is, here), (((d, r), first, (o, is, here, open_here)), subst (λ x. CanRun S B x more.events) (sym same) more.can));
        given = subst (λ x. Given w (run S B x more.events)) (sym same) goes;
      }

  moved_same : (p q : S.Parts) (H G : List (Command J)) (n m : ℕ) → p ≡ q → H ≡ G → n ≡ m →
      S.moved p (state_at S B H n) (take 1 (drop n H)) ≡ S.moved q (state_at S B G m) (take 1 (drop m G))
  moved_same p q H G n m a b d =
      ap (λ x. S.moved x (state_at S B H n) (take 1 (drop n H))) a
      ∙ (ap (λ l. S.moved q (state_at S B l n) (take 1 (drop n l))) b ∙ ap (λ k. S.moved q (state_at S B G k) (take 1 (drop k G))) d)

  -- a slot is opened, run and sealed
  pub slot_goes : (w : World S) → IsAtRest S w → refusal S.kind w.book.state Slot ≡ None → Leads w (w.book.accepted ++ Slot ∷ [])
  slot_goes w rest free =
      let u = happens S B w Begin in
      let o = opening_of S.kind w.book.state in
      let g = gives u o [] o.quanta [] refl refl refl refl tt in
      let v = run S B u g.events in
      let h = g.given in
      let sealed_world = happens S B v Seal in
      let list : sealed_world.book.accepted ≡ w.book.accepted ++ Slot ∷ [] = ap (λ l. l ++ Slot ∷ []) h.accepted in
      let f = flush sealed_world (h.none ∙ rest.none) (h.broken ∙ rest.whole) (h.halted ∙ rest.goes_on) refl (h.marked ∙ (rest.marked ∙ sym h.taken))
      (omega (arith, h.taken, rest.taken, ap length list, length-append w.book.accepted (Slot ∷ []))) in
      let after : CanRun S B v (Seal ∷ f.events) = ((h.slot, h.is, h.all), f.ends.can) in
      let all : Ends w (run S B v (Seal ∷ f.events)) (w.book.accepted ++ Slot ∷ []) (Begin ∷ (g.events ++ Seal ∷ f.events)) = record {
        can = ((rest.shut, rest.goes_on, free), can_join S B u g.events (Seal ∷ f.events) g.can after);
        rests = f.ends.rests;
        accepted = f.ends.accepted ∙ list;
        receipt = subst (λ l. IsReceipted (B.number + length l) (run S B v (Seal ∷ f.events)).book.receipts) list f.ends.receipt;
        receipts = λ m r. f.ends.receipts m (subst (IsReceipted m) (sym h.receipts) r);
        place = f.ends.place ∙ moved_same sealed_world.place w.place sealed_world.book.accepted (w.book.accepted ++ Slot ∷ []) sealed_world.book.taken w.book.taken h.place list h.taken;
      } in
      record {
        events = Begin ∷ (g.events ++ Seal ∷ f.events);
        ends = subst (λ (x : World S). Ends w x (w.book.accepted ++ Slot ∷ []) (Begin ∷ (g.events ++ Seal ∷ f.events))) (sym (run_join S B u g.events (Seal ∷ f.events))) all;
      }

  -- a step of the checkpoint in progress
  pub step_goes : (w : World S) → IsAtRest S w → S.tends w.place ≢ [] →
      CanRun S B w (Tend ∷ through (S.tends w.place)) × IsAtRest S (run S B w (Tend ∷ through (S.tends w.place)))
      × Went (happens S B w Tend) (run S B w (Tend ∷ through (S.tends w.place)))
  step_goes w rest some =
      let u = happens S B w Tend in
      let g = calls_go u (S.tends w.place) refl rest.goes_on in
      let h = g.1 in (
        ((record { none = rest.none; whole = rest.whole; goes_on = rest.goes_on }, rest.marked, some), g.0),
        record {
          none = h.none;
          whole = h.broken ∙ rest.whole;
          goes_on = h.halted ∙ rest.goes_on;
          shut = h.opened ∙ rest.shut;
          marked = h.marked rest.marked ∙ sym h.taken;
          taken = h.taken ∙ (rest.taken ∙ ap length (sym h.accepted));
        },
        h,
      )

  -- the sync of the next start
  synced : (sound : IsSound S) (w : World S) (left : List ℕ) → Holds S B w → MayLeave w.start w.done w.coming left →
      CanRun S B (happens S B w (Stop left)) (Device true ∷ []) × IsAtRest S (run S B w (Stop left ∷ Device true ∷ []))
      × ((run S B w (Stop left ∷ Device true ∷ [])).book.receipts ≡ w.book.receipts)
  synced sound w left h may =
      let f = found_in S sound B w h left may in
      let s = state_at S B w.book.accepted f.0 in
      let n : s.number - B.number ≡ f.0 = count_is S sound B w f.0 f.2 in
      let long : s.number - B.number ≡ length (take (s.number - B.number) w.book.accepted) =
      sym (length-take-le (s.number - B.number) w.book.accepted (omega (arith, n, f.2))) in
      subst (λ o. CanRun S B (stopped S B w left o) (Device true ∷ []) × IsAtRest S (run S B (stopped S B w left o) (Device true ∷ []))
      × ((run S B (stopped S B w left o) (Device true ∷ [])).book.receipts ≡ w.book.receipts)) (sym f.4)
      ((((λ none. cc), refl), tt), record { none = refl; whole = refl; goes_on = refl; shut = refl; marked = refl; taken = long }, refl)

  with_calls : (sound : IsSound S) (w : World S) (c : Command J) (calls : List Act) → IsAtRest S w → IsQuick c → refusal S.kind w.book.state c ≡ None → Holds S B w →
      (run S B w (Ask c ∷ Take 1 ∷ [])).coming ≡ calls → 0 < length calls → (left : List ℕ) × IsStopped S B w c left
  with_calls sound w c [] rest quick free h is some = absurd (omega (arith, some))
  with_calls sound w c (act ∷ calls) rest quick free h is some =
      let u = happens S B w (Ask c) in
      let v = happens S B u (Take 1) in
      let left = contents_after w.start (w.done ++ act ∷ []) in
      let may : MayLeave w.start w.done v.coming left =
      subst (λ l. MayLeave w.start w.done l left) (sym is) (inr (here w.start (λ i. i ≡ w.start) (w.done ++ act ∷ []) refl)) in
      let ask : MayHappen S B w (Ask c) = (quick, rest.shut, rest.goes_on, free) in
      let take_one : MayHappen S B u (Take 1) =
      (record { none = rest.none; whole = rest.whole; goes_on = rest.goes_on }, rest.marked, omega arith, omega arith, omega (arith, rest.taken, length-append w.book.accepted (c ∷ [])), one_batchable (drop u.book.taken u.book.accepted)) in
      let after = keeps S sound B u (Take 1) (keeps S sound B w (Ask c) h ask) take_one in
      let s = synced sound v left after may in (
        left,
        record {
          can = (ask, (take_one, (may, s.0)));
          under_way = λ none. let no : act ∷ calls ≡ [] = sym is ∙ none in absurd cc;
          rests = s.1;
          receipts = s.2;
        },
      )

  pub stop_goes : (sound : IsSound S) (w : World S) (c : Command J) → IsAtRest S w → IsQuick c → refusal S.kind w.book.state c ≡ None → Holds S B w → (left : List ℕ) × IsStopped S B w c left
  stop_goes sound w c rest quick free h =
      let v = run S B w (Ask c ∷ Take 1 ∷ []) in
      with_calls sound w c v.coming rest quick free h refl (sound.some_calls w.place _ _)

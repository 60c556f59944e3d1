-- What holds of the worlds that a run leads to, from a store just found or from one that goes on.
use Rattle.std.specs.Prelude.{◌≡◌, ℕ, List, [], ◌∷◌, ◌++◌, take, Bool, true, false, refl}
use Rattle.std.proofs.Common.{zero, suc, sym, ◌∙◌, ap, subst, arith, append-nil, inl, inr, ⊎_elim}
use Rattle.std.proofs.lemmas.List.{take-append-le}
use Rattle.pfx_disk.specs.Stop.{Act}
use Rattle.pfx_machine.specs.Plain.{Plain, IsState}
use Rattle.pfx_machine.specs.Outcome.{outcome}
use Rattle.pfx_machine.specs.declared.command.Command.{Command}
use Rattle.pfx_machine.specs.declared.command.Command.TheVariants.{Slot}
use Rattle.pfx_machine.proofs.Compose.{outcome-none}
use Rattle.pfx_events_world.specs.Calls.{MayLeave}
use Rattle.pfx_events_world.specs.Setting.{Setting, Settled, IsSound}
use Rattle.pfx_events_world.specs.World.{World, new_world, state_at}
use Rattle.pfx_events_world.specs.Events.{Event, Ask, Begin, Step, Give, Seal, Abandon, Take, Tend, Device, Publish, Mark, Fail, Receipt, Look, Stop, MayHappen, run, CanRun, happens, give_one, stopped}
use Rattle.pfx_events_world.specs.Claims.{IsNew, IsRecovered}
use Rattle.pfx_events_world.proofs.Machine.{number_at, begins_all}
use Rattle.pfx_events_world.proofs.Paths.{leads_nowhere, settled_at}
use Rattle.pfx_events_world.proofs.Holding.{Holds, DiskIs}
use Rattle.pfx_events_world.proofs.Keeping.{keeps, keeps_all, found_in, count_is, later}
use Rattle.pfx_events_world.proofs.Worked.{can_join}
use Rattle.pfx_events.specs.Reached.{IsAside, AreAside, going_world, IsReached, KeepsClaims}

module _ {J : Type 0} (S : Setting J) (B : Plain J) where
  pub run_join : (w : World S) (one two : List (Event J)) → run S B w (one ++ two) ≡ run S B (run S B w one) two
  run_join w [] two = refl
  run_join w (e ∷ one) two = run_join (happens S B w e) one two

  pub reached_on : (w : World S) (events : List (Event J)) → IsReached S B w → CanRun S B w events → IsReached S B (run S B w events)
  reached_on w events r can =
      let first = going_world S B r.image r.done r.place in
      record {
        image = r.image;
        done = r.done;
        place = r.place;
        events = r.events ++ events;
        settled = r.settled;
        can = can_join S B first r.events events r.can (subst (λ v. CanRun S B v events) (sym r.is) can);
        is = run_join first r.events events ∙ ap (λ v. run S B v events) r.is;
      }

  pub reached_first : (image : List ℕ) (done : List Act) (p : S.Parts) → Settled S image done B p → IsReached S B (going_world S B image done p)
  reached_first image done p settled = record { image = image; done = done; place = p; events = []; settled = settled; can = tt; is = refl }

module _ {J : Type 0} (S : Setting J) (sound : IsSound S) (B : Plain J) where
  none_at : state_at S B [] 0 ≡ B
  none_at = outcome-none S.kind B

  pub reached_new : (image : List ℕ) (p : S.Parts) (events : List (Event J)) → IsNew S B image p → CanRun S B (new_world S B image p) events → IsReached S B (run S B (new_world S B image p) events)
  reached_new image p events new can = record {
    image = image;
    done = [];
    place = p;
    events = events;
    settled = settled_at S sound image B p (sound.found image B p new);
    can = can;
    is = refl;
  }

  -- a world at the start of a run
  going_holds : (image : List ℕ) (done : List Act) (p : S.Parts) → Settled S image done B p → Holds S B (going_world S B image done p)
  going_holds image done p settled = record {
    acceptable = tt;
    fair = λ k low. fair_at k;
    state_is = sym none_at;
    slot_ok = λ o is. absurd cc;
    made_right = λ k m is. absurd cc;
    taken_in = omega arith;
    kept_in = omega arith;
    marked_in = omega arith;
    published_in = begins_all [];
    readers_in = λ r. begins_all [];
    receipts_in = λ n r. absurd r;
    disk = record {
      base = done;
      gone = [];
      from = p;
      settled = subst (λ s. Settled S image done s p) (sym none_at) settled;
      leads = leads_nowhere S sound _ p;
      done_is = append-nil done;
    };
    rest = λ whole none. refl;
  }
    where
      here : IsState B
      here = sound.states _ B p (sound.whole_stands _ B p settled.whole)

      fair_at : (k : ℕ) → IsState (state_at S B [] k)
      fair_at zero = subst (λ s. IsState s) (sym none_at) here
      fair_at (suc k) = subst (λ s. IsState s) (sym none_at) here

  pub reached_holds : (w : World S) → IsReached S B w → Holds S B w
  reached_holds w r =
      let first = going_world S B r.image r.done r.place in
      subst (λ v. Holds S B v) r.is (keeps_all S sound B first r.events (going_holds r.image r.done r.place r.settled) r.can)

  recovered_at : (w : World S) (image : List ℕ) → Holds S B w → MayLeave w.start w.done w.coming image → IsRecovered S B w (stopped S B w image (S.recovered image)) image
  recovered_at w image h may =
      let f = found_in S sound B w h image may in
      let k = f.0 in
      let n = count_is S sound B w k f.2 in
      subst (λ o. IsRecovered S B w (stopped S B w image o) image) (sym f.4) (record {
        front = ⊎_elim (λ is. inl (ap (λ j. take j w.book.accepted) (n ∙ is))) (λ is. inr (ap (λ j. take j w.book.accepted) (n ∙ is))) f.5;
        state = ap (state_at S B w.book.accepted) (sym n);
        found = (f.1, f.4);
        receipts = refl;
        holds = λ m r. omega (arith, number_at S.kind sound.jobs B w.book.accepted k f.2, h.receipts_in m r, f.3);
      })

  pub holds_claims : (w : World S) → Holds S B w → KeepsClaims S B w
  holds_claims w h = record {
    orderly = record { acceptable = h.acceptable; state = h.state_is; fair = h.fair };
    shown = record { kept = omega (arith, h.kept_in, h.taken_in); published = h.published_in; readers = h.readers_in };
    survived = record {
      always = record {
        each = λ i may. let f = found_in S sound B w h i may in
            (f.0, f.1, f.2, f.4, omega (arith, number_at S.kind sound.jobs B w.book.accepted f.0 f.2));
      };
      receipted = λ n r. record {
        each = λ i may. let f = found_in S sound B w h i may in
            (f.0, f.1, f.2, f.4, omega (arith, number_at S.kind sound.jobs B w.book.accepted f.0 f.2, h.receipts_in n r, f.3));
      };
    };
    recovers = λ left may. recovered_at w left h may;
    later = λ e may. later S sound B w e h may;
  }

  pub reached_claims : (w : World S) → IsReached S B w → KeepsClaims S B w
  reached_claims w r = holds_claims w (reached_holds w r)

  -- where no call is to come and none has failed, the disk is settled at what was taken: another run may begin there
  settled_by : (b : Bool) (start : List ℕ) (done coming : List Act) (p : S.Parts) (before after : Plain J) → DiskIs S b start done coming p before after → b ≡ false → coming ≡ [] → Settled S start done after p
  settled_by true start done coming p before after disk whole none = absurd cc
  settled_by false start done coming p before after disk whole none =
      subst (λ l. Settled S start l after p) (ap (λ c. disk.base ++ (disk.gone ++ c)) none ∙ (ap (λ l. disk.base ++ l) (append-nil disk.gone) ∙ disk.done_is))
      (disk.leads.ends start disk.base disk.settled)

  pub reached_settled : (w : World S) → IsReached S B w → w.coming ≡ [] → w.broken ≡ false → Settled S w.start w.done (state_at S B w.book.accepted w.book.taken) w.place
  reached_settled w r none whole =
      let h = reached_holds w r in
      settled_by w.broken w.start w.done w.coming w.place _ _ h.disk whole none

  -- what an event leaves as it was with which the store has nothing to do
  pub record Stays (w v : World S) : Type 0 where
    pub none : w.coming ≡ [] → v.coming ≡ []
    pub place : v.place ≡ w.place
    pub start : v.start ≡ w.start
    pub done : v.done ≡ w.done
    pub state : state_at S B v.book.accepted v.book.taken ≡ state_at S B w.book.accepted w.book.taken

  state_before : (w : World S) (c : Command J) → Holds S B w → state_at S B (w.book.accepted ++ c ∷ []) w.book.taken ≡ state_at S B w.book.accepted w.book.taken
  state_before w c h = ap (outcome S.kind B) (take-append-le w.book.taken w.book.accepted (c ∷ []) h.taken_in)

  stays : (w : World S) (e : Event J) → IsAside e → Holds S B w → MayHappen S B w e → Stays w (happens S B w e)
  stays w (Ask c) aside h may = record { none = λ n. n; place = refl; start = refl; done = refl; state = state_before w c h }
  stays w Begin aside h may = record { none = λ n. n; place = refl; start = refl; done = refl; state = refl }
  stays w (Step k) aside h may = record { none = λ n. n; place = refl; start = refl; done = refl; state = refl }
  stays w (Give k place) aside h may =
      subst (λ o. Stays w (give_one S w place o)) (sym may.1) (record { none = λ n. n; place = refl; start = refl; done = refl; state = refl })
  stays w Seal aside h may = record { none = λ n. n; place = refl; start = refl; done = refl; state = state_before w Slot h }
  stays w Abandon aside h may = record { none = λ n. n; place = refl; start = refl; done = refl; state = refl }
  stays w (Take n) aside h may = absurd aside
  stays w Tend aside h may = absurd aside
  stays w (Device ok) aside h may = absurd aside
  stays w Publish aside h may = record { none = λ n. n; place = refl; start = refl; done = refl; state = refl }
  stays w Mark aside h may = record { none = λ n. n; place = refl; start = refl; done = refl; state = refl }
  stays w Fail aside h may = record { none = λ n. refl; place = refl; start = refl; done = refl; state = refl }
  stays w (Receipt n) aside h may = record { none = λ n. n; place = refl; start = refl; done = refl; state = refl }
  stays w (Look reader n) aside h may = record { none = λ n. n; place = refl; start = refl; done = refl; state = refl }
  stays w (Stop image) aside h may = absurd aside

  stays_on : (u v w : World S) → Stays u v → Stays v w → Stays u w
  stays_on u v w a b = record {
    none = λ n. b.none (a.none n);
    place = b.place ∙ a.place;
    start = b.start ∙ a.start;
    done = b.done ∙ a.done;
    state = b.state ∙ a.state;
  }

  stays_all : (w : World S) (events : List (Event J)) → AreAside events → Holds S B w → CanRun S B w events → Stays w (run S B w events)
  stays_all w [] aside h can = record { none = λ n. n; place = refl; start = refl; done = refl; state = refl }
  stays_all w (e ∷ events) aside h can =
      let v = happens S B w e in
      stays_on w v (run S B v events) (stays w e aside.0 h can.0) (stays_all v events aside.1 (keeps S sound B w e h can.0) can.1)

  pub reached_stays : (w : World S) (events : List (Event J)) → AreAside events → IsReached S B w → CanRun S B w events → Stays w (run S B w events)
  reached_stays w events aside r can = stays_all w events aside (reached_holds w r) can

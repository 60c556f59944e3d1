-- The claims of a whole run.
use Rattle.std.specs.Prelude.{◌≡◌, ℕ, ◌-◌, List, [], ◌∷◌, ◌++◌, take, refl}
use Rattle.std.proofs.Common.{zero, suc, sym, ◌∙◌, ap, subst, arith, inl, inr, ⊎_elim}
use Rattle.pfx_machine.specs.Plain.{Plain, IsState}
use Rattle.pfx_machine.proofs.Compose.{outcome-none}
use Rattle.pfx_events_world.specs.Calls.{MayLeave}
use Rattle.pfx_events_world.specs.Setting.{Setting, IsSound}
use Rattle.pfx_events_world.specs.World.{World, new_world, state_at}
use Rattle.pfx_events_world.specs.Events.{Event, Stop, MayHappen, run, CanRun, happens, stopped}
use Rattle.pfx_events_world.specs.Claims.{IsNew, IsOrderly, IsShown, HasSurvived, IsRecovered, IsLater}
use Rattle.pfx_events_world.proofs.Machine.{number_at, begins_all}
use Rattle.pfx_events_world.proofs.Paths.{leads_nowhere, settled_at}
use Rattle.pfx_events_world.proofs.Holding.{Holds}
use Rattle.pfx_events_world.proofs.Keeping.{keeps_all, found_in, count_is, later}

module _ {J : Type 0} (S : Setting J) (sound : IsSound S) (B : Plain J) where
  none_at : state_at S B [] 0 ≡ B
  none_at = outcome-none S.kind B

  -- a new world
  new_holds : (image : List ℕ) (p : S.Parts) → IsNew S B image p → Holds S B (new_world S B image p)
  new_holds image p new =
      let stands = subst (λ s. S.whole image s p) (sym none_at) (sound.found image B p new) in
      record {
        acceptable = tt;
        fair = λ k low. fair_at k;
        state_is = sym (outcome-none S.kind B);
        slot_ok = λ o is. absurd cc;
        made_right = λ k m is. absurd cc;
        taken_in = omega arith;
        kept_in = omega arith;
        marked_in = omega arith;
        published_in = begins_all [];
        readers_in = λ r. begins_all [];
        receipts_in = λ n r. absurd r;
        disk = record { base = []; gone = []; from = p; settled = settled_at S sound image _ p stands; leads = leads_nowhere S sound _ p; done_is = refl };
        rest = λ whole none. refl;
      }
    where
      fair_at : (k : ℕ) → IsState (state_at S B [] k)
      fair_at zero = subst (λ s. IsState s) (sym none_at) (sound.states image B p (sound.whole_stands image B p (sound.found image B p new)))
      fair_at (suc k) = subst (λ s. IsState s) (sym none_at) (sound.states image B p (sound.whole_stands image B p (sound.found image B p new)))

  module _ (image : List ℕ) (p : S.Parts) (events : List (Event J)) (new : IsNew S B image p) where
    holds : CanRun S B (new_world S B image p) events → Holds S B (run S B (new_world S B image p) events)
    holds can = keeps_all S sound B (new_world S B image p) events (new_holds image p new) can

    pub orderly : CanRun S B (new_world S B image p) events → IsOrderly S B (run S B (new_world S B image p) events)
    orderly can = let h = holds can in record { acceptable = h.acceptable; state = h.state_is; fair = h.fair }

    pub shown : CanRun S B (new_world S B image p) events → IsShown S B (run S B (new_world S B image p) events)
    shown can = let h = holds can in record { kept = omega (arith, h.kept_in, h.taken_in); published = h.published_in; readers = h.readers_in }

    pub survived : CanRun S B (new_world S B image p) events → HasSurvived S B (run S B (new_world S B image p) events)
    survived can = survives (run S B (new_world S B image p) events) (holds can)
      where
        survives : (w : World S) → Holds S B w → HasSurvived S B w
        survives w h = record {
          always = record {
            each = λ i may. let f = found_in S sound B w h i may in
                (f.0, f.1, f.2, f.4, omega (arith, number_at S.kind sound.jobs B w.book.accepted f.0 f.2));
          };
          receipted = λ n r. record {
            each = λ i may. let f = found_in S sound B w h i may in
                (f.0, f.1, f.2, f.4, omega (arith, number_at S.kind sound.jobs B w.book.accepted f.0 f.2, h.receipts_in n r, f.3));
          };
        }

  recovered_at : (w : World S) (image : List ℕ) → Holds S B w → MayLeave w.start w.done w.coming image → IsRecovered S B w (stopped S B w image (S.recovered image)) image
  recovered_at w image h may =
      let f = found_in S sound B w h image may in
      let k = f.0 in
      let s = state_at S B w.book.accepted k in
      let n : s.number - B.number ≡ k = count_is S sound B w k f.2 in
      subst (λ o. IsRecovered S B w (stopped S B w image o) image) (sym f.4) (record {
        front = ⊎_elim (λ is. inl (ap (λ j. take j w.book.accepted) (n ∙ is))) (λ is. inr (ap (λ j. take j w.book.accepted) (n ∙ is))) f.5;
        state = ap (state_at S B w.book.accepted) (sym n);
        found = (f.1, f.4);
        receipts = refl;
        holds = λ m r. omega (arith, number_at S.kind sound.jobs B w.book.accepted k f.2, h.receipts_in m r, f.3);
      })

  can_front : (w : World S) (es : List (Event J)) (e : Event J) → CanRun S B w (es ++ e ∷ []) → CanRun S B w es
  can_front w [] e can = tt
  can_front w (d ∷ es) e can = (can.0, can_front (happens S B w d) es e can.1)

  can_end : (w : World S) (es : List (Event J)) (e : Event J) → CanRun S B w (es ++ e ∷ []) → MayHappen S B (run S B w es) e
  can_end w [] e can = can.0
  can_end w (d ∷ es) e can = can_end (happens S B w d) es e can.1

  can_last : (w : World S) (es : List (Event J)) (image : List ℕ) → CanRun S B w (es ++ Stop image ∷ []) →
      MayLeave (run S B w es).start (run S B w es).done (run S B w es).coming image
  can_last w [] image can = can.0
  can_last w (d ∷ es) image can = can_last (happens S B w d) es image can.1

  run_last : (w : World S) (es : List (Event J)) (e : Event J) → run S B w (es ++ e ∷ []) ≡ happens S B (run S B w es) e
  run_last w [] e = refl
  run_last w (d ∷ es) e = run_last (happens S B w d) es e

  pub recovers : (image : List ℕ) (p : S.Parts) (events : List (Event J)) (left : List ℕ) → IsNew S B image p → CanRun S B (new_world S B image p) (events ++ Stop left ∷ []) →
      IsRecovered S B (run S B (new_world S B image p) events) (run S B (new_world S B image p) (events ++ Stop left ∷ [])) left
  recovers image p events left new can =
      let w = run S B (new_world S B image p) events in
      let h = keeps_all S sound B (new_world S B image p) events (new_holds image p new) (can_front (new_world S B image p) events (Stop left) can) in
      subst (λ z. IsRecovered S B w z left) (sym (run_last (new_world S B image p) events (Stop left)))
      (recovered_at w left h (can_last (new_world S B image p) events left can))

  pub never_back : (image : List ℕ) (p : S.Parts) (events : List (Event J)) (e : Event J) → IsNew S B image p → CanRun S B (new_world S B image p) (events ++ e ∷ []) →
      IsLater S (run S B (new_world S B image p) events) (run S B (new_world S B image p) (events ++ e ∷ []))
  never_back image p events e new can =
      let w = run S B (new_world S B image p) events in
      let h = keeps_all S sound B (new_world S B image p) events (new_holds image p new) (can_front (new_world S B image p) events e can) in
      subst (λ z. IsLater S w z) (sym (run_last (new_world S B image p) events e)) (later S sound B w e h (can_end (new_world S B image p) events e can))

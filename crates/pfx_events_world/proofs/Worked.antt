-- A run of any store that takes a command, appends it and gives a receipt for it: what the claims speak of does happen.
use Rattle.std.specs.Prelude.{◌≡◌, ◌≢◌, ℕ, ◌+◌, ◌<◌, ◌≤◌, true, false, List, [], ◌∷◌, ◌++◌, length, take, None, refl}
use Rattle.std.proofs.Common.{sym, subst, arith, inl}
use Rattle.pfx_disk.specs.Stop.{Act}
use Rattle.pfx_machine.specs.Plain.{Plain}
use Rattle.pfx_machine.specs.Refusals.{refusal}
use Rattle.pfx_machine.specs.declared.command.Command.{Command}
use Rattle.pfx_events_world.specs.Setting.{Setting, IsSound}
use Rattle.pfx_events_world.specs.World.{World, new_world, state_at}
use Rattle.pfx_events_world.specs.Session.{IsQuick}
use Rattle.pfx_events_world.specs.Events.{Event, Ask, Take, Device, Publish, Mark, Receipt, IsIdle, happens, run, CanRun, called}
use Rattle.pfx_events_world.specs.Claims.{IsReceipted}

module _ {J : Type 0} (S : Setting J) (B : Plain J) where
  pub can_join : (w : World S) (one two : List (Event J)) → CanRun S B w one → CanRun S B (run S B w one) two → CanRun S B w (one ++ two)
  can_join w [] two first second = second
  can_join w (e ∷ one) two first second = (first.0, can_join (happens S B w e) one two first.1 second)

  run_join : (w : World S) (one two : List (Event J)) → run S B w (one ++ two) ≡ run S B (run S B w one) two
  run_join w [] two = refl
  run_join w (e ∷ one) two = run_join (happens S B w e) one two

  -- all calls to come go through
  abbrev all_calls : List Act → List (Event J)
  all_calls [] = []
  all_calls (act ∷ coming) = Device true ∷ all_calls coming

  -- then none is to come, and the book and the board are as before
  record Reached (w v : World S) : Type 0 where
    pub none : v.coming ≡ []
    pub broken : v.broken ≡ w.broken
    pub halted : v.book.halted ≡ w.book.halted
    pub taken : v.book.taken ≡ w.book.taken
    pub accepted : v.book.accepted ≡ w.book.accepted

  calls_run : (w : World S) (act : Act) (coming : List Act) → w.coming ≡ act ∷ coming → w.book.halted ≡ false →
      CanRun S B w (all_calls (act ∷ coming)) × Reached w (run S B w (all_calls (act ∷ coming)))
  calls_run w act [] is free =
      let some : w.coming ≢ [] = λ none. cc in
      (((some, free), tt), subst (λ l. Reached w (called S w l)) (sym is) (record { none = refl; broken = refl; halted = refl; taken = refl; accepted = refl }))
  calls_run w act (next ∷ coming) is free =
      let some : w.coming ≢ [] = λ none. cc in
      let rest = calls_run (called S w (act ∷ next ∷ coming)) next coming refl free in
      let at : CanRun S B (called S w w.coming) (all_calls (next ∷ coming)) × Reached w (run S B (called S w w.coming) (all_calls (next ∷ coming))) =
      subst (λ l. CanRun S B (called S w l) (all_calls (next ∷ coming)) × Reached w (run S B (called S w l) (all_calls (next ∷ coming)))) (sym is)
      (rest.0, record { none = rest.1.none; broken = rest.1.broken; halted = rest.1.halted; taken = rest.1.taken; accepted = rest.1.accepted }) in
      (((some, free), at.0), at.1)

  module _ (image : List ℕ) (p : S.Parts) (c : Command J) (quick : IsQuick c) (free : refusal S.kind B c ≡ None) where
    abbrev asked_world : World S
    asked_world = happens S B (new_world S B image p) (Ask c)

    abbrev taken_world : World S
    taken_world = happens S B (happens S B (new_world S B image p) (Ask c)) (Take 1)

    ends : (v : World S) → Reached taken_world v → CanRun S B v (Publish ∷ Mark ∷ Receipt (B.number + 1) ∷ []) × IsReceipted (B.number + 1) (run S B v (Publish ∷ Mark ∷ Receipt (B.number + 1) ∷ [])).book.receipts
    ends v r =
        let idle : IsIdle S v = record { none = r.none; whole = r.broken; goes_on = r.halted } in
        ((idle, ((record { none = r.none; whole = r.broken; goes_on = r.halted }, refl), (low, tt))), inl refl)
      where
        low : B.number + 1 ≤ B.number + v.book.taken
        low = omega (arith, r.taken)

    with_calls : (calls : List Act) → taken_world.coming ≡ calls → 0 < length calls → (events : List (Event J)) × CanRun S B (new_world S B image p) events × IsReceipted (B.number + 1) (run S B (new_world S B image p) events).book.receipts
    with_calls [] is some = absurd (omega (arith, some))
    with_calls (act ∷ coming) is some =
        let rest = calls_run taken_world act coming is refl in
        let last = ends (run S B taken_world (all_calls (act ∷ coming))) rest.1 in
        let tail : List (Event J) = Publish ∷ Mark ∷ Receipt (B.number + 1) ∷ [] in (
          Ask c ∷ Take 1 ∷ (all_calls (act ∷ coming) ++ Publish ∷ Mark ∷ Receipt (B.number + 1) ∷ []),
          (
            (quick, refl, refl, free),
            (
              (record { none = refl; whole = refl; goes_on = refl }, refl, omega arith, omega arith, omega arith, tt),
              can_join taken_world (all_calls (act ∷ coming)) (Publish ∷ Mark ∷ Receipt (B.number + 1) ∷ []) rest.0 last.0,
            ),
          ),
          subst (λ (v : World S). IsReceipted (B.number + 1) v.book.receipts) (sym (run_join taken_world (all_calls (act ∷ coming)) (Publish ∷ Mark ∷ Receipt (B.number + 1) ∷ []))) last.1,
        )

    pub worked : IsSound S → (events : List (Event J)) × CanRun S B (new_world S B image p) events × IsReceipted (B.number + 1) (run S B (new_world S B image p) events).book.receipts
    worked sound = with_calls taken_world.coming refl (sound.some_calls p (state_at S B (c ∷ []) 0) (take 1 (c ∷ [])))

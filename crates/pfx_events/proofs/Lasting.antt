-- Receipts over all that follows, from what each event leaves.
use Rattle.std.specs.Prelude.{ℕ, List, [], ◌∷◌, ◌++◌}
use Rattle.std.proofs.Common.{sym, subst, append_assoc, append-nil}
use Rattle.pfx_machine.specs.Plain.{Plain}
use Rattle.pfx_events_world.specs.Claims.{IsNew, IsReceipted, NeverGoesBack}
use Rattle.pfx_events_world.specs.Events.{Event, run, CanRun, happens}
use Rattle.pfx_events_world.specs.Setting.{Setting}
use Rattle.pfx_events_world.specs.World.{World, new_world}

module _ {J : Type 0} (S : Setting J) (B : Plain J) where
  can_front : (w : World S) (one two : List (Event J)) → CanRun S B w (one ++ two) → CanRun S B w one
  can_front w [] two can = tt
  can_front w (e ∷ one) two can = (can.0, can_front (happens S B w e) one two can.1)

  pub receipts_on : (image : List ℕ) (p : S.Parts) (events more : List (Event J)) (n : ℕ) → NeverGoesBack S → IsNew S B image p →
      CanRun S B (new_world S B image p) (events ++ more) → IsReceipted n (run S B (new_world S B image p) events).book.receipts →
      IsReceipted n (run S B (new_world S B image p) (events ++ more)).book.receipts
  receipts_on image p events [] n never new can given =
      subst (λ l. IsReceipted n (run S B (new_world S B image p) l).book.receipts) (sym (append-nil events)) given
  receipts_on image p events (e ∷ more) n never new can given =
      let same = append_assoc events (e ∷ []) more in
      let all : CanRun S B (new_world S B image p) ((events ++ e ∷ []) ++ more) = subst (λ l. CanRun S B (new_world S B image p) l) (sym same) can in
      let next = (never B image p events e new (can_front (new_world S B image p) (events ++ e ∷ []) more all)).receipts n given in
      subst (λ l. IsReceipted n (run S B (new_world S B image p) l).book.receipts) same (receipts_on image p (events ++ e ∷ []) more n never new all next)

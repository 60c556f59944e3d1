-- Worked rows: for each field of each claim a world in which it doesn't hold. A claim that says less lets that world pass, and its row fails.
use Rattle.std.specs.Prelude.{◌≡◌, ℕ, ◌≤◌, List, [], ◌∷◌, take, Option, Some, None, refl}
use Rattle.std.proofs.Common.{true, inl, ⊎_elim, ap, arith}
use Rattle.pfx_machine.specs.Plain.{Plain}
use Rattle.pfx_machine.specs.declared.command.Command.TheVariants.{Submit, Slot}
use Rattle.pfx_symbols.specs.Symbols.{substring_at}
use Rattle.pfx_events_world.specs.Claims.{Survives, IsOrderly, IsShown, HasSurvived, IsRecovered, IsLater}
use Rattle.pfx_events_world.specs.Events.{Event, Ask, Take, Device, Publish, Mark, Receipt, run, CanRun}
use Rattle.pfx_events_world.specs.Session.{new_session}
use Rattle.pfx_events_world.specs.World.{World, new_world, state_at}
use Rattle.pfx_events_world.proofs.Examples.{begin, commands, counts, small, at_first}

-- the number that recovery finds
abbrev found_number : Option (Plain ℕ × ℕ) → ℕ
found_number None = 0
found_number (Some found) = found.0.number

-- two commands are taken at once, and the receipt of the second is one for both
abbrev two_commands : List (Event ℕ)
two_commands = Ask (Submit 0 3) ∷ Ask (Submit 1 5) ∷ Take 2 ∷ Device true ∷ Device true ∷ Publish ∷ Mark ∷ Receipt 2 ∷ []

two_can : CanRun small begin at_first two_commands
two_can = (
  (tt, refl, refl, refl),
  (
    (tt, refl, refl, refl),
    (
      (record { none = refl; whole = refl; goes_on = refl }, refl, omega arith, omega arith, omega arith, (tt, (tt, tt))),
      (
        (λ none. cc, refl),
        (
          (λ none. cc, refl),
          (
            record { none = refl; whole = refl; goes_on = refl },
            ((record { none = refl; whole = refl; goes_on = refl }, refl), (omega arith, tt)),
          ),
        ),
      ),
    ),
  ),
)

two_marked : (run small begin at_first two_commands).book.marked ≡ 2
two_marked = refl

two_receipts : (run small begin at_first two_commands).book.receipts ≡ (2, 2) ∷ []
two_receipts = refl

-- an image with two commands doesn't have the third
short_image : Survives small begin commands 3 (λ image. image ≡ 2 ∷ 1 ∷ []) → ⊥
unfolding substring_at
short_image h =
    let e = h.each (2 ∷ 1 ∷ []) refl in
    let found : 2 ≡ (state_at small begin commands e.0).number = ap found_number e.3 in
    omega (arith, found, e.4)

-- a world in which these commands are accepted, on an image with two of them
abbrev two_left : World small
two_left = record (new_world small begin (2 ∷ 1 ∷ []) 0) { book = record (new_session begin) { accepted = commands } }

-- the start is lost
start_lost : HasSurvived small (counts 3) (new_world small (counts 3) (2 ∷ 1 ∷ []) 0) → ⊥
unfolding substring_at
start_lost h =
    let e = h.always.each (2 ∷ 1 ∷ []) (inl refl) in
    let found : 2 ≡ (state_at small (counts 3) [] e.0).number = ap found_number e.3 in
    omega (arith, found, e.4)

-- a receipted command is lost
receipt_lost : HasSurvived small begin (record two_left { book = record (new_session begin) { accepted = commands; receipts = (3, 0) ∷ [] } }) → ⊥
unfolding substring_at
receipt_lost h =
    let e = (h.receipted 3 (inl refl)).each (2 ∷ 1 ∷ []) (inl refl) in
    let found : 2 ≡ (state_at small begin commands e.0).number = ap found_number e.3 in
    omega (arith, found, e.4)

-- a command of a task that there isn't
not_acceptable : IsOrderly small begin (record at_first { book = record (new_session begin) { accepted = Submit 7 1 ∷ [] } }) → ⊥
not_acceptable h = cc (h.acceptable.0)

-- the book's state isn't the outcome
other_state : IsOrderly small begin (record at_first { book = record (new_session begin) { accepted = Submit 0 3 ∷ [] } }) → ⊥
other_state h =
    let number : 0 ≡ 1 = ap (λ (s : Plain ℕ). s.number) h.state in
    omega (arith, number)

-- more is kept than was accepted
kept_more : IsShown small begin (record at_first { kept = 1 }) → ⊥
kept_more h = omega (arith, h.kept)

-- more is published than the store has
published_more : IsShown small begin (record two_left { published = Submit 0 3 ∷ [] }) → ⊥
published_more h = cc (h.published.1)

-- a reader sees more than the store has
seen_more : IsShown small begin (record two_left { readers = λ reader. Submit 0 3 ∷ [] }) → ⊥
seen_more h = cc ((h.readers 0).1)

-- what a stop leaves of them: the first two
abbrev two_found : World small
two_found = record two_left { book = record (new_session begin) { accepted = take 2 commands; state = counts 2 }; kept = 2 }

-- another list is left than a beginning
other_front : IsRecovered small begin two_left (record two_left { book = record (new_session begin) { accepted = Slot ∷ []; state = counts 1 } }) (1 ∷ 0 ∷ []) → ⊥
other_front h = ⊎_elim (λ front. cc (front)) (λ front. cc (front)) h.front

-- the state that is left isn't the outcome of what is left
other_outcome : IsRecovered small begin two_left (record two_left { book = record (new_session begin) { state = counts 1 } }) (1 ∷ 0 ∷ []) → ⊥
other_outcome h =
    let number : 1 ≡ 0 = ap (λ (s : Plain ℕ). s.number) h.state in
    omega (arith, number)

-- recovery finds another state than is left
other_found : IsRecovered small begin two_left two_found (1 ∷ 0 ∷ []) → ⊥
unfolding substring_at
other_found h =
    let number : 1 ≡ 2 = ap found_number h.found.1 in
    omega (arith, number)

-- a stop takes a receipt away
receipt_gone : IsRecovered small begin (record two_left { book = record (new_session begin) { accepted = commands; receipts = (1, 0) ∷ [] } }) two_found (2 ∷ 1 ∷ []) → ⊥
receipt_gone h = cc (h.receipts)

-- a receipted command isn't among those that are left
holds_less : IsRecovered small begin (record two_left { book = record (new_session begin) { accepted = commands; receipts = (3, 0) ∷ [] } }) two_found (2 ∷ 1 ∷ []) → ⊥
unfolding substring_at
holds_less h =
    let number : 3 ≤ 2 = h.holds 3 (inl refl) in
    omega (arith, number)

-- a reader sees less than before
seen_less : IsLater small (record at_first { readers = λ reader. Slot ∷ [] }) at_first → ⊥
seen_less h = cc ((h.readers 0).1)

-- less is marked than before
marked_less : IsLater small (record at_first { book = record (new_session begin) { marked = 1 } }) at_first → ⊥
marked_less h = omega (arith, h.marked)

-- a receipt is gone
receipts_fewer : IsLater small (record at_first { book = record (new_session begin) { receipts = (1, 0) ∷ [] } }) at_first → ⊥
receipts_fewer h = h.receipts 1 (inl refl)

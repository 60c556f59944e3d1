-- The theorem's machine: one store, its book, readers, and the calls under way.
use Rattle.std.specs.Prelude.{ℕ, Bool, false, List, [], take}
use Rattle.pfx_machine.specs.Plain.{Plain}
use Rattle.pfx_machine.specs.Slots.{Deal}
use Rattle.pfx_machine.specs.Outcome.{outcome}
use Rattle.pfx_machine.specs.declared.command.Command.{Command}
use Rattle.pfx_disk.specs.Stop.{Act}
use Rattle.pfx_events_world.specs.Setting.{Setting}
use Rattle.pfx_events_world.specs.Session.{Session, new_session}

module _ {J : Type 0} where
  -- a world: the book, the results that were made, the device calls to come and done, the board and its readers
  pub record World (S : Setting J) : Type 0 where
    pub book : Session J
    -- the results that were made so far, each with its quantum
    pub made : List (Deal J × J)
    -- how many of the accepted commands the store has
    pub kept : ℕ
    -- the device calls still to come, whether they are those of an open, and where the file's parts are after them
    pub coming : List Act
    pub opening : Bool
    pub place : S.Parts
    -- the disk: an image and the calls since; a call failed
    pub start : List ℕ
    pub done : List Act
    pub clock : ℕ
    pub broken : Bool
    -- the board
    pub published : List (Command J)
    pub readers : ℕ → List (Command J)

  -- the state after the first k of the accepted commands
  abbrev pub state_at : (S : Setting J) → Plain J → List (Command J) → ℕ → Plain J
  state_at S B accepted k = outcome S.kind B (take k accepted)

  -- a store just made, or opened, with nothing accepted
  abbrev pub new_world : (S : Setting J) → Plain J → List ℕ → S.Parts → World S
  new_world S B image place = record {
    book = new_session B;
    made = [];
    kept = 0;
    coming = [];
    opening = false;
    place = place;
    start = image;
    done = [];
    clock = 0;
    broken = false;
    published = [];
    readers = λ reader. [];
  }

-- What a store's marks promise.
use Rattle.std.specs.Prelude.{◌≡◌, ◌≤◌, ℕ, List, [], ◌∷◌, length, take, Bool, false, Result, Ok, Err, ⊤}
use Rattle.pfx_disk.specs.Disk.{View}
use Rattle.pfx_store_format.specs.Format.{format}
use Rattle.pfx_jobs.specs.Kind.{Kind}
use Rattle.pfx_machine.specs.Plain.{Plain}
use Rattle.pfx_store_image.specs.Store.{Replays}
use Rattle.pfx_store_file.specs.Holding.{Survives}
use Rattle.pfx_store_file.specs.declared.faults.StoreFault.{StoreFault}
use Rattle.pfx_store.specs.declared.appending.Mark.{Mark}

-- with the mark that was answered, if there is one
abbrev pub marked : Result Mark StoreFault → List Mark → List Mark
marked (Ok mark) marks = mark ∷ marks
marked (Err fault) marks = marks

module _ {J : Type 0} (K : Kind J) (start : Plain J) (all : List (List ℕ)) where
  -- Some of these frames, from the start on, lead to the mark's number, and each image since its clock has these at least.
  pub record IsKept (mark : Mark) (disk : View) : Type 0 where
    pub count : ℕ
    pub few : count ≤ length all
    pub state : Plain J
    pub leads : Replays (format K) start (take count all) state
    pub number : state.number ≡ mark.number
    pub past : mark.clock ≤ disk.clock
    pub images : (image : List ℕ) → disk.since mark.clock image → Survives (format K) start all count image

  -- each of these marks is kept
  abbrev pub AreKept : List Mark → View → Type 0
  AreKept [] disk = ⊤
  AreKept (mark ∷ marks) disk = IsKept mark disk × AreKept marks disk

  -- The frames lead to the store's state, unless it is broken, and each of its marks is kept.
  pub record Covers (noted : List Mark) (broken : Bool) (s : Plain J) (disk : View) : Type 0 where
    pub leads : broken ≡ false → Replays (format K) start all s
    pub marks : AreKept noted disk

-- What a worker does: what it took and what it handed back, as the quanta that were taken and those that results are of.
use Rattle.std.specs.Prelude.{◌≡◌, ◌≤◌, List, [], ◌∷◌, ◌++◌, length, Bool, true, false}
use Rattle.pfx_machine.specs.Slots.{Deal}

module _ {J : Type 0} where
  -- what was taken more is the quanta whose results were handed back, in order, and at the most one quantum more
  abbrev pub Works : List (Deal J) → List (Deal J) → List (Deal J) → List (Deal J) → Type 0
  Works took_before took handed_before handed =
      (quanta late : List (Deal J)) × (took ≡ took_before ++ (quanta ++ late)) × (handed ≡ handed_before ++ quanta) × (length late ≤ 1)

  -- one quantum was taken and its result handed back; or one was taken at the most, and nothing handed back
  abbrev pub Serves : Bool → List (Deal J) → List (Deal J) → List (Deal J) → List (Deal J) → Type 0
  Serves true took_before took handed_before handed = (q : Deal J) × (took ≡ took_before ++ q ∷ []) × (handed ≡ handed_before ++ q ∷ [])
  Serves false took_before took handed_before handed = (late : List (Deal J)) × (took ≡ took_before ++ late) × (handed ≡ handed_before) × (length late ≤ 1)

-- What is printed of a set.
use Rattle.std.specs.Prelude.{codes, ℕ, ◌-◌, ◌/◌, List, [], ◌∷◌, ◌++◌, length}
use Rattle.std.specs.Fmt.{decimal}
use Rattle.serde_json.specs.Data.{Data, object, no_members}
use Rattle.pfx_store_image.specs.Layout.{file_len}
use Rattle.pfx_weights.specs.Sets.{FilledSet, demand}
use Rattle.pfx_store_header.specs.Headers.{Header, least_segment}
use Rattle.pfx_store_format.specs.Format.{layout}
use Rattle.pfx_program.specs.Objects.{object_line, number_at, numbers_at}
use Rattle.pfx_program.specs.declared.form.OutputForm.{OutputForm}
use Rattle.pfx_program.specs.declared.form.OutputForm.TheVariants.{Text, Json}

-- a word and what is said of it, as `workers 2`
abbrev pub line : List ℕ → List ℕ → List ℕ
line word said = word ++ codes " " ++ said ++ codes "\n"

-- a fraction, above and below divided by the same number
abbrev pub fraction : ℕ → ℕ → ℕ → List ℕ
fraction above below by = decimal (above / by) ++ codes "/" ++ decimal (below / by)

-- the tasks and the slots of their plan; their load is what they take of a hyperperiod's slots
abbrev pub tasks_text : List (ℕ × ℕ) → FilledSet → ℕ → List ℕ
tasks_text tasks s by =
    line (codes "workers") (decimal s.workers)
    ++ line (codes "tasks") (decimal s.real)
    ++ line (codes "idle") (decimal (length s.weights - s.real))
    ++ line (codes "hyper") (decimal s.hyper)
    ++ line (codes "load") (fraction (demand s.hyper tasks) s.hyper by)

-- a segment of a store of the set, how long it has to be, and the store's file
abbrev pub store_text : Header → List ℕ
store_text h =
    line (codes "segment") (decimal h.segment)
    ++ line (codes "least") (decimal (least_segment h.set.workers))
    ++ line (codes "size") (decimal (file_len (layout h)))

-- the same as one object, whose load is a list of what is above and what is below:
-- `{"hyper":3,"idle":0,"least":4233,"load":[2,1],"segment":1048576,"size":2100163,"tasks":3,"workers":2}`
abbrev pub check_object : List (ℕ × ℕ) → Header → ℕ → Data
check_object tasks h by =
    object (number_at (codes "hyper") h.set.hyper (number_at (codes "idle") (length h.set.weights - h.set.real) (number_at (codes "least") (least_segment h.set.workers)
    (numbers_at (codes "load") (demand h.set.hyper tasks / by ∷ h.set.hyper / by ∷ []) (number_at (codes "segment") h.segment
    (number_at (codes "size") (file_len (layout h)) (number_at (codes "tasks") h.set.real (number_at (codes "workers") h.set.workers no_members))))))))

-- what is printed of the set of these tasks and of its store, if the load is divided by this number
abbrev pub check_text : OutputForm → List (ℕ × ℕ) → Header → ℕ → List ℕ
check_text Text tasks h by = tasks_text tasks h.set by ++ store_text h
check_text Json tasks h by = object_line (check_object tasks h by)

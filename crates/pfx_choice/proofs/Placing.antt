-- What is ready in vectors, and the marks that are left in one.
use Rattle.std.proofs.Common.{◌≡◌, ◌++◌, ◌∙◌, ℕ, List, take, drop, sym, subst, length}
use Rattle.std.proofs.lemmas.List.{take_at}
use Rattle.pfx_symbols.specs.Ranks.{Parts}
use Rattle.pfx_columns.specs.Ledgers.{Ledger}
use Rattle.pfx_choice.specs.Picks.{IsReady, IsPlaced, AreMarks}

-- what is ready stays so behind the vectors
pub ready_behind : (g : Ledger) (k : ℕ) (marks marks_in : List ℕ) (rs rs_in : List Parts) → marks_in ≡ marks → rs_in ≡ rs → IsReady g k marks rs → IsReady g k marks_in rs_in
ready_behind g k marks marks_in rs rs_in m_is r_is h =
    let R : List ℕ → Type 0 = λ l. IsReady g k l rs in
    let Q : List Parts → Type 0 = λ l. IsReady g k marks_in l in
    subst Q (sym r_is) (subst R (sym m_is) h)

-- the marks that a placing leaves in a vector are those of PF's row
pub marks_of_placed : (g : Ledger) (k len : ℕ) (marks new items : List ℕ) (rs : List Parts) → IsReady g k marks rs → IsPlaced rs k marks new
    → length new ≡ length items → len ≡ length items → AreMarks g (take len (new ++ drop (length new) items))
marks_of_placed g k len marks new items rs ready placed same is =
    let P : List ℕ → Type 0 = λ l. AreMarks g l in
    subst P (sym (take_at new (drop (length new) items) len (same ∙ sym is))) (record { long = placed.long ∙ ready.long; row = ready.row new placed })

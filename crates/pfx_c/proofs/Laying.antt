-- Rows laid one behind the other.
use Rattle.std.proofs.Common.{◌≡◌, ℕ, ◌+◌, ◌*◌, ◌<◌, ◌≤◌, List, [], ◌∷◌, ◌++◌, length, take, drop, arith, ap, sym, ◌∙◌, refl, subst}
use Rattle.std.proofs.lemmas.List.{length-append, length_push, append-nil, append_assoc}
use Rattle.std.proofs.lemmas.Slice.{drop-append-drop}
use Rattle.std.proofs.Math.Seq.{take-append_seam, drop-append_seam}
use Rattle.std.proofs.Math.Nat.{mul-le-mul_left}
use Rattle.pfx_weights.specs.Rows.{is_in, Schedule}
use Rattle.pfx_columns.specs.Ledgers.{Ledger, after, IsLedger}
use Rattle.pfx_choice.specs.Choices.{IsChosen, Fails}
use Rattle.pfx_choice.specs.Plans.{past}
use Rattle.pfx_choice.specs.Schedules.{EndsWithin}
use Rattle.pfx_choice.specs.declared.faults.ChoiceFault.{ChoiceFault}
use Rattle.pfx_choice.proofs.Planning.{past_none, past_push, plan_push, pf_full}
use Rattle.pfx_choice.proofs.Schedules.{doomed_at}
use Rattle.pfx_c.specs.Plans.{laid, IsPlanned, EndsEarly}

pub laid_push : (rows : Schedule) (row : List ℕ) → laid (rows ++ row ∷ []) ≡ laid rows ++ row
laid_push [] row = append-nil row
laid_push (first ∷ rows) row = ap (λ l. first ++ l) (laid_push rows row) ∙ sym (append_assoc first (laid rows) row)

-- what stands in the front goes on by a row that is written behind it
written : (front row old places new : List ℕ) (at : ℕ) → length front ≡ at
    → places ≡ front ++ drop (length front) old → new ≡ take at places ++ row ++ drop (at + length row) places
    → new ≡ front ++ row ++ drop (length (front ++ row)) old
written front row old places new at long placed is =
    let sum = length-append front row in
    let before : take at places ≡ front =
    ap (λ n. take n places) (sym long) ∙ ap (λ l. take (length front) l) placed ∙ take-append_seam front (drop (length front) old) in
    let number : at + length row ≡ length (front ++ row) = omega (arith, long, sum) in
    let behind : drop (at + length row) places ≡ drop (length (front ++ row)) old =
    ap (λ n. drop n places) number ∙ ap (λ l. drop (length (front ++ row)) l) placed
    ∙ drop-append-drop (length front) old front (length (front ++ row)) (omega (arith, sum)) refl in
    is ∙ ap (λ l. l ++ row ++ drop (at + length row) places) before ∙ ap (λ l. front ++ row ++ l) behind

-- a plan is laid into the places, and takes so many of them
pub record IsLaid (g now : Ledger) (made at : ℕ) (old places : List ℕ) : Type 0 where
  pub planned : IsPlanned g now made old places
  pub long : length (laid planned.rows) ≡ at

-- no row yet
pub laid_none : (g : Ledger) (old : List ℕ) → IsLaid g g 0 0 old old
laid_none g old = record {
  planned = record { rows = []; number = refl; plan = λ i l. absurd (omega (arith, l)); leads = sym (past_none g); placed = refl };
  long = refl;
}

-- the row that is chosen gives each of the ledger's workers a task
pub chosen_long : (g now : Ledger) (made at : ℕ) (old places row : List ℕ)
    → IsLaid g now made at old places → IsLedger now → IsChosen now row → length row ≡ g.set.workers
chosen_long g now made at old places row h ledger chosen = (pf_full now row ledger chosen.pf).full ∙ ap (λ k. k.set.workers) h.planned.leads

-- one row more
pub laid_more : (g now : Ledger) (made at m : ℕ) (old places new row : List ℕ) → IsLaid g now made at old places → IsChosen now row → length row ≡ m
    → new ≡ take at places ++ row ++ drop (at + length row) places → IsLaid g (after now (is_in row)) (made + 1) (at + m) old new
laid_more g now made at m old places new row h chosen long is =
    let p = h.planned in
    let P : Ledger → Type 0 = λ k. IsChosen k row in
    let next : IsChosen (past g p.rows) row = subst P p.leads chosen in
    let sum : length (laid p.rows ++ row) ≡ at + m = length-append (laid p.rows) row ∙ omega (arith, h.long, long) in
    record {
      planned = record {
        rows = p.rows ++ row ∷ [];
        number = length_push p.rows row ∙ ap (λ n. n + 1) p.number;
        plan = plan_push g p.rows row p.plan next;
        leads = ap (λ k. after k (is_in row)) p.leads ∙ sym (past_push g p.rows row);
        placed = written (laid p.rows) row old places new at h.long p.placed is ∙ ap (λ l. l ++ drop (length l) old) (sym (laid_push p.rows row));
      };
      long = ap length (laid_push p.rows row) ∙ sum;
    }

-- a slot without a row ends the plan
pub laid_ends : (g now : Ledger) (slots made at : ℕ) (old places : List ℕ) (f : ChoiceFault)
    → IsLedger g → IsLedger now → IsLaid g now made at old places → made < slots → Fails now f
    → EndsEarly g now slots made f
laid_ends g now slots made at old places f ledger after h early fails =
    let p = h.planned in
    let P : ℕ → Type 0 = λ n. EndsWithin g n in
    record {
      early = early;
      why = fails;
      only = λ other known.
          subst P p.number
          ((doomed_at g now slots f p.rows ledger p.leads after.slot (omega (arith, early, p.number)) p.plan known fails).only other);
    }

-- places for all rows are places for one more
pub room : (made slots m long : ℕ) → made < slots → slots * m ≤ long → made * m + m ≤ long
room made slots m long less all =
    let more : m * (made + 1) ≤ m * slots = mul-le-mul_left m (omega (arith, less)) in
    let turned : m * (made + 1) ≡ made * m + m = omega arith in
    let other : m * slots ≡ slots * m = omega arith in
    omega (arith, more, turned, other, all)

-- a row that is written in front
pub in_front : (row old new : List ℕ) (m : ℕ) → length row ≡ m
    → new ≡ take 0 old ++ row ++ drop (0 + length row) old → (take m new ≡ row) × (drop m new ≡ drop m old)
in_front row old new m long is =
    let number : 0 + length row ≡ length row = omega arith in
    let same : new ≡ row ++ drop (length row) old = is ∙ ap (λ n. row ++ drop n old) number in
    let front : take m new ≡ row =
    ap (λ n. take n new) (sym long) ∙ ap (λ l. take (length row) l) same ∙ take-append_seam row (drop (length row) old) in
    let rest : drop m new ≡ drop m old =
    ap (λ n. drop n new) (sym long) ∙ ap (λ l. drop (length row) l) same ∙ drop-append_seam row (drop (length row) old) ∙ ap (λ n. drop n old) long in
    (front, rest)

-- Worked rows: for each part of what sessions are and keep, some of which it doesn't hold. A definition that says less lets them pass, and its
-- row fails.
use Rattle.std.specs.Prelude.{Bool}
use Rattle.std.proofs.Common.{◌≡◌, ◌+◌, ◌++◌, ◌≤◌, ℕ, zero, suc, List, [], ◌∷◌, take, Result, Ok, Err, true, false, refl, sym, ap, ◌∙◌, arith}
use Rattle.std.proofs.lemmas.Bool.{false≢true}
use Rattle.pfx_store_header.specs.Headers.{read_header}
use Rattle.pfx_machine.specs.Outcome.{outcome}
use Rattle.pfx_machine.specs.Plain.{Plain}
use Rattle.pfx_machine.specs.declared.command.Command.{Command}
use Rattle.pfx_machine.specs.declared.command.Command.TheVariants.{Slot, Withdraw}
use Rattle.pfx_machine.proofs.Compose.{outcome-none}
use Rattle.pfx_store_image.proofs.Answers.{ok_same}
use Rattle.pfx_store_image.specs.Recovery.{found, recovered}
use Rattle.pfx_store.specs.Groups.{alone, joined}
use Rattle.pfx_store_engine.specs.Sessions.{Session, AreSessions, AreHeld}
use Rattle.pfx_jobs.specs.Kind.{Kind}

-- a session of one Slot, of which so many were answered
abbrev one_slot : {J : Type 0} → ℕ → List ℕ → Session J
one_slot answered image = record { commands = Slot ∷ []; answered = answered; image = image }

-- an answered command isn't left out
left_out : {J : Type 0} (n : ℕ) (rest : List (Command J)) → 1 ≤ n → [] ≡ take n (Slot ∷ []) ++ rest → ⊥
left_out zero rest some is = omega (arith, some)
left_out (suc n) rest some is = cc

none_left_out : (J : Type 0) (image : List ℕ) → AreHeld {J = J} (one_slot 1 image ∷ []) [] → ⊥
none_left_out J image h = left_out h.0 h.3 h.1 h.4

-- nor is a command held that the session hadn't, nor one behind the last session
none_beside : (J : Type 0) → AreHeld {J = J} [] (Slot ∷ []) → ⊥
none_beside J h = cc

others : {J : Type 0} (n : ℕ) (rest : List (Command J)) → rest ≡ [] → Withdraw 0 ∷ [] ≡ take n (Slot ∷ []) ++ rest → ⊥
others zero [] none is = cc
others (suc n) [] none is = cc
others n (c ∷ rest) none is = cc

no_others : (J : Type 0) (image : List ℕ) → AreHeld {J = J} (one_slot 1 image ∷ []) (Withdraw 0 ∷ []) → ⊥
no_others J image h = others h.0 h.3 h.5 h.4

-- without a session nothing changed, and a session without commands left the state at which it began
numbers_on : {J : Type 0} (K : Kind J) (s : Plain J) (last : Plain J) → last.number ≡ s.number + 1 → AreSessions K s [] last → ⊥
numbers_on {J = J} K s last number h = omega (arith, number, ap (λ (t : Plain J). t.number) h)

-- nothing is recovered from an empty file, so no session left one
abbrev is_ok : {A E : Type 0} → Result A E → Bool
is_ok (Ok x) = true
is_ok (Err e) = false

none_left_nothing : {J : Type 0} (K : Kind J) (s last : Plain J) → AreSessions K s (one_slot 0 [] ∷ []) last → ⊥
unfolding recovered found read_header
none_left_nothing K s last h = false≢true (ap is_ok h.1.recovered)

-- what follows on a session without commands begins where that began
in_its_place : {J : Type 0} (K : Kind J) (s last : Plain J) (image : List ℕ) → last.number ≡ s.number + 1 → AreSessions K s (record { commands = []; answered = 0; image = image } ∷ []) last → ⊥
in_its_place {J = J} K s last image number h =
    let next = h.2 in
    let empty : outcome K s (joined (take h.1.count (alone []))) ≡ s = ap (outcome K s) (none_in h.1.count) ∙ outcome-none K s in
    let same : s ≡ next = sym empty ∙ ok_same (outcome K s (joined (take h.1.count (alone [])))) next (sym h.1.recovered ∙ h.3) in
    omega (arith, number, ap (λ (t : Plain J). t.number) (h.4 ∙ sym same))
  where
    none_in : (k : ℕ) → joined (take k (alone {J = J} [])) ≡ []
    none_in zero = refl
    none_in (suc k) = refl

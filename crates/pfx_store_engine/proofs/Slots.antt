-- Slots that are run one after the other.
use Rattle.std.specs.Prelude.{ℕ}
use Rattle.std.proofs.Common.{◌≡◌, ◌+◌, ◌++◌, List, [], ◌∷◌, length, suc, Ok, refl, sym, ap, subst, ◌∙◌, arith}
use Rattle.std.proofs.lemmas.List.{length-map}
use Rattle.pfx_machine.specs.Plain.{Plain}
use Rattle.pfx_machine.specs.Outcome.{outcome}
use Rattle.pfx_machine.specs.Runs.{answer}
use Rattle.pfx_machine.specs.declared.command.Command.{Command}
use Rattle.pfx_machine.specs.declared.command.Command.TheVariants.{Slot}
use Rattle.pfx_machine.specs.declared.command.Reply.{Reply}
use Rattle.pfx_machine.proofs.Compose.{outcome-none, outcome-outcome}
use Rattle.pfx_store_engine.specs.Promises.{AreAnswered, slots_for}
use Rattle.pfx_jobs.specs.Kind.{Kind, Laws}

pub length_slots : (J : Type 0) (said : List (ℕ × Reply)) → length (slots_for {J = J} said) ≡ length said
length_slots J said = length-map said (λ x. Slot)

pub slots_more : {J : Type 0} (said : List (ℕ × Reply)) (x : ℕ × Reply) → slots_for {J = J} (said ++ x ∷ []) ≡ slots_for said ++ Slot ∷ []
slots_more [] x = refl
slots_more {J = J} (y ∷ said) x = ap (λ (l : List (Command J)). Slot ∷ l) (slots_more said x)

-- before the first one
pub none_yet : {J : Type 0} (K : Kind J) (s t : Plain J) (said : List (ℕ × Reply)) → length said ≡ 0 → t ≡ outcome K s (slots_for said) → t ≡ s
none_yet K s t [] none at = at ∙ outcome-none K s
none_yet K s t (x ∷ said) none at = absurd (let no : suc (length said) ≡ 0 = none in omega (arith, no))

-- one slot more that is accepted
pub answered_more : {J : Type 0} (K : Kind J) (L : Laws K) (s : Plain J) (said : List (ℕ × Reply)) (x : ℕ × Reply) → AreAnswered K s said → answer K (outcome K s (slots_for said)) Slot ≡ Ok x.1
    → x.0 ≡ (outcome K s (slots_for said)).number + 1 → AreAnswered K s (said ++ x ∷ [])
answered_more {J = J} K L s [] x all accepted next =
    (subst (λ (t : Plain J). answer K t Slot ≡ Ok x.1) (outcome-none K s) accepted, subst (λ (t : Plain J). x.0 ≡ t.number + 1) (outcome-none K s) next, tt)
answered_more {J = J} K L s (y ∷ said) x (one, number, more) accepted next =
    let behind = sym (outcome-outcome K L s (Slot ∷ []) (slots_for said)) in (
      one,
      number,
      answered_more K L (outcome K s (Slot ∷ [])) said x more (subst (λ (t : Plain J). answer K t Slot ≡ Ok x.1) behind accepted)
          (subst (λ (t : Plain J). x.0 ≡ t.number + 1) behind next),
    )

-- Commands that are run one after the other, and what each is told.
use Rattle.std.proofs.Common.{◌≡◌, ℕ, suc, ◌+◌, List, [], ◌∷◌, ◌++◌, length, None, Ok, Err, refl, sym, ap, subst, ◌∙◌, arith}
use Rattle.pfx_machine.specs.Plain.{Plain}
use Rattle.pfx_machine.specs.Outcome.{outcome}
use Rattle.pfx_machine.specs.Refusals.{IsFaultOf, TakesMemory, refusal, reply}
use Rattle.pfx_machine.specs.Runs.{answer, answer_by}
use Rattle.pfx_machine.specs.declared.command.Command.{Command}
use Rattle.pfx_machine.specs.declared.command.Command.TheVariants.{Submit, Slot, Withdraw, Reweigh}
use Rattle.pfx_machine.specs.declared.command.Reply.{Reply}
use Rattle.pfx_machine.specs.declared.faults.MachineFault.{MachineFault}
use Rattle.pfx_machine.proofs.Compose.{outcome-none, outcome-outcome}
use Rattle.pfx_store_engine.specs.Sharing.{AreChanges, IsChange, AreTold, Told, accepted_of}
use Rattle.pfx_jobs.specs.Kind.{Kind, Laws}

-- none of them takes memory
change_takes : {J : Type 0} (c : Command J) → IsChange c → TakesMemory c → ⊥
change_takes (Submit x job) change takes = takes
change_takes (Withdraw x) change takes = takes
change_takes Slot change takes = change
change_takes (Reweigh workers weights) change takes = change

pub change_refused : {J : Type 0} (K : Kind J) (s : Plain J) (c : Command J) (f : MachineFault) → IsChange c → IsFaultOf K s c f → answer K s c ≡ Err f
change_refused K s c f change fault = ap (answer_by (reply s c)) (fault.1 (λ same. change_takes c change (fault.0 same)))

pub change_accepted : {J : Type 0} (K : Kind J) (s : Plain J) (c : Command J) (said : Reply) → refusal K s c ≡ None → said ≡ reply s c → answer K s c ≡ Ok said
change_accepted K s c said none is = ap (answer_by (reply s c)) none ∙ ap Ok (sym is)

pub changes_at : {J : Type 0} (H : List (Command J)) (c : Command J) (rest : List (Command J)) → AreChanges (H ++ c ∷ rest) → IsChange c
changes_at [] c rest (one, more) = one
changes_at (d ∷ H) c rest (one, more) = changes_at H c rest more

pub told_equal : {J : Type 0} (K : Kind J) (s : Plain J) (H : List (Command J)) (told : List Told) → AreTold K s H told → length told ≡ length H
told_equal K s [] [] all = refl
told_equal K s [] (x ∷ told) all = absurd all
told_equal K s (c ∷ H) [] all = absurd all
told_equal K s (c ∷ H) (Ok x ∷ told) (accepted, next, more) = ap suc (told_equal K (outcome K s (c ∷ [])) H told more)
told_equal K s (c ∷ H) (Err f ∷ told) (refusal, more) = ap suc (told_equal K s H told more)

pub accepted_ok : {J : Type 0} (K : Kind J) (s : Plain J) (H : List (Command J)) (told : List Told) (c : Command J) (x : ℕ × Reply) → AreTold K s H told → accepted_of (H ++ c ∷ []) (told ++ Ok x ∷ []) ≡ accepted_of H told ++ c ∷ []
accepted_ok K s [] [] c x all = refl
accepted_ok K s [] (y ∷ told) c x all = absurd all
accepted_ok K s (d ∷ H) [] c x all = absurd all
accepted_ok {J = J} K s (d ∷ H) (Ok y ∷ told) c x (accepted, next, more) = ap (λ (l : List (Command J)). d ∷ l) (accepted_ok K (outcome K s (d ∷ [])) H told c x more)
accepted_ok K s (d ∷ H) (Err f ∷ told) c x (refusal, more) = accepted_ok K s H told c x more

pub accepted_err : {J : Type 0} (K : Kind J) (s : Plain J) (H : List (Command J)) (told : List Told) (c : Command J) (f : MachineFault) → AreTold K s H told → accepted_of (H ++ c ∷ []) (told ++ Err f ∷ []) ≡ accepted_of H told
accepted_err K s [] [] c f all = refl
accepted_err K s [] (y ∷ told) c f all = absurd all
accepted_err K s (d ∷ H) [] c f all = absurd all
accepted_err {J = J} K s (d ∷ H) (Ok y ∷ told) c f (accepted, next, more) = ap (λ (l : List (Command J)). d ∷ l) (accepted_err K (outcome K s (d ∷ [])) H told c f more)
accepted_err K s (d ∷ H) (Err g ∷ told) c f (refusal, more) = accepted_err K s H told c f more

pub told_ok : {J : Type 0} (K : Kind J) (L : Laws K) (s : Plain J) (H : List (Command J)) (told : List Told) (c : Command J) (x : ℕ × Reply) → AreTold K s H told → answer K (outcome K s (accepted_of H told)) c ≡ Ok x.1
    → x.0 ≡ (outcome K s (accepted_of H told)).number + 1 → AreTold K s (H ++ c ∷ []) (told ++ Ok x ∷ [])
told_ok {J = J} K L s [] [] c x all accepted next =
    (subst (λ (t : Plain J). answer K t c ≡ Ok x.1) (outcome-none K s) accepted, subst (λ (t : Plain J). x.0 ≡ t.number + 1) (outcome-none K s) next, tt)
told_ok K L s [] (y ∷ told) c x all accepted next = absurd all
told_ok K L s (d ∷ H) [] c x all accepted next = absurd all
told_ok {J = J} K L s (d ∷ H) (Ok y ∷ told) c x (one, number, more) accepted next =
    let behind = sym (outcome-outcome K L s (d ∷ []) (accepted_of H told)) in
    (one, number, told_ok K L (outcome K s (d ∷ [])) H told c x more (subst (λ (t : Plain J). answer K t c ≡ Ok x.1) behind accepted) (subst (λ (t : Plain J). x.0 ≡ t.number + 1) behind next))
told_ok K L s (d ∷ H) (Err f ∷ told) c x (refusal, more) accepted next = (refusal, told_ok K L s H told c x more accepted next)

pub told_err : {J : Type 0} (K : Kind J) (L : Laws K) (s : Plain J) (H : List (Command J)) (told : List Told) (c : Command J) (f : MachineFault) → AreTold K s H told → answer K (outcome K s (accepted_of H told)) c ≡ Err f
    → AreTold K s (H ++ c ∷ []) (told ++ Err f ∷ [])
told_err {J = J} K L s [] [] c f all refused_by = (subst (λ (t : Plain J). answer K t c ≡ Err f) (outcome-none K s) refused_by, tt)
told_err K L s [] (y ∷ told) c f all refused_by = absurd all
told_err K L s (d ∷ H) [] c f all refused_by = absurd all
told_err {J = J} K L s (d ∷ H) (Ok y ∷ told) c f (one, number, more) refused_by =
    let behind = sym (outcome-outcome K L s (d ∷ []) (accepted_of H told)) in
    (one, number, told_err K L (outcome K s (d ∷ [])) H told c f more (subst (λ (t : Plain J). answer K t c ≡ Err f) behind refused_by))
told_err K L s (d ∷ H) (Err g ∷ told) c f (refusal, more) refused_by = (refusal, told_err K L s H told c f more refused_by)

pub change_next : {J : Type 0} (all gone : List (Command J)) (c : Command J) (rest left : List (Command J)) → AreChanges all → all ≡ gone ++ rest → rest ≡ c ∷ left → IsChange c
change_next {J = J} all gone c rest left h split step = changes_at gone c left (subst AreChanges (split ∙ ap (λ (l : List (Command J)). gone ++ l) step) h)

-- one command more was run on the state
pub ran_ok : {J : Type 0} (K : Kind J) (L : Laws K) (s t u : Plain J) (H : List (Command J)) (told : List Told) (c : Command J) (x : ℕ × Reply) → AreTold K s H told → t ≡ outcome K s (accepted_of H told) → answer K t c ≡ Ok x.1 → x.0 ≡ t.number + 1
    → ((B : Plain J) (G : List (Command J)) → t ≡ outcome K B G → u ≡ outcome K B (G ++ c ∷ []))
    → AreTold K s (H ++ c ∷ []) (told ++ Ok x ∷ []) × (u ≡ outcome K s (accepted_of (H ++ c ∷ []) (told ++ Ok x ∷ [])))
ran_ok {J = J} K L s t u H told c x h at accepted next step = (
  told_ok K L s H told c x h (subst (λ (v : Plain J). answer K v c ≡ Ok x.1) at accepted) (subst (λ (v : Plain J). x.0 ≡ v.number + 1) at next),
  step s (accepted_of H told) at ∙ ap (outcome K s) (sym (accepted_ok K s H told c x h)),
)

pub ran_err : {J : Type 0} (K : Kind J) (L : Laws K) (s t u : Plain J) (H : List (Command J)) (told : List Told) (c : Command J) (f : MachineFault) → AreTold K s H told → t ≡ outcome K s (accepted_of H told) → answer K t c ≡ Err f → u ≡ t
    → AreTold K s (H ++ c ∷ []) (told ++ Err f ∷ []) × (u ≡ outcome K s (accepted_of (H ++ c ∷ []) (told ++ Err f ∷ [])))
ran_err {J = J} K L s t u H told c f h at refused_by kept = (
  told_err K L s H told c f h (subst (λ (v : Plain J). answer K v c ≡ Err f) at refused_by),
  kept ∙ at ∙ ap (outcome K s) (sym (accepted_err K s H told c f h)),
)

-- where none was accepted the state stays
pub none_accepted : {J : Type 0} (K : Kind J) (s t : Plain J) (H : List (Command J)) → length H ≡ 0 → t ≡ outcome K s H → t ≡ s
none_accepted K s t [] none at = at ∙ outcome-none K s
none_accepted K s t (c ∷ H) none at = absurd (let no : suc (length H) ≡ 0 = none in omega (arith, no))

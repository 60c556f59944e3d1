-- What a watcher is told of, part by part.
use Rattle.std.proofs.Common.{◌≡◌, ◌∙◌, List, [], ◌∷◌, ◌++◌, refl, sym, ap, ap₂, subst, append-nil, append_assoc}
use Rattle.pfx_jobs.specs.Kind.{Kind, Laws}
use Rattle.pfx_machine.specs.Plain.{Plain}
use Rattle.pfx_machine.proofs.Compose.{outcome-none}
use Rattle.pfx_record.specs.Records.{Recorded}
use Rattle.pfx_replay_audit.specs.Marks.{behind}
use Rattle.pfx_replay_audit.specs.Watches.{AreTold, Told, joined}
use Rattle.pfx_replay_audit.proofs.Folding.{behind_more}

joined_more : {J : Type 0} (xs ys : List (List (Recorded J))) → joined (xs ++ ys) ≡ joined xs ++ joined ys
joined_more [] ys = refl
joined_more (x ∷ xs) ys = ap (λ l. x ++ l) (joined_more xs ys) ∙ sym (append_assoc x (joined xs) (joined ys))

module _ {J W : Type 0} (K : Kind J) (L : Laws K) (sees : W → Plain J → List (Recorded J) → W → Type 0) where
  pub told_none : (w : W) (s : Plain J) → Told K sees w w s []
  told_none w s = record { parts = []; whole = refl; are = refl }

  pub told_one : (w v : W) (s : Plain J) (part : List (Recorded J)) → sees w s part v → Told K sees w v s part
  told_one w v s part h = record { parts = part ∷ []; whole = sym (append-nil part); are = (v, h, refl) }

  parts_more : (w u v : W) (s : Plain J) (ps qs : List (List (Recorded J))) → AreTold K sees w s ps u → AreTold K sees u (behind K s (joined ps)) qs v → AreTold K sees w s (ps ++ qs) v
  parts_more w u v s [] qs same h = subst (λ x. AreTold K sees x s qs v) (sym same) (subst (λ t. AreTold K sees u t qs v) (outcome-none K s) h)
  parts_more w u v s (p ∷ ps) qs (mid, one, rest) h =
      (mid, one, parts_more mid u v (behind K s p) ps qs rest (subst (λ t. AreTold K sees u t qs v) (sym (behind_more K L s p (joined ps))) h))

  pub told_more : (w u v : W) (s : Plain J) (xs ys : List (Recorded J)) → Told K sees w u s xs → Told K sees u v (behind K s xs) ys → Told K sees w v s (xs ++ ys)
  told_more w u v s xs ys first second = record {
    parts = first.parts ++ second.parts;
    whole = ap₂ (λ a b. a ++ b) first.whole second.whole ∙ sym (joined_more first.parts second.parts);
    are = parts_more w u v s first.parts second.parts first.are (subst (λ l. AreTold K sees u (behind K s l) second.parts v) first.whole second.are);
  }

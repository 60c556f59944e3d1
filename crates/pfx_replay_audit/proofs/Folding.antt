-- What blocks lead to.
use Rattle.std.proofs.Common.{◌≡◌, ◌∙◌, ℕ, List, [], ◌∷◌, ◌++◌, Option, None, true, get_or, drop, refl, sym, ap, subst, append-nil, append_assoc}
use Rattle.std.proofs.lemmas.List.{map-append}
use Rattle.std.proofs.lemmas.Option.{same_Some}
use Rattle.pfx_store_format.specs.Format.{format}
use Rattle.pfx_jobs.specs.Kind.{Kind, Laws}
use Rattle.pfx_kinds.specs.declared.units.Unit.{Unit}
use Rattle.pfx_log.specs.Logs.{Block}
use Rattle.pfx_machine.specs.Outcome.{outcome}
use Rattle.pfx_machine.specs.Plain.{IsState, Plain}
use Rattle.pfx_machine.specs.Refusals.{refusal}
use Rattle.pfx_machine.proofs.Compose.{outcome-none, outcome-outcome}
use Rattle.pfx_record.specs.Records.{Recorded}
use Rattle.pfx_store_image.specs.Store.{Replays}
use Rattle.pfx_record_redo.specs.Applying.{applied}
use Rattle.pfx_record_redo.specs.Recording.{record_of}
use Rattle.pfx_record_redo.proofs.Outcomes.{records_outcome}
use Rattle.pfx_replay.specs.Commands.{AreNext, command_of, commands_of, is_next}
use Rattle.pfx_replay.specs.Trails.{records_behind}
use Rattle.pfx_replay.specs.declared.verdict.Difference.{Difference}
use Rattle.pfx_replay.proofs.Following.{outcome-cons}
use Rattle.pfx_replay.proofs.FrameRuns.{frames_applied}
use Rattle.pfx_replay.proofs.Sessions.{acceptable-first, acceptable-rest}
use Rattle.pfx_replay_audit.specs.Blocks.{AreRead, IsRead}
use Rattle.pfx_replay_audit.specs.Marks.{Agree, IsFirst, Meets, behind}
use Rattle.pfx_replay_audit.proofs.Marking.{agree_cons, first_cons}

module _ {J : Type 0} (K : Kind J) (L : Laws K) (unit : J → Option Unit) (marks : List (Plain J)) where
  -- the state that frames lead to is the one behind their records, if these agree
  pub led_is : (s : Plain J) (frames : List (List ℕ)) (led : Plain J) → Replays (format K) s frames led → IsState s → Agree K unit marks s (records_behind K s frames) → led ≡ behind K s (records_behind K s frames)
  led_is s frames led run state agree =
      let read = records_behind K s frames in
      let commands = commands_of read in
      same_Some led (behind K s read) (sym (frames_applied K L s led frames run) ∙ ap (applied K s) agree.follow.recorded ∙ records_outcome K L s commands state agree.follow.acceptable)

-- one block more
pub read_more : {J : Type 0} (K : Kind J) (s : Plain J) (blocks : List Block) (xs : List (Recorded J)) (r : Plain J) (block : Block) (ys : List (Recorded J)) (t : Plain J) → AreRead K s blocks xs r → IsRead K r block ys t → AreRead K s (blocks ++ block ∷ []) (xs ++ ys) t
read_more K s [] xs r block ys t none one = (ys, [], t, subst (λ q. IsRead K q block ys t) (sym none.1) one, (refl, refl), ap (λ l. l ++ ys) none.0 ∙ sym (append-nil ys))
read_more K s (first ∷ blocks) xs r block ys t (us, vs, q, is, are, whole) one = (us, vs ++ ys, q, is, read_more K q blocks vs r block ys t are one, ap (λ l. l ++ ys) whole ∙ append_assoc us vs ys)

-- the state behind records, and behind others
pub behind_more : {J : Type 0} (K : Kind J) (L : Laws K) (s : Plain J) (xs ys : List (Recorded J)) → behind K (behind K s xs) ys ≡ behind K s (xs ++ ys)
behind_more K L s xs ys = outcome-outcome K L s (commands_of xs) (commands_of ys) ∙ ap (outcome K s) (sym (map-append command_of xs ys))

next_parts : {J : Type 0} (K : Kind J) (unit : J → Option Unit) (s : Plain J) (x : Recorded J) (xs : List (Recorded J)) → AreNext K unit s (x ∷ xs) → (is_next unit s x ≡ true) × AreNext K unit (outcome K s (command_of x ∷ [])) xs
unfolding AreNext
next_parts K unit s x xs h = h

module _ {J : Type 0} (K : Kind J) (L : Laws K) (unit : J → Option Unit) (marks : List (Plain J)) where
  -- the first of records that agree, and the others
  pub record Parts (s : Plain J) (x : Recorded J) (xs : List (Recorded J)) : Type 0 where
    pub accepted : refusal K s (command_of x) ≡ None
    pub recorded : x ≡ record_of K s (command_of x)
    pub next : is_next unit s x ≡ true
    pub met : Meets marks s
    pub rest : Agree K unit marks (outcome K s (command_of x ∷ [])) xs

  pub parts_of : (s : Plain J) (x : Recorded J) (xs : List (Recorded J)) → Agree K unit marks s (x ∷ xs) → Parts s x xs
  parts_of s x xs agree =
      let follow = agree.follow in
      let accepted = acceptable-first K L s (command_of x) (commands_of xs) follow.acceptable in
      let recorded : x ≡ record_of K s (command_of x) = ap (λ l. get_or l 0 x) follow.recorded in
      let nexts = next_parts K unit s x xs follow.next in
      let t = outcome K s (command_of x ∷ []) in
      record {
        accepted = accepted;
        recorded = recorded;
        next = nexts.0;
        met = subst (λ r. Meets marks r) (outcome-none K s) (agree.met [] (x ∷ xs) refl);
        rest = record {
          follow = record {
            acceptable = acceptable-rest K L s (command_of x) (commands_of xs) follow.acceptable;
            recorded = ap (λ l. drop 1 l) follow.recorded;
            next = nexts.1;
          };
          met = λ front rest e. subst (λ r. Meets marks r) (sym (outcome-cons K L unit s x accepted recorded nexts.0 (commands_of front))) (agree.met (x ∷ front) rest (ap (λ l. x ∷ l) e));
        };
      }

  all_more : (s : Plain J) (xs ys : List (Recorded J)) → Agree K unit marks s xs → Agree K unit marks (behind K s xs) ys → Agree K unit marks s (xs ++ ys)
  all_more s [] ys agree h = subst (λ t. Agree K unit marks t ys) (outcome-none K s) h
  all_more s (x ∷ xs) ys agree h =
      let p = parts_of s x xs agree in
      agree_cons K L unit marks s x p.accepted p.recorded p.next p.met (xs ++ ys)
      (all_more (outcome K s (command_of x ∷ [])) xs ys p.rest (subst (λ t. Agree K unit marks t ys) (sym (outcome-cons K L unit s x p.accepted p.recorded p.next (commands_of xs))) h))

  -- records agree behind others that do
  pub agree_more : (s : Plain J) (xs ys : List (Recorded J)) → Agree K unit marks s xs → Agree K unit marks (behind K s xs) ys → Agree K unit marks s (xs ++ ys) × (behind K (behind K s xs) ys ≡ behind K s (xs ++ ys))
  agree_more s xs ys agree h = (all_more s xs ys agree h, behind_more K L s xs ys)

  -- the first that differs behind records that agree is the first of all
  pub first_more : (s : Plain J) (xs ys : List (Recorded J)) → Agree K unit marks s xs → (what : Difference) (n : ℕ) → IsFirst K unit marks what (behind K s xs) ys n → IsFirst K unit marks what s (xs ++ ys) n
  first_more s [] ys agree what n h = subst (λ t. IsFirst K unit marks what t ys n) (outcome-none K s) h
  first_more s (x ∷ xs) ys agree what n h =
      let p = parts_of s x xs agree in
      first_cons K L unit marks s x p.accepted p.recorded p.next p.met what (xs ++ ys) n
      (first_more (outcome K s (command_of x ∷ [])) xs ys p.rest what n (subst (λ t. IsFirst K unit marks what t ys n) (sym (outcome-cons K L unit s x p.accepted p.recorded p.next (commands_of xs))) h))

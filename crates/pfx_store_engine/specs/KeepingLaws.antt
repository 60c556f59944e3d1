-- What is kept of no command, of some commands and then of more: that it is.
use Rattle.std.proofs.Common.{◌≡◌, ◌≤◌, ℕ, ◌+◌, List, [], ◌∷◌, ◌++◌, length, length-append, take, Option, Some, None, Ok, refl, sym, ap, subst}
use Rattle.std.proofs.Common.{◌∙◌, arith}
use Rattle.std.proofs.Math.Seq.{take-append-add}
use Rattle.pfx_disk.specs.Disk.{View}
use Rattle.pfx_fault.specs.declared.fields.Cause.{Cause}
use Rattle.pfx_store.specs.Groups.{alone, joined}
use Rattle.pfx_store.proofs.Grouping.{joined_alone, length-alone}
use Rattle.pfx_machine.specs.Plain.{Plain}
use Rattle.pfx_machine.specs.Outcome.{outcome}
use Rattle.pfx_machine.specs.Refusals.{refusal, reply}
use Rattle.pfx_machine.specs.Runs.{answer_by}
use Rattle.pfx_machine.specs.Sessions.{IsAcceptable, AllAccepted}
use Rattle.pfx_machine.specs.declared.command.Command.{Command}
use Rattle.pfx_machine.specs.declared.command.Reply.{Reply}
use Rattle.pfx_machine.specs.declared.faults.MachineFault.{MachineFault}
use Rattle.pfx_machine.proofs.Compose.{outcome-none, outcome-outcome}
use Rattle.pfx_store_engine.specs.Surviving.{Survives}
use Rattle.pfx_store_engine.specs.Keeping.{KeepsFrom, IsAccepted}
use Rattle.pfx_jobs.specs.Kind.{Kind, Laws}

-- ---- lists of commands

then_accepted : {J : Type 0} (K : Kind J) (L : Laws K) (s : Plain J) (H before G : List (Command J)) → AllAccepted K (outcome K s H) before G
    → AllAccepted K s (H ++ before) G
then_accepted K L s H before [] h = tt
then_accepted {J = J} K L s H before (c ∷ G) (one, rest) = (
  subst (λ (t : Plain J). refusal K t c ≡ None) (outcome-outcome K L s H before) one,
  subst (λ (l : List (Command J)). AllAccepted K s l G) (assoc H before (c ∷ [])) (then_accepted K L s H (before ++ c ∷ []) G rest),
)
  where
    assoc : (a b c : List (Command J)) → a ++ (b ++ c) ≡ (a ++ b) ++ c
    assoc [] b c = refl
    assoc (x ∷ a) b c = ap (λ l. x ∷ l) (assoc a b c)

both_accepted : {J : Type 0} (K : Kind J) (s : Plain J) (before H G : List (Command J)) → AllAccepted K s before H
    → AllAccepted K s (before ++ H) G → AllAccepted K s before (H ++ G)
both_accepted {J = J} K s before [] G h more = subst (λ (l : List (Command J)). AllAccepted K s l G) (nil before) more
  where
    nil : (l : List (Command J)) → l ++ [] ≡ l
    nil [] = refl
    nil (x ∷ l) = ap (λ k. x ∷ k) (nil l)
both_accepted {J = J} K s before (c ∷ H) G (one, rest) more =
    (one, both_accepted K s (before ++ c ∷ []) H G rest (subst (λ (l : List (Command J)). AllAccepted K s l G) (assoc before H) more))
  where
    assoc : (a b : List (Command J)) → a ++ (c ∷ b) ≡ (a ++ c ∷ []) ++ b
    assoc [] b = refl
    assoc (x ∷ a) b = ap (λ l. x ∷ l) (assoc a b)

pub acceptable_both : {J : Type 0} (K : Kind J) (L : Laws K) (s : Plain J) (H G : List (Command J)) → IsAcceptable K s H
    → IsAcceptable K (outcome K s H) G → IsAcceptable K s (H ++ G)
acceptable_both {J = J} K L s H G first second =
    both_accepted K s [] H G first (subst (λ (l : List (Command J)). AllAccepted K s l G) (nil H) (then_accepted K L s H [] G second))
  where
    nil : (l : List (Command J)) → l ++ [] ≡ l
    nil [] = refl
    nil (x ∷ l) = ap (λ k. x ∷ k) (nil l)

-- a command that is answered isn't refused
answered : {J : Type 0} (K : Kind J) (s : Plain J) (c : Command J) (o : Option MachineFault) (said : Reply) → refusal K s c ≡ o
    → answer_by (reply s c) o ≡ Ok said → refusal K s c ≡ None
answered K s c None said is h = is
answered K s c (Some f) said is h = cc

pub one_accepted : {J : Type 0} (K : Kind J) (s : Plain J) (c : Command J) → IsAccepted K s c → IsAcceptable K s (c ∷ [])
one_accepted {J = J} K s c (said, h) =
    (subst (λ (t : Plain J). refusal K t c ≡ None) (sym (outcome-none K s)) (answered K s c (refusal K s c) said refl h), tt)

-- ---- what is kept

pub keeps_none : {J : Type 0} (K : Kind J) (disk : View) (was : Option Cause) (s : Plain J) → KeepsFrom K disk was s [] 0 disk s
keeps_none K disk was s = record {
  accepted = tt;
  state = λ all. sym (outcome-none K s);
  kept = λ whole honest anchors. record {
    honest = honest;
    anchored = λ all. anchors;
    survive = λ image here. record {
      count = 0;
      at_least = omega arith;
      at_most = omega arith;
      recovered = anchors image (honest.counted disk.clock image (omega arith) here) ∙ ap Ok (sym (outcome-none K s));
    };
  };
}

pub keeps_more : {J : Type 0} (K : Kind J) (L : Laws K) (a b c : View) (was is : Option Cause) (s t u : Plain J) (H G : List (Command J)) (n : ℕ)
    → (was ≡ None → is ≡ None) → KeepsFrom K a was s H (length H) b t → KeepsFrom K b is t G n c u
    → KeepsFrom K a was s (H ++ G) (length H + n) c u
keeps_more {J = J} K L a b c was is s t u H G n settled one two =
    let at : t ≡ outcome K s H = one.state (omega arith) in
    let long : length (H ++ G) ≡ length H + length G = length-append H G in
    record {
      accepted = acceptable_both K L s H G one.accepted (subst (λ (p : Plain J). IsAcceptable K p G) at two.accepted);
      state = λ all. two.state (omega (arith, all, long)) ∙ ap (λ (p : Plain J). outcome K p G) at ∙ outcome-outcome K L s H G;
      kept = λ whole honest anchors.
          let first = one.kept whole honest anchors in
          let second = two.kept (settled whole) first.honest (first.anchored (omega arith)) in
          record {
            honest = second.honest;
            anchored = λ all. second.anchored (omega (arith, all, long));
            survive = λ image here. both at (second.survive image here);
          };
    }
  where
    both : {image : List ℕ} → t ≡ outcome K s H → Survives K t G n image → Survives K s (H ++ G) (length H + n) image
    both {image} at v =
        let least = v.at_least in
        let most = v.at_most in
        let long : length (H ++ G) ≡ length H + length G = length-append H G in
        let split : joined (take (length H + v.count) (alone (H ++ G))) ≡ H ++ joined (take v.count (alone G)) =
        joined_alone (length H + v.count) (H ++ G)
        ∙ (take-append-add H G v.count ∙ ap (λ (l : List (Command J)). H ++ l) (sym (joined_alone v.count G))) in
        record {
          count = length H + v.count;
          at_least = omega (arith, least);
          at_most = omega (arith, most, long, length-alone G, length-alone (H ++ G));
          recovered = v.recovered ∙ ap Ok (ap (λ (p : Plain J). outcome K p (joined (take v.count (alone G)))) at
              ∙ outcome-outcome K L s H (joined (take v.count (alone G)))
              ∙ ap (outcome K s) (sym split));
        }

pub keeps_fewer : {J : Type 0} (K : Kind J) (a : View) (was : Option Cause) (s : Plain J) (H : List (Command J)) (n m : ℕ) (b : View) (t : Plain J)
    → m ≤ n → KeepsFrom K a was s H n b t → KeepsFrom K a was s H m b t
keeps_fewer K a was s H n m b t le h = record {
  accepted = h.accepted;
  state = λ all. h.state (omega (arith, all, le));
  kept = λ whole honest anchors.
      let k = h.kept whole honest anchors in
      record {
        honest = k.honest;
        anchored = λ all. k.anchored (omega (arith, all, le));
        survive = λ image here.
            let v = k.survive image here in
            let least = v.at_least in
            record { count = v.count; at_least = omega (arith, least, le); at_most = v.at_most; recovered = v.recovered };
      };
}

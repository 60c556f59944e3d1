-- Commands in groups of one, and a group of more behind them.
use Rattle.std.specs.Prelude.{◌≡◌, ◌<◌, ◌≤◌, ◌⊎◌, ℕ, ◌+◌, List, [], ◌∷◌, ◌++◌, length, take, Option, Some, None, Ok}
use Rattle.std.proofs.Common.{inl, inr, sym, ◌∙◌, ap, subst, arith, append_assoc, append-nil, length-append}
use Rattle.std.proofs.lemmas.Bool.{cases_lt}
use Rattle.std.proofs.lemmas.List.{take-append-le, take_all}
use Rattle.pfx_record_redo.specs.Recording.{record_of}
use Rattle.pfx_store_format.specs.Format.{format}
use Rattle.pfx_store.specs.Groups.{AreKeptAs, AreRecordsOf, AreSmall, alone, frame_of, joined}
use Rattle.pfx_store.specs.Groups as groups
use Rattle.pfx_store.proofs.Grouping.{common_kept, all_alone, alone_small, frames_there, joined_alone, length-alone}
use Rattle.pfx_store.proofs.Grouping as grouping
use Rattle.pfx_machine.specs.Plain.{Plain, IsState}
use Rattle.pfx_machine.specs.Batches.{IsBatchable, IsCommon}
use Rattle.pfx_machine.specs.Outcome.{outcome}
use Rattle.pfx_machine.specs.Refusals.{refusal}
use Rattle.pfx_machine.specs.Sessions.{IsAcceptable}
use Rattle.pfx_machine.specs.declared.command.Command.{Command}
use Rattle.pfx_machine.specs.declared.command.Command.TheVariants.{Reweigh}
use Rattle.pfx_machine.proofs.Compose.{outcome-none}
use Rattle.pfx_record.specs.Records as recorded
use Rattle.pfx_store_image.specs.Store.{Replays}
use Rattle.pfx_store_engine.specs.Renewing.{IsKeepable, IsRenewalFor}
use Rattle.pfx_store_engine.specs.Surviving.{Survives, frames_of}
use Rattle.pfx_weights.specs.Sets.{FilledSet}
use Rattle.pfx_jobs.specs.Kind.{Kind, Laws}

-- one command
pub one_record : {J : Type 0} (K : Kind J) (s : Plain J) (c : Command J) (records : List (recorded.Recorded J)) → IsCommon c → refusal K s c ≡ None → records ≡ record_of K s c ∷ [] → AreRecordsOf K s (c ∷ []) records
one_record {J = J} K s c records common accepted is = record { accepted = (subst (λ (t : Plain J). refusal K t c ≡ None) (sym (outcome-none K s)) accepted, tt); common = (common, tt); of = is }

-- and one alone, which may be a Reweigh
pub one_kept : {J : Type 0} (K : Kind J) (s : Plain J) (c : Command J) (records : List (recorded.Recorded J)) → refusal K s c ≡ None → records ≡ record_of K s c ∷ [] → AreKeptAs K s (c ∷ []) records
one_kept {J = J} K s c records accepted is = record { accepted = (subst (λ (t : Plain J). refusal K t c ≡ None) (sym (outcome-none K s)) accepted, tt); may = tt; of = is }

-- a command with what is prepared for it can be kept
pub keepable_one : {J : Type 0} (K : Kind J) (s : Plain J) (c : Command J) (records : List (recorded.Recorded J)) (renewal : Option FilledSet) → IsRenewalFor s c renewal → refusal K s c ≡ None → records ≡ record_of K s c ∷ [] → IsKeepable K s records renewal
keepable_one K s c records None common accepted is = (c ∷ [], one_record K s c records common accepted is)
keepable_one {J = J} K s c records (Some set) renews accepted is =
    let (m, weights, same, new) = renews in
    (m, weights, subst (λ (d : Command J). AreKeptAs K s (d ∷ []) records) same (one_kept K s c records accepted is), new)

-- and so can these commands
pub keepable_kept : {J : Type 0} (K : Kind J) (s : Plain J) (records : List (recorded.Recorded J)) (renewal : Option FilledSet) → IsKeepable K s records renewal → (G : List (Command J)) × AreKeptAs K s G records
keepable_kept K s records None keepable = (keepable.0, common_kept K s keepable.0 records keepable.1)
keepable_kept K s records (Some set) keepable = let (m, weights, are, new) = keepable in (Reweigh m weights ∷ [], are)

pub all_in : {J : Type 0} (K : Kind J) (s : Plain J) (H : List (Command J)) → IsAcceptable K s H → IsAcceptable K s (joined (alone H))
all_in {J = J} K s H all = subst (λ (l : List (Command J)). IsAcceptable K s l) (sym (all_alone H)) all

-- the commands of groups with one behind them
joined_snoc : {J : Type 0} (all : List (List (Command J))) (group : List (Command J)) → joined (all ++ group ∷ []) ≡ joined all ++ group
joined_snoc [] group = append-nil group
joined_snoc {J = J} (one ∷ all) group = ap (λ (l : List (Command J)). one ++ l) (joined_snoc all group) ∙ sym (append_assoc one (joined all) group)

small_snoc : {J : Type 0} (all : List (List (Command J))) (group : List (Command J)) → AreSmall all → 0 < length group → length group ≤ 16 → IsBatchable group → AreSmall (all ++ group ∷ [])
small_snoc [] group small some few may = (some, few, may, tt)
small_snoc (one ∷ all) group small some few may = (small.0, small.1, small.2, small_snoc all group small.3 some few may)

-- Commands that were kept alone, and a group behind them.
module _ {J : Type 0} (K : Kind J) (L : Laws K) (start : Plain J) (H G : List (Command J)) where
  abbrev pub with_group : List (List (Command J))
  with_group = alone H ++ G ∷ []

  with_commands : joined with_group ≡ H ++ G
  with_commands = joined_snoc (alone H) G ∙ ap (λ (l : List (Command J)). l ++ G) (all_alone H)

  pub with_accepted : IsAcceptable K start (H ++ G) → IsAcceptable K start (joined with_group)
  with_accepted all = subst (λ (l : List (Command J)). IsAcceptable K start l) (sym with_commands) all

  pub with_small : IsBatchable G → 0 < length G → length G ≤ 16 → AreSmall with_group
  with_small may some few = small_snoc (alone H) G (alone_small H) some few may

  pub with_frames : groups.frames_of K start with_group ≡ frames_of K start H ++ frame_of K (outcome K start H) G ∷ []
  with_frames =
      grouping.frames_snoc K L start (alone H) G ∙ ap (λ (l : List (Command J)). frames_of K start H ++ frame_of K (outcome K start l) G ∷ []) (all_alone H)

  -- what survives of them, as commands
  pub with_survives : (n : ℕ) (image : List ℕ) → 0 < length G → groups.Survives K start with_group n image → Survives K start (H ++ G) n image
  with_survives n image some v = by (cases_lt (length H) v.count)
    where
      long : length with_group ≡ length H + 1
      long = length-append (alone H) (G ∷ []) ∙ ap (λ (k : ℕ). k + 1) (length-alone H)

      both : length (alone (H ++ G)) ≡ length H + length G
      both = length-alone (H ++ G) ∙ length-append H G

      -- all of them
      whole : length H < v.count → joined (take v.count with_group) ≡ joined (take (length H + length G) (alone (H ++ G)))
      whole later =
          let most = v.at_most in
          ap joined (take_all v.count with_group (omega (arith, long, later))) ∙ with_commands
          ∙ sym (ap joined (take_all (length H + length G) (alone (H ++ G)) (omega (arith, both))) ∙ all_alone (H ++ G))

      -- some of the first
      front : v.count ≤ length H → joined (take v.count with_group) ≡ joined (take v.count (alone (H ++ G)))
      front few =
          ap joined (take-append-le v.count (alone H) (G ∷ []) (omega (arith, few, length-alone H))) ∙ joined_alone v.count H
          ∙ sym (joined_alone v.count (H ++ G) ∙ take-append-le v.count H G few)

      by : (length H < v.count) ⊎ (v.count ≤ length H) → Survives K start (H ++ G) n image
      by (inl later) =
          let least = v.at_least in
          let most = v.at_most in
          record {
            count = length H + length G;
            at_least = omega (arith, least, most, long, some);
            at_most = omega (arith, both);
            recovered = v.recovered ∙ ap (λ (l : List (Command J)). Ok (outcome K start l)) (whole later);
          }
      by (inr few) =
          let least = v.at_least in
          record {
            count = v.count;
            at_least = least;
            at_most = omega (arith, few, both);
            recovered = v.recovered ∙ ap (λ (l : List (Command J)). Ok (outcome K start l)) (front few);
          }

pub replays_commands : {J : Type 0} (K : Kind J) (L : Laws K) (s : Plain J) (H : List (Command J)) → IsState s → IsAcceptable K s H → Replays (format K) s (frames_of K s H) (outcome K s H)
replays_commands {J = J} K L s H h all =
    subst (λ (l : List (Command J)). Replays (format K) s (frames_of K s H) (outcome K s l)) (all_alone H)
    (frames_there K L s (alone H) h (all_in K s H all) (alone_small H))

pub take_accepted : {J : Type 0} (K : Kind J) (L : Laws K) (s : Plain J) (H : List (Command J)) (n : ℕ) → IsAcceptable K s H → IsAcceptable K s (joined (take n (alone H)))
take_accepted K L s H n all = grouping.take_accepted K L s (alone H) n (all_in K s H all)

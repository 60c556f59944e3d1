-- Frames of groups of commands: where they lead, and what survives of them.
use Rattle.std.specs.Prelude.{◌≡◌, ℕ, zero, suc, ◌+◌, ◌<◌, ◌≤◌, ◌^◌, All, List, [], ◌∷◌, ◌++◌, length, take, drop, Bool, true, false, Some, None, Ok, IsTrue, if◌then◌else◌, refl}
use Rattle.std.proofs.Common.{sym, ◌∙◌, ap, subst, arith, append_assoc, append-nil}
use Rattle.std.proofs.lemmas.Bool.{lt-ltb, le-leb}
use Rattle.std.proofs.lemmas.Option.{none-some, same_Some}
use Rattle.pfx_weights.specs.Sets.{FilledSet}
use Rattle.pfx_disk.specs.Disk.{View}
use Rattle.pfx_record_redo.specs.Applying.{applied, form_at, is_common, is_right, after_record}
use Rattle.pfx_record_redo.specs.Recording.{record_of, records_of}
use Rattle.pfx_record_redo.proofs.Outcomes.{records_outcome}
use Rattle.pfx_record_redo.proofs.Commons.{common_fits, records_common}
use Rattle.pfx_record_redo.proofs.States.{applied_behind, in_force, right_parts}
use Rattle.pfx_store_format.specs.Format.{format}
use Rattle.pfx_store_format.specs.Frames.{state_after}
use Rattle.pfx_store_format.proofs.Batches.{some_same}
use Rattle.pfx_store_format.proofs.Nexts.{frame_leads}
use Rattle.pfx_jobs.specs.Kind.{Kind, Laws}
use Rattle.pfx_machine.specs.Plain.{Plain, IsState}
use Rattle.pfx_machine.specs.Outcome.{outcome}
use Rattle.pfx_machine.specs.Refusals.{refusal}
use Rattle.pfx_machine.specs.Batches.{AreCommon, IsBatchable}
use Rattle.pfx_machine.specs.Sessions.{AllAccepted, IsAcceptable}
use Rattle.pfx_machine.specs.declared.command.Command.{Command}
use Rattle.pfx_machine.proofs.Compose.{outcome-none, outcome-outcome}
use Rattle.pfx_machine.proofs.Keeping.{prefix_is_state}
use Rattle.pfx_record.specs.Batches.{PlainBatch, all_fit, batch_bytes, batch_fits, counts_fit}
use Rattle.pfx_record.specs.Records.{Recorded, form_of, record_fits}
use Rattle.pfx_record.proofs.Rising.{of_both}
use Rattle.pfx_store_image.specs.Codec.{Codec}
use Rattle.pfx_store_image.specs.Store.{Replays}
use Rattle.pfx_store_file.specs.Holding as frames
use Rattle.pfx_store.specs.Groups.{AreKeptAs, AreRecordsOf, AreSmall, KeepsAll, Survives, alone, frame_of, frames_of, joined}

-- records that are right have spellings
fit_by : {J : Type 0} (K : Kind J) (s t : Plain J) (done : Recorded J) (records : List (Recorded J)) (b : Bool) → is_right K s done ≡ b → (if b then applied K (after_record s done) records else None) ≡ Some t →
    IsTrue (record_fits (form_at s) done) × (applied K (after_record s done) records ≡ Some t)
fit_by K s t done records true is h = ((right_parts K s done is).form, h)
fit_by K s t done records false is h = absurd (none-some t h)

all_fit_of : {J : Type 0} (K : Kind J) (s t : Plain J) (workers real count : ℕ) (records : List (Recorded J)) → s.ledger.set.workers ≡ workers → All (λ done. IsTrue (is_common done)) records → applied K s records ≡ Some t →
    IsTrue (all_fit (form_of workers real count) records)
all_fit_of K s t workers real count [] same common h = refl
all_fit_of K s t workers real count (done ∷ records) same common h =
    let first = fit_by K s t done records (is_right K s done) refl h in
    let one = common 0 done (omega arith) in
    let next = ap (λ (f : FilledSet). f.workers) (in_force s done one).set ∙ same in
    of_both (record_fits (form_of workers real count) done) (all_fit (form_of workers real count) records) (common_fits (form_at s) (form_of workers real count) done one same first.0)
    (all_fit_of K (after_record s done) t workers real count records next (λ k d l. common (suc k) d (omega (arith, l))) first.1)

-- and one that is alone has a spelling of its state's form
alone_fits : {J : Type 0} (K : Kind J) (s t : Plain J) (done : Recorded J) → applied K s (done ∷ []) ≡ Some t → IsTrue (all_fit (form_of s.ledger.set.workers s.ledger.set.real 1) (done ∷ []))
alone_fits K s t done h = of_both (record_fits (form_at s) done) true (fit_by K s t done [] (is_right K s done) refl h).0 refl

-- common commands may be a batch
pub common_batchable : {J : Type 0} (H : List (Command J)) → AreCommon H → IsBatchable H
common_batchable [] common = tt
common_batchable (c ∷ []) common = tt
common_batchable (c ∷ d ∷ H) common = common

pub length-records : {J : Type 0} (K : Kind J) (s : Plain J) (H : List (Command J)) → length (records_of K s H) ≡ length H
length-records K s [] = refl
length-records K s (c ∷ H) = omega (arith, length-records K (outcome K s (c ∷ [])) H)

-- the front of accepted commands, and what stands behind it
front_accepted : {J : Type 0} (K : Kind J) (s : Plain J) (before H G : List (Command J)) → AllAccepted K s before (H ++ G) → AllAccepted K s before H
front_accepted K s before [] G all = tt
front_accepted K s before (c ∷ H) G all = (all.0, front_accepted K s (before ++ c ∷ []) H G all.1)

behind_accepted : {J : Type 0} (K : Kind J) (s : Plain J) (before H G : List (Command J)) → AllAccepted K s before (H ++ G) → AllAccepted K s (before ++ H) G
behind_accepted K s before [] G all = subst (λ l. AllAccepted K s l G) (sym (append-nil before)) all
behind_accepted K s before (c ∷ H) G all = subst (λ l. AllAccepted K s l G) (append_assoc before (c ∷ []) H) (behind_accepted K s (before ++ c ∷ []) H G all.1)

from_there : {J : Type 0} (K : Kind J) (L : Laws K) (s : Plain J) (H mid G : List (Command J)) → AllAccepted K s (H ++ mid) G → AllAccepted K (outcome K s H) mid G
from_there K L s H mid [] all = tt
from_there K L s H mid (c ∷ G) all = (
  ap (λ t. refusal K t c) (outcome-outcome K L s H mid) ∙ all.0,
  from_there K L s H (mid ++ c ∷ []) G (subst (λ l. AllAccepted K s l G) (append_assoc H mid (c ∷ [])) all.1),
)

behind_there : {J : Type 0} (K : Kind J) (L : Laws K) (s : Plain J) (H G : List (Command J)) → IsAcceptable K s (H ++ G) → IsAcceptable K (outcome K s H) G
behind_there K L s H G all = from_there K L s H [] G (subst (λ l. AllAccepted K s l G) (sym (append-nil H)) (behind_accepted K s [] H G all))

-- One group, and its frame.
module _ {J : Type 0} (K : Kind J) (L : Laws K) (s : Plain J) (H : List (Command J)) (state : IsState s) (all : IsAcceptable K s H) where
  pub group_led : applied K s (records_of K s H) ≡ Some (outcome K s H)
  group_led = records_outcome K L s H state all

  -- its records have spellings where so many tasks are real
  abbrev Fit : ℕ → List (Command J) → Type 0
  Fit real G = IsTrue (all_fit (form_of s.ledger.set.workers real (length (records_of K s G))) (records_of K s G))

  common_fit : (real : ℕ) → AreCommon H → Fit real H
  common_fit real common = all_fit_of K s (outcome K s H) s.ledger.set.workers real (length (records_of K s H)) (records_of K s H) refl (records_common K s H common) group_led

  batch_fit : (G : List (Command J)) → (AreCommon G → Fit s.ledger.set.real G) → IsBatchable G → applied K s (records_of K s G) ≡ Some (outcome K s G) → Fit s.ledger.set.real G
  batch_fit [] fit may led = refl
  batch_fit (c ∷ []) fit may led = alone_fits K s (outcome K s (c ∷ [])) (record_of K s c) led
  batch_fit (c ∷ d ∷ G) fit may led = fit may

  module _ (some : 0 < length H) (few : length H ≤ 16) where
    abbrev batch : PlainBatch J
    batch = record { first = s.number + 1; records = records_of K s H }

    abbrev workers : ℕ
    workers = s.ledger.set.workers

    below : s.number + length H < 2 ^ 48
    below =
        let behind = applied_behind K s (outcome K s H) (records_of K s H) group_led in
        let n = (behind.state state).number in
        omega (arith, n, behind.number, length-records K s H)

    counts_here : IsTrue (counts_fit s.ledger.set.workers (s.number + 1) (length (records_of K s H)))
    counts_here =
        let long = length-records K s H in
        let m = state.ledger.set.workers in
        of_both _ _ (of_both _ _ (lt-ltb 0 workers (omega (arith, m.0))) (le-leb workers 64 m.1))
        (of_both _ _ (of_both _ _ (lt-ltb 0 (length (records_of K s H)) (omega (arith, long, some))) (le-leb (length (records_of K s H)) 16 (omega (arith, long, few))))
        (of_both _ _ (lt-ltb 0 (s.number + 1) (omega arith)) (le-leb (s.number + 1 + length (records_of K s H)) (2 ^ 48) (omega (arith, long, below)))))

    pub common_batch_fits : (real : ℕ) → AreCommon H → IsTrue (batch_fits s.ledger.set.workers real (record { first = s.number + 1; records = records_of K s H }))
    common_batch_fits real common = of_both _ _ counts_here (common_fit real common)

    pub group_fits : IsBatchable H → IsTrue (batch_fits s.ledger.set.workers s.ledger.set.real (record { first = s.number + 1; records = records_of K s H }))
    group_fits may = of_both _ _ counts_here (batch_fit H (common_fit s.ledger.set.real) may group_led)

    pub batch_led : IsBatchable H → state_after K s (frame_of K s H) ≡ Some (outcome K s H)
    batch_led may = frame_leads K L s (outcome K s H) batch (group_fits may) refl (omega (arith, length-records K s H, below)) group_led

-- Groups, one behind the other.
module _ {J : Type 0} (K : Kind J) (L : Laws K) where
  -- the records of a list are those of its front, and those of the rest behind the front's outcome
  pub records_split : (s : Plain J) (H G : List (Command J)) → records_of K s (H ++ G) ≡ records_of K s H ++ records_of K (outcome K s H) G
  records_split s [] G = ap (λ t. records_of K t G) (sym (outcome-none K s))
  records_split s (c ∷ H) G = ap (λ l. record_of K s c ∷ l)
      (records_split (outcome K s (c ∷ [])) H G ∙ ap (λ t. records_of K (outcome K s (c ∷ [])) H ++ records_of K t G) (outcome-outcome K L s (c ∷ []) H))

  -- frames lead to the outcome of their commands, and nowhere else
  pub frames_lead : (s : Plain J) (groups : List (List (Command J))) (t : Plain J) → IsState s → IsAcceptable K s (joined groups) → AreSmall groups → Replays (format K) s (frames_of K s groups) t → t ≡ outcome K s (joined groups)
  frames_lead s [] t state all small run = sym run ∙ sym (outcome-none K s)
  frames_lead s (group ∷ groups) t state all small run =
      let front : IsAcceptable K s group = front_accepted K s [] group (joined groups) all in
      let led = batch_led K L s group state front small.0 small.1 small.2 in
      let same : run.0 ≡ outcome K s group = same_Some _ _ (sym run.1 ∙ led) in
      let next : IsState (outcome K s group) = prefix_is_state K L s state group (joined groups) all in
      frames_lead (outcome K s group) groups t next (behind_there K L s group (joined groups) all) small.3 (subst (λ r. Replays (format K) r (frames_of K (outcome K s group) groups) t) same run.2)
      ∙ outcome-outcome K L s group (joined groups)

  pub frames_there : (s : Plain J) (groups : List (List (Command J))) → IsState s → IsAcceptable K s (joined groups) → AreSmall groups → Replays (format K) s (frames_of K s groups) (outcome K s (joined groups))
  frames_there s [] state all small = sym (outcome-none K s)
  frames_there s (group ∷ groups) state all small =
      let front : IsAcceptable K s group = front_accepted K s [] group (joined groups) all in
      let next : IsState (outcome K s group) = prefix_is_state K L s state group (joined groups) all in (
        outcome K s group,
        batch_led K L s group state front small.0 small.1 small.2,
        subst (λ t. Replays (format K) (outcome K s group) (frames_of K (outcome K s group) groups) t) (outcome-outcome K L s group (joined groups))
            (frames_there (outcome K s group) groups next (behind_there K L s group (joined groups) all) small.3),
      )

  -- the first groups
  take_frames : (k : ℕ) (s : Plain J) (groups : List (List (Command J))) → take k (frames_of K s groups) ≡ frames_of K s (take k groups)
  take_frames zero s groups = refl
  take_frames (suc k) s [] = refl
  take_frames (suc k) s (group ∷ groups) = ap (λ l. frame_of K s group ∷ l) (take_frames k (outcome K s group) groups)

  take_joined : (k : ℕ) (groups : List (List (Command J))) → joined (take k groups) ++ joined (drop k groups) ≡ joined groups
  take_joined zero groups = refl
  take_joined (suc k) [] = refl
  take_joined (suc k) (group ∷ groups) = append_assoc group (joined (take k groups)) (joined (drop k groups)) ∙ ap (λ l. group ++ l) (take_joined k groups)

  take_small : (k : ℕ) (groups : List (List (Command J))) → AreSmall groups → AreSmall (take k groups)
  take_small zero groups small = tt
  take_small (suc k) [] small = tt
  take_small (suc k) (group ∷ groups) small = (small.0, small.1, small.2, take_small k groups small.3)

  pub take_accepted : (s : Plain J) (groups : List (List (Command J))) (k : ℕ) → IsAcceptable K s (joined groups) → IsAcceptable K s (joined (take k groups))
  take_accepted s groups k all = front_accepted K s [] (joined (take k groups)) (joined (drop k groups)) (subst (λ l. AllAccepted K s [] l) (sym (take_joined k groups)) all)

  pub first_frames_there : (s : Plain J) (groups : List (List (Command J))) (k : ℕ) → IsState s → IsAcceptable K s (joined groups) → AreSmall groups → Replays (format K) s (take k (frames_of K s groups)) (outcome K s (joined (take k groups)))
  first_frames_there s groups k state all small =
      subst (λ l. Replays (format K) s l (outcome K s (joined (take k groups)))) (sym (take_frames k s groups)) (frames_there s (take k groups) state (take_accepted s groups k all) (take_small k groups small))

  pub first_frames_lead : (s : Plain J) (groups : List (List (Command J))) (k : ℕ) (t : Plain J) → IsState s → IsAcceptable K s (joined groups) → AreSmall groups → Replays (format K) s (take k (frames_of K s groups)) t → t ≡ outcome K s (joined (take k groups))
  first_frames_lead s groups k t state all small run =
      frames_lead s (take k groups) t state (take_accepted s groups k all) (take_small k groups small) (subst (λ l. Replays (format K) s l t) (take_frames k s groups) run)

  -- the frames of groups with one behind them
  pub frames_snoc : (s : Plain J) (groups : List (List (Command J))) (group : List (Command J)) → frames_of K s (groups ++ group ∷ []) ≡ frames_of K s groups ++ frame_of K (outcome K s (joined groups)) group ∷ []
  frames_snoc s [] group = ap (λ t. frame_of K t group ∷ []) (sym (outcome-none K s))
  frames_snoc s (one ∷ groups) group = ap (λ l. frame_of K s one ∷ l)
      (frames_snoc (outcome K s one) groups group ∙ ap (λ t. frames_of K (outcome K s one) groups ++ frame_of K t group ∷ []) (outcome-outcome K L s one (joined groups)))

  length-frames : (s : Plain J) (groups : List (List (Command J))) → length (frames_of K s groups) ≡ length groups
  length-frames s [] = refl
  length-frames s (group ∷ groups) = ap suc (length-frames (outcome K s group) groups)

  -- What survives of frames survives of their groups, and the other way.
  module _ (start : Plain J) (groups : List (List (Command J))) (state : IsState start) (all : IsAcceptable K start (joined groups)) (small : AreSmall groups) where
    pub to_frames : (n : ℕ) (image : List ℕ) → Survives K start groups n image → frames.Survives (format K) start (frames_of K start groups) n image
    to_frames n image v = record {
      count = v.count;
      at_least = v.at_least;
      at_most = (let most = v.at_most in omega (arith, most, length-frames start groups));
      state = outcome K start (joined (take v.count groups));
      replays = first_frames_there start groups v.count state all small;
      recovered = v.recovered;
    }

    pub to_groups : (n : ℕ) (image : List ℕ) → frames.Survives (format K) start (frames_of K start groups) n image → Survives K start groups n image
    to_groups n image v = record {
      count = v.count;
      at_least = v.at_least;
      at_most = (let most = v.at_most in omega (arith, most, length-frames start groups));
      recovered = v.recovered ∙ ap Ok (first_frames_lead start groups v.count v.state state all small v.replays);
    }

  -- a call that keeps frames keeps their groups
  pub keeps_groups : (start : Plain J) (groups more : List (List (Command J))) (old new : View) → IsState start → IsAcceptable K start (joined groups) → AreSmall groups → IsAcceptable K start (joined more) → AreSmall more
      → frames.KeepsAll (format K) start (frames_of K start groups) (frames_of K start more) old new → KeepsAll K start groups more old new
  keeps_groups start groups more old new state all small all_more small_more keeps c n le before image here =
      to_groups start more state all_more small_more n image (keeps c n le (λ other was. to_frames start groups state all small n other (before other was)) image here)

-- records without one of new weights may be a batch's
pub common_kept : {J : Type 0} (K : Kind J) (s : Plain J) (H : List (Command J)) (records : List (Recorded J)) → AreRecordsOf K s H records → AreKeptAs K s H records
common_kept K s H records are = record { accepted = are.accepted; may = common_batchable H are.common; of = are.of }

-- Records that a batch has.
module _ {J : Type 0} (K : Kind J) (L : Laws K) (s : Plain J) (H : List (Command J)) (records : List (Recorded J)) (state : IsState s) where
  long : AreKeptAs K s H records → length H ≡ length records
  long are = sym (length-records K s H) ∙ ap length (sym are.of)

  pub records_fit : AreRecordsOf K s H records → (workers first : ℕ) → workers ≡ s.ledger.set.workers → first ≡ s.number → 0 < length records → length records ≤ 16 → IsTrue (batch_fits workers 0 (record { first = first + 1; records = records }))
  records_fit are workers first same next some few =
      let counted = long (common_kept K s H records are) in
      (λ i. batch_fits (same i) 0 (record { first = next i + 1; records = are.of i })) ∙ common_batch_fits K L s H state are.accepted (omega (arith, counted, some)) (omega (arith, counted, few)) 0 are.common

  pub kept_fit : AreKeptAs K s H records → (workers real first : ℕ) → workers ≡ s.ledger.set.workers → real ≡ s.ledger.set.real → first ≡ s.number → 0 < length records → length records ≤ 16 → IsTrue (batch_fits workers real (record { first = first + 1; records = records }))
  kept_fit are workers real first same as_many next some few =
      let counted = long are in
      (λ i. batch_fits (same i) (as_many i) (record { first = next i + 1; records = are.of i })) ∙ group_fits K L s H state are.accepted (omega (arith, counted, some)) (omega (arith, counted, few)) are.may

module _ {J : Type 0} (K : Kind J) (L : Laws K) (s : Plain J) (H : List (Command J)) (records : List (Recorded J)) (state : IsState s) (are : AreKeptAs K s H records) where
  pub records_lead : applied K s records ≡ Some (outcome K s H)
  records_lead = ap (applied K s) are.of ∙ group_led K L s H state are.accepted

  pub frame_is : (first : ℕ) → first ≡ s.number + 1 → batch_bytes K (record { first = first; records = records }) ≡ frame_of K s H
  frame_is first next = λ i. batch_bytes K (record { first = next i; records = are.of i })

-- frames lead to one state
pub replays_same : {H S : Type 0} (C : Codec H S) (frames : List (List ℕ)) (s t u : S) → Replays C s frames t → Replays C s frames u → t ≡ u
replays_same C [] s t u a b = sym a ∙ b
replays_same C (frame ∷ frames) s t u a b = replays_same C frames a.0 t u a.2 (subst (λ r. Replays C r frames u) (some_same b.0 a.0 (sym b.1 ∙ a.1)) b.2)

-- each command alone
pub joined_alone : {J : Type 0} (k : ℕ) (H : List (Command J)) → joined (take k (alone H)) ≡ take k H
joined_alone zero H = refl
joined_alone (suc k) [] = refl
joined_alone (suc k) (c ∷ H) = ap (λ l. c ∷ l) (joined_alone k H)

pub all_alone : {J : Type 0} (H : List (Command J)) → joined (alone H) ≡ H
all_alone [] = refl
all_alone (c ∷ H) = ap (λ l. c ∷ l) (all_alone H)

pub alone_small : {J : Type 0} (H : List (Command J)) → AreSmall (alone H)
alone_small [] = tt
alone_small (c ∷ H) = (omega arith, omega arith, tt, alone_small H)

pub length-alone : {J : Type 0} (H : List (Command J)) → length (alone H) ≡ length H
length-alone [] = refl
length-alone (c ∷ H) = ap suc (length-alone H)

pub alone_snoc : {J : Type 0} (H : List (Command J)) (c : Command J) → alone (H ++ c ∷ []) ≡ alone H ++ (c ∷ []) ∷ []
alone_snoc [] c = refl
alone_snoc (d ∷ H) c = ap (λ l. (d ∷ []) ∷ l) (alone_snoc H c)

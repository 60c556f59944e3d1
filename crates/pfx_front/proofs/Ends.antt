-- What the store and its images have of a session that is closed.
use Rattle.std.proofs.Common.{◌≡◌, ◌≢◌, ◌⊎◌, ℕ, zero, suc, ◌+◌, ◌≤◌, List, [], ◌∷◌, ◌++◌, length, take, drop, Bool, Option, None, Ok, refl, sym, ap, ◌∙◌, subst, arith, append_assoc, length-append, inl, inr}
use Rattle.std.proofs.lemmas.List.{take-append-drop, length-take-le}
use Rattle.std.proofs.lemmas.Option.{same_Some}
use Rattle.pfx_disk.specs.Disk.{View, IsHonest}
use Rattle.pfx_fault.specs.declared.fields.Cause.{Cause}
use Rattle.pfx_jobs.specs.Kind.{Kind, Laws}
use Rattle.pfx_machine.specs.Plain.{Plain, IsState}
use Rattle.pfx_machine.specs.Outcome.{outcome}
use Rattle.pfx_machine.specs.Sessions.{AllAccepted, IsAcceptable}
use Rattle.pfx_machine.specs.declared.command.Command.{Command}
use Rattle.pfx_record_redo.specs.Applying.{applied}
use Rattle.pfx_record_redo.specs.Recording.{records_of}
use Rattle.pfx_record_redo.proofs.Outcomes.{records_outcome}
use Rattle.pfx_book_slot.proofs.Placed.{take_own}
use Rattle.pfx_store.specs.Groups.{joined, AreSmall}
use Rattle.pfx_store.specs.Groups as groups
use Rattle.pfx_store.specs.Marks.{IsKept, AreKept}
use Rattle.pfx_store.specs.declared.appending.Mark.{Mark}
use Rattle.pfx_store.proofs.Grouping.{length-records, records_split, first_frames_lead, to_groups}
use Rattle.pfx_book.specs.declared.note.Note.{Note}
use Rattle.pfx_book.specs.declared.note.Note.TheVariants.{Receipt, Marked}
use Rattle.pfx_book.specs.Kept.{HasFailed}
use Rattle.pfx_book.specs.Notes.{Noted, Backed, AllBacked, records_in}
use Rattle.pfx_book.specs.Register.{Register}
use Rattle.pfx_book.proofs.Notes.{number_is, records_more}
use mathlib.Core.List.{IsPrefix}
use Rattle.pfx_front_board.specs.Word.{records_of as records_of_batches}
use Rattle.pfx_front_board.proofs.Words.{records_append}
use Rattle.pfx_record_redo.proofs.States.{applied_behind}
use Rattle.pfx_record.specs.Records.{Recorded}
use Rattle.pfx_record.specs.declared.batch.Batch.{Batch}
use Rattle.pfx_front.specs.Showing.{IsShown}
use Rattle.pfx_front.specs.Closing.{Acknowledged, IsSeen, IsStored, IsHeld, StaysWhole}
use Rattle.pfx_front.specs.Keeping.{mark_in, marks_of, frames_of, Behind}
use Rattle.pfx_front.proofs.Groups.{take_joined, front_accepted, IsGrouped, grouped}

take_front : {A : Type 0} (xs ys zs : List A) → xs ++ ys ≡ zs → take (length xs) zs ≡ xs
take_front xs ys zs same = ap (take (length xs)) (sym same) ∙ take_own (length xs) xs ys refl

joined_longer : {J : Type 0} (a b : ℕ) (gs : List (List (Command J))) → a ≤ b → length (joined (take a gs)) ≤ length (joined (take b gs))
joined_longer zero b gs less = omega arith
joined_longer (suc a) zero gs less = absurd (omega (arith, less))
joined_longer (suc a) (suc b) [] less = omega arith
joined_longer (suc a) (suc b) (group ∷ gs) less =
    let rest = joined_longer a b gs (omega (arith, less)) in
    omega (arith, rest, length-append group (joined (take a gs)), length-append group (joined (take b gs)))

module _ {J : Type 0} (K : Kind J) (start : Plain J) where
  kept_parts : (all : List (List ℕ)) (xs ys : List Mark) (disk : View) → AreKept K start all (xs ++ ys) disk → AreKept K start all xs disk × AreKept K start all ys disk
  kept_parts all [] ys disk h = (tt, h)
  kept_parts all (x ∷ xs) ys disk h = let r = kept_parts all xs ys disk h.1 in ((h.0, r.0), r.1)

  -- a mark that is noted is kept
  kept_of : (all : List (List ℕ)) (notes : List (Note J)) (n c : ℕ) (disk : View) → AreKept K start all (marks_of notes) disk → Noted (Marked n c) notes → IsKept K start all (record { number = n; clock = c }) disk
  kept_of all [] n c disk h noted = absurd noted
  kept_of all (x ∷ xs) n c disk h (inl same) = (subst (λ l. AreKept K start all l disk) (ap mark_in same) (kept_parts all (marks_of xs) (mark_in x) disk h).1).0
  kept_of all (x ∷ xs) n c disk h (inr later) = kept_of all xs n c disk (kept_parts all (marks_of xs) (mark_in x) disk h).0 later

  backed_of : (notes : List (Note J)) (all : List (ℕ × Note J)) (k : ℕ) (x : Note J) → AllBacked notes all → Noted (k, x) all → Backed notes x
  backed_of notes [] k x h noted = absurd noted
  backed_of notes (y ∷ ys) k x h (inl same) = subst (λ (e : ℕ × Note J). Backed notes e.1) same h.0
  backed_of notes (y ∷ ys) k x h (inr later) = backed_of notes ys k x h.1 later

  lower : (H : List (Command J)) (disk : View) (n m c : ℕ) → n ≤ m → Acknowledged K start H disk m c → Acknowledged K start H disk n c
  lower H disk n m c less h = record {
    past = h.past;
    images = λ image since.
        let v = h.images image since in
        record { count = v.count; at_most = v.at_most; at_least = (let least = v.at_least in omega (arith, less, least)); recovered = v.recovered };
  }

-- records that begin those of first commands
module _ {J : Type 0} (K : Kind J) (L : Laws K) (start : Plain J) (H : List (Command J)) (taken : ℕ) (few : taken ≤ length H) (xs rest : List (Recorded J))
    (cut : xs ++ rest ≡ records_of K start (take taken H)) where
  abbrev First : List (Command J)
  First = take (length xs) (take taken H)

  enough : length xs ≤ length (take taken H)
  enough =
      let whole = ap length cut in
      let split = length-append xs rest in
      let long = length-records K start (take taken H) in
      omega (arith, whole, split, long)

  count_few : length xs ≤ length H
  count_few = let long = length-take-le taken H few in omega (arith, enough, long, few)

  first_long : length First ≡ length xs
  first_long = length-take-le (length xs) (take taken H) enough

  first_is : First ≡ take (length xs) H
  first_is =
      let parts : First ++ (drop (length xs) (take taken H) ++ drop taken H) ≡ H =
      sym (append_assoc First (drop (length xs) (take taken H)) (drop taken H)) ∙ ap (λ l. l ++ drop taken H) (take-append-drop (length xs) (take taken H)) ∙ take-append-drop taken H in
      sym (take_front First (drop (length xs) (take taken H) ++ drop taken H) H parts) ∙ ap (λ k. take k H) first_long

  first_records : xs ≡ records_of K start First
  first_records =
      let split = ap (records_of K start) (sym (take-append-drop (length xs) (take taken H))) ∙ records_split K L start First (drop (length xs) (take taken H)) in
      let long = length-records K start First ∙ first_long in
      sym (take_front xs rest (records_of K start (take taken H)) cut)
      ∙ ap (take (length xs)) split ∙ take_own (length xs) (records_of K start First) (records_of K (outcome K start First) (drop (length xs) (take taken H))) long

-- what a reader saw last is first commands that the store has
pub seen : {J : Type 0} (K : Kind J) (L : Laws K) (start : Plain J) (notes : List (Note J)) (batches last : List (Batch J)) (s : Plain J) (r : Register J)
    → IsShown K start notes batches s → IsPrefix last batches → r.session.taken ≤ length r.session.accepted
    → records_in notes ≡ records_of K start (take r.session.taken r.session.accepted) → IsSeen K start r s last
seen K L start notes batches last s r shown begins few are =
    let xs = records_of_batches last in
    let more = records_of_batches begins.0 in
    let all : records_of_batches batches ≡ xs ++ more = ap records_of_batches (sym begins.1) ∙ records_append last begins.0 in
    let cut : xs ++ (more ++ shown.rest) ≡ records_of K start (take r.session.taken r.session.accepted) =
    sym (append_assoc xs more shown.rest) ∙ ap (λ l. l ++ shown.rest) (sym all) ∙ shown.begins ∙ are in
    let behind = applied_behind K start s (records_of_batches batches) shown.leads in
    let number = behind.number in
    let long = ap length all ∙ length-append xs more in
    record {
      count = length xs;
      some = count_few K L start r.session.accepted r.session.taken few xs (more ++ shown.rest) cut;
      durable = omega (arith, number, long);
      records = first_records K L start r.session.accepted r.session.taken few xs (more ++ shown.rest) cut
          ∙ ap (records_of K start) (first_is K L start r.session.accepted r.session.taken few xs (more ++ shown.rest) cut);
    }

module _ {J : Type 0} (K : Kind J) (L : Laws K) (start : Plain J) (failures clock : ℕ) (notes : List (Note J)) (gone : Option Cause) (broken : Bool) (s : Plain J) (disk : View)
    (b : Behind K start failures clock notes gone broken s disk) (H : List (Command J)) (taken : ℕ) (valid : IsState start) (all : IsAcceptable K start H)
    (few : taken ≤ length H) (are : records_in notes ≡ records_of K start (take taken H)) where
  abbrev Before : List (Command J)
  Before = take taken H

  before_ok : IsAcceptable K start Before
  before_ok = front_accepted K start [] Before (drop taken H) (subst (AllAccepted K start []) (sym (take-append-drop taken H)) all)

  -- the commands that the store has
  abbrev count : ℕ
  count = length (records_in b.at)

  abbrev front : List (Command J)
  front = take count Before

  cut : records_in b.at ++ records_in b.rest ≡ records_of K start Before
  cut = sym (records_more b.at b.rest) ∙ ap records_in b.begins ∙ are

  front_is : front ≡ take count H
  front_is = first_is K L start H taken few (records_in b.at) (records_in b.rest) cut

  whole : records_in b.at ≡ records_of K start front
  whole = first_records K L start H taken few (records_in b.at) (records_in b.rest) cut

  front_ok : IsAcceptable K start front
  front_ok = front_accepted K start [] front (drop count Before) (subst (AllAccepted K start []) (sym (take-append-drop count Before)) before_ok)

  state_is : s ≡ outcome K start (take count H)
  state_is = same_Some s (outcome K start front) (sym b.state ∙ ap (applied K start) whole ∙ records_outcome K L start front valid front_ok) ∙ ap (outcome K start) front_is

  few_here : count ≤ length H
  few_here = count_few K L start H taken few (records_in b.at) (records_in b.rest) cut

  number_is_so : s.number ≡ start.number + count
  number_is_so =
      let long = length-take-le count H few_here in
      let at = ap (λ (p : Plain J). p.number) state_is ∙ number_is K start (take count H) in
      omega (arith, at, long)

  g : IsGrouped K L start notes Before
  g = grouped K L start notes Before valid before_ok are b.counted

  groups_ok : IsAcceptable K start (joined g.gs)
  groups_ok = subst (IsAcceptable K start) (sym g.all) before_ok

  -- the first groups are first commands
  first_of : (k : ℕ) → take (length (joined (take k g.gs))) H ≡ joined (take k g.gs)
  first_of k =
      let parts : joined (take k g.gs) ++ (joined (drop k g.gs) ++ drop taken H) ≡ H =
      sym (append_assoc (joined (take k g.gs)) (joined (drop k g.gs)) (drop taken H)) ∙ ap (λ l. l ++ drop taken H) (take_joined k g.gs ∙ g.all) ∙ take-append-drop taken H in
      take_front (joined (take k g.gs)) (joined (drop k g.gs) ++ drop taken H) H parts

  first_few : (k : ℕ) → length (joined (take k g.gs)) ≤ length H
  first_few k =
      let whole = ap length (take_joined k g.gs ∙ g.all) in
      let split = length-append (joined (take k g.gs)) (joined (drop k g.gs)) in
      let long = length-take-le taken H few in
      omega (arith, whole, split, long, few)

  -- what is marked is durable since then
  pub acknowledged : IsHonest disk → (n c : ℕ) → Noted (Marked n c) notes → Acknowledged K start H disk n c
  acknowledged honest n c noted =
      let kept = kept_of K start (frames_of K notes) notes n c disk (b.kept honest) noted in
      let leads = subst (λ l. groups.frames_of K start g.gs ≡ l) (sym g.frames) refl in
      let replays = subst (λ (l : List (List ℕ)). IsKept K start l (record { number = n; clock = c }) disk) g.frames kept in
      let there : replays.state ≡ outcome K start (joined (take replays.count g.gs)) = first_frames_lead K L start g.gs replays.count replays.state valid groups_ok g.small replays.leads in
      let at = ap (λ (p : Plain J). p.number) there ∙ number_is K start (joined (take replays.count g.gs)) in
      let is = replays.number in
      record {
        past = replays.past;
        images = λ image since.
            let v = to_groups K L start g.gs valid groups_ok g.small replays.count image (replays.images image since) in
            let more = joined_longer replays.count v.count g.gs v.at_least in
            record {
              count = length (joined (take v.count g.gs));
              at_most = first_few v.count;
              at_least = omega (arith, at, is, more);
              recovered = v.recovered ∙ ap (λ l. Ok (outcome K start l)) (sym (first_of v.count));
            };
      }

  module _ (r : Register J) (same : r.session.accepted ≡ H) where
    abbrev accepted : List (Command J)
    accepted = r.session.accepted

    pub stored : Noted (Marked (start.number + r.session.marked) r.session.marked_at) notes → (r.session.marked ≡ length accepted) ⊎ (r.failure ≢ None) → HasFailed r.failure notes → IsStored K start failures r s disk
    stored marked settled failed = record {
      durable = count;
      some = subst (λ l. count ≤ length l) (sym same) few_here;
      state = state_is ∙ ap (λ l. outcome K start (take count l)) (sym same);
      mark = (let low = b.low (start.number + r.session.marked) r.session.marked_at marked in omega (arith, low, number_is_so));
      settled = settled;
      device = λ is. b.device (subst (λ o. HasFailed o notes) is failed);
    }

    pub whole_still : HasFailed r.failure notes → StaysWhole r.failure gone broken
    whole_still failed = record {
      memory = λ is. b.memory (subst (λ o. HasFailed o notes) is failed);
      log = λ is. b.log (subst (λ o. HasFailed o notes) is failed);
    }

    pub held : AllBacked notes r.history → IsHonest disk → IsHeld K start clock r disk
    held backed honest = record {
      all = subst (λ l. Acknowledged K start l disk start.number clock) (sym same) (acknowledged honest start.number clock b.began);
      receipts = λ k n c noted.
          let rests = backed_of K start notes r.history k (Receipt n c) backed noted in
          subst (λ l. Acknowledged K start l disk n c) (sym same) (lower K start H disk n rests.0 c rests.1 (acknowledged honest rests.0 c rests.2));
    }

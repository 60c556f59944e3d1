-- The format keeps what is asked of a codec.
use Rattle.std.specs.Prelude.{◌≡◌, ◌≢◌, ℕ, ◌+◌, ◌*◌, ◌<◌, ◌≤◌, ◌^◌, nat_le, if◌then◌else◌, Bool, true, false, List, [], ◌∷◌, length, take, Option, Some, None, IsTrue, refl}
use Rattle.std.proofs.Common.{sym, ◌∙◌, ap, ap₂, arith, subst}
use Rattle.std.proofs.lemmas.Bool.{cond-true, false≢true, le-leb, leb-true}
use Rattle.std.proofs.Math.Nat.{le-max_left}
use Rattle.std.proofs.lemmas.Option.{none-some}
use Rattle.byteorder.specs.Numbers.{little_from-take}
use Rattle.pfx_checkpoint.specs.Found.{number_at}
use Rattle.pfx_checkpoint.specs.Whole.{if_some, read_whole, whole_bytes, whole_len}
use Rattle.pfx_checkpoint.proofs.Wholes.{number_is, only_whole, whole_long, whole_read}
use Rattle.pfx_record_redo.specs.Applying.{after_record, applied, is_right}
use Rattle.pfx_record_redo.proofs.States.{right_parts}
use Rattle.pfx_store_header.specs.Headers.{Header, least_segment, this_version}
use Rattle.pfx_store_header.proofs.Alone.{alone, enough}
use Rattle.pfx_store_header.proofs.Meanings.{head_inside, refused_of_header}
use Rattle.pfx_jobs.specs.Kind.{Kind, Laws as JobLaws}
use Rattle.pfx_machine.specs.Plain.{Plain, IsState}
use Rattle.pfx_machine.specs.Reweighing.{least_for, new_set, reweigh_fault}
use Rattle.pfx_machine.specs.declared.faults.MachineFault.{MachineFault}
use Rattle.pfx_machine.proofs.Reweighs.{accepted_set, workers_of}
use Rattle.pfx_record.specs.Records.{Recorded, submitted, ran, withdrawn, reweighed}
use Rattle.pfx_store_image.specs.Codec.{Laws}
use Rattle.pfx_store_recover.specs.Formats.{Bounds}
use Rattle.pfx_store_header.specs.declared.sizes.TheConstants.{HEADER_MOST}
use Rattle.pfx_store_format.specs.Areas.{read_area, with_room}
use Rattle.pfx_store_format.specs.Format.{format, IsOf}
use Rattle.pfx_store_format.specs.Frames.{state_after}
use Rattle.pfx_store_format.proofs.Batches.{if_some_back, if_some_is, some_same}
use Rattle.pfx_store_format.proofs.Leading.{none_of}
use Rattle.pfx_store_format.proofs.Nexts.{after_of, below, later, number_agrees}

-- what is read of an area's body is a state of its header, and these are its bytes
pub record Read {J : Type 0} (K : Kind J) (h : Header) (bytes : List ℕ) (s : Plain J) : Type 0 where
  pub state : IsState s
  pub of : IsOf h s
  pub spelled : whole_bytes K s ≡ bytes

room_by : {J : Type 0} (segment : ℕ) (t s : Plain J) (b : Bool) → nat_le (least_segment t.ledger.set.workers) segment ≡ b → (if b then Some t else None) ≡ Some s → (t ≡ s) × (least_segment t.ledger.set.workers ≤ segment)
room_by segment t s true test h = (some_same t s h, leb-true _ _ test)
room_by segment t s false test h = absurd (none-some s h)

pub read_of : {J : Type 0} (K : Kind J) (h : Header) (bytes : List ℕ) (s : Plain J) → read_area K h bytes ≡ Some s → Read K h bytes s
unfolding read_area
read_of K h bytes s is =
    let found = if_some_back (read_whole K h.set.real h.segment bytes) (with_room h.segment) s is in
    let t = found.0 in
    let room = room_by h.segment t s (nat_le (least_segment t.ledger.set.workers) h.segment) refl found.2 in
    let only = only_whole K h.set.real h.segment bytes t found.1 in
    subst (Read K h bytes) room.0 (record { state = only.0; of = record { real = only.1; segment = only.2; room = room.1 }; spelled = only.3 })

-- the bytes of a state of the header are read as it
pub area_read : {J : Type 0} (K : Kind J) → JobLaws K → (h : Header) (s : Plain J) → IsState s → IsOf h s → read_area K h (whole_bytes K s) ≡ Some s
unfolding read_area
area_read K L h s state of =
    let read : read_whole K h.set.real h.segment (whole_bytes K s) ≡ Some s =
    ap₂ (λ n segment. read_whole K n segment (whole_bytes K s)) (sym of.real) (sym of.segment) ∙ whole_read K L s state in
    if_some_is _ s (with_room h.segment) read ∙ cond-true _ _ _ (le-leb _ _ of.room)

-- what is read, by the state that stands there with its set

pub area_found : {J : Type 0} (K : Kind J) (h : Header) (bytes : List ℕ) (s : Plain J) → read_whole K h.set.real h.segment bytes ≡ Some s → with_room h.segment s ≡ read_area K h bytes
unfolding read_area
area_found K h bytes s found = sym (if_some_is _ s (with_room h.segment) found)

pub area_none : {J : Type 0} (K : Kind J) (h : Header) (bytes : List ℕ) → read_whole K h.set.real h.segment bytes ≡ None → None ≡ read_area K h bytes
unfolding read_area
area_none K h bytes none = sym (ap (λ o. if_some o (with_room h.segment)) none)

-- bytes of another length are no state's
pub area_long : {J : Type 0} (K : Kind J) → JobLaws K → (h : Header) (bytes : List ℕ) → length bytes ≢ whole_len h.set.real → None ≡ read_area K h bytes
area_long K L h bytes other = sym (none_of (read_area K h bytes) (λ s is.
    let read = read_of K h bytes s is in
    other (ap length (sym read.spelled) ∙ (whole_long K L s read.state ∙ ap whole_len read.of.real))))

pub format_laws : {J : Type 0} (K : Kind J) → JobLaws K → Laws (format K)
format_laws K L = record {
  head_whole = λ h bytes is. head_inside this_version bytes h is;
  head_alone = λ h bytes other is same. alone this_version bytes other h is same;
  head_refused = λ bytes refusal is. refused_of_header this_version bytes refusal is;
  area_number = λ h bytes s is. let read = read_of K h bytes s is in ap (number_at 0) (sym read.spelled) ∙ number_is K L s read.state;
  later = later;
  after = λ s frame t is. number_agrees K L s frame t is;
}

-- the bounds of its numbers, and what its states are of

pub read_below : {J : Type 0} (K : Kind J) (h : Header) (bytes : List ℕ) (s : Plain J) → read_area K h bytes ≡ Some s → s.number < 2 ^ 48
read_below K h bytes s is = (read_of K h bytes s is).state.number

pub read_is_of : {J : Type 0} (K : Kind J) (h : Header) (bytes : List ℕ) (s : Plain J) → read_area K h bytes ≡ Some s → IsOf h s
read_is_of K h bytes s is = (read_of K h bytes s is).of

no_fault : (o : Option MachineFault) → IsTrue (elim o [ Some fault ↦ false | None ↦ true ]) → o ≡ None
no_fault None h = refl
no_fault (Some fault) h = absurd (false≢true h)

-- what is behind a right record of a state that is of the header is of it too: new weights come into force only if the longest batch
-- of their workers has room
right_is_of : {J : Type 0} (K : Kind J) (h : Header) (s : Plain J) (done : Recorded J) → IsTrue (is_right K s done) → IsOf h s → IsOf h (after_record s done)
right_is_of K h s (submitted task job) right of = record { real = of.real; segment = of.segment; room = of.room }
right_is_of K h s (ran row) right of = record { real = of.real; segment = of.segment; room = of.room }
right_is_of K h s (withdrawn task) right of = record { real = of.real; segment = of.segment; room = of.room }
right_is_of K h s (reweighed m weights) right of =
    let new = accepted_set s m weights (no_fault (reweigh_fault s m weights) (right_parts K s (reweighed m weights) right).apt) in
    let long : least_for m s.ledger.set.real ≤ h.segment = subst (λ k. least_for m s.ledger.set.real ≤ k) of.segment new.room in
    let least = le-max_left (least_segment m) (27 + 8 * s.ledger.set.real) in
    record {
      real = new.real ∙ of.real;
      segment = of.segment;
      room = subst (λ k. least_segment k ≤ h.segment) (sym (workers_of m weights (new_set s.ledger.set m weights) new.accepts)) (omega (arith, long, least));
    }

pub applied_is_of : {J : Type 0} (K : Kind J) (h : Header) (s t : Plain J) (records : List (Recorded J)) → IsOf h s → applied K s records ≡ Some t → IsOf h t
applied_is_of K h s t [] of is = subst (IsOf h) (some_same s t is) of
applied_is_of K h s t (done ∷ records) of is = by (is_right K s done) refl (λ right more. applied_is_of K h (after_record s done) t records (right_is_of K h s done right of) more) is
  where
    by : (b : Bool) → is_right K s done ≡ b → (is_right K s done ≡ true → applied K (after_record s done) records ≡ Some t → IsOf h t) → (if b then applied K (after_record s done) records else None) ≡ Some t → IsOf h t
    by true right on more = on right more
    by false right on more = absurd (none-some t more)

pub after_is_of : {J : Type 0} (K : Kind J) (h : Header) (s : Plain J) (frame : List ℕ) (t : Plain J) → IsOf h s → state_after K s frame ≡ Some t → IsOf h t
after_is_of K h s frame t of is =
    let after = after_of K s frame t is in
    applied_is_of K h s t after.batch.records of after.taken

eight_enough : (bytes : List ℕ) → number_at 0 (take 8 bytes) ≡ number_at 0 bytes
eight_enough bytes = little_from-take 0 8 8 bytes (omega arith)

pub format_bounds : {J : Type 0} (K : Kind J) → JobLaws K → Bounds (format K) IsOf HEADER_MOST
format_bounds K L = record {
  front = λ bytes. enough this_version HEADER_MOST bytes (omega arith);
  eight = λ bytes. eight_enough bytes;
  after = below;
  number = read_below K;
  read = read_is_of K;
  applied = after_is_of K;
}

-- Each stage of opening, if the stages within it are answered.
use Rattle.std.proofs.Common.{◌≡◌, ◌≢◌, ℕ, ◌+◌, List, length, refl, sym, ◌∙◌, ap, subst, cond, Bool, true, false, not, nat_lt, ◌==◌, Option, Some, None, Result, Ok, Err, Vec, arith, length-take}
use Rattle.std.specs.declared.alloc.Global.{Global}
use Rattle.pfx_segment.specs.Frames.{size}
use Rattle.pfx_store_image.specs.Codec.{Codec}
use Rattle.pfx_store_image.specs.Layout.{Layout, area_at, segment_at, first_gate, segment_end, is_open, IsOpenAt, file_len, body_at}
use Rattle.pfx_store_image.specs.Recovery.{Found, found_of, on_ok, on_some, walk, replay, area_taken, segment_begun, walk_segment, follows, is_passed, from_one, from_two, from_frames, from_segment, from_state, from_area, from_head, found, recovered}
use Rattle.pfx_store_image.specs.Refusals as means
use Rattle.pfx_store_image.specs.Store.{single, double}
use Rattle.pfx_store_image.proofs.Backs.{opened_at, shut_at}
use Rattle.pfx_store_image.proofs.Runs.{same_true, other_false, not_not}
use Rattle.pfx_store_image.proofs.Stages.{from_one_as, from_two_as}
use Rattle.pfx_store_file.specs.Checkpoints.{in_progress}
use Rattle.pfx_store_file.specs.Holding.{IsGate}
use Rattle.pfx_store_file.specs.Sizes.{HasSizes, total_len}
use Rattle.pfx_store_file.specs.declared.places.Places.{Places}
use Rattle.pfx_store_file.specs.declared.progress.Checkpoint.TheVariants.{Ended, Pending}
use Rattle.pfx_store_file.specs.declared.sizes.Sizes.{Sizes}
use Rattle.pfx_store_recover.specs.Answers.{Gives, IsRefusal, refusal_of}
use Rattle.pfx_store_recover.specs.Choosing.{IsArea, IsSegment, area_state}
use Rattle.pfx_store_recover.specs.Finding.{IsFound}
use Rattle.pfx_store_recover.specs.Walking.{StandIn, AreInUse, Fill, frames_of}
use Rattle.pfx_store_recover.specs.declared.choosing.Choice.{Choice}
use Rattle.pfx_store_recover.specs.declared.faults.OpenFault.{OpenFault}
use Rattle.pfx_store_recover.specs.declared.faults.OpenFault.TheVariants as fault
use Rattle.pfx_store_recover.specs.declared.walked.Walked.{Walked}
use Rattle.pfx_store_recover.proofs.Walking.{fill_size}

-- the file's length by its sizes is that by the layout
pub sized_len : (L : Layout) (sizes : Sizes) (n : ℕ) → HasSizes L sizes → n ≡ total_len sizes → n ≡ file_len L
sized_len L sizes n has is = omega (arith, has.head, has.body, has.segment, is)

module _ {H S : Type 0} (K : Codec H S) (h : H) (bytes : List ℕ) where
  pub gate_is : (is : Bool) (at : ℕ) → is ≡ is_open at bytes → IsGate is at bytes
  gate_is true at same = opened_at K bytes at (sym same)
  gate_is false at same = shut_at K bytes at (sym same)

  passed_same : (open_0 open_1 : Bool) (n_0 n_1 last : ℕ) → open_0 ≡ open_1 → n_0 ≡ n_1 → cond open_1 (nat_lt n_1 (last + 1)) true ≡ cond open_0 (nat_lt n_0 (last + 1)) true
  passed_same open_0 open_1 n_0 n_1 last is n_is = rw is (rw n_is refl)

  follows_same : (open_0 open_1 : Bool) (n_0 n_1 last : ℕ) → open_0 ≡ open_1 → n_0 ≡ n_1 → cond open_1 (n_1 == last + 1) false ≡ cond open_0 (n_0 == last + 1) false
  follows_same open_0 open_1 n_0 n_1 last is n_is = rw is (rw n_is refl)

  pub passed_as : (segment : Choice) (read : Result Bool means.Refusal) (last : ℕ) → IsSegment K h bytes segment read → is_passed K h bytes last (not segment.second) ≡ cond segment.other_open (nat_lt segment.other_number (last + 1)) true
  passed_as segment read last is = passed_same segment.other_open _ segment.other_number _ last is.other is.number

  pub follows_as : (segment : Choice) (read : Result Bool means.Refusal) (last : ℕ) → IsSegment K h bytes segment read → follows K h bytes last (not segment.second) ≡ cond segment.other_open (segment.other_number == last + 1) false
  follows_as segment read last is = follows_same segment.other_open _ segment.other_number _ last is.other is.number

  pub replay_same : (b : Bool) (s : S) (at : ℕ) (frames : List (List ℕ)) → at ≡ segment_at (K.layout h) b → replay K (first_gate (K.layout h) b) s frames ≡ replay K (at + 9) s frames
  replay_same b s at frames place = ap (λ (k : ℕ). replay K (k + 9) s frames) (sym place)

  -- each stage by the first one within it
  pub one_is : (c : Bool) (s : S) (b : Bool) (frames : List (List ℕ)) (last : ℕ) → from_one K h bytes c s b frames last
      ≡ on_ok (replay K (first_gate (K.layout h) b) s frames) (λ t. cond (is_passed K h bytes last (not b)) (Ok (found_of h (single c s b frames) t)) (Err (means.Damaged (segment_at (K.layout h) (not b)) means.Segment)))
  unfolding from_one
  one_is c s b frames last = refl

  pub one_else : (c : Bool) (s : S) (b : Bool) (frames : List (List ℕ)) (last : ℕ) (t : S) → replay K (first_gate (K.layout h) b) s frames ≡ Ok t → is_passed K h bytes last (not b) ≡ false
      → from_one K h bytes c s b frames last ≡ Err (means.Damaged (segment_at (K.layout h) (not b)) means.Segment)
  one_else c s b frames last t run past =
      one_is c s b frames last
      ∙ ap (λ r. on_ok r (λ t. cond (is_passed K h bytes last (not b)) (Ok (found_of h (single c s b frames) t)) (Err (means.Damaged (segment_at (K.layout h) (not b)) means.Segment)))) run
      ∙ ap (λ p. cond p (Ok (found_of h (single c s b frames) t)) (Err (means.Damaged (segment_at (K.layout h) (not b)) means.Segment))) past

  pub two_is : (c : Bool) (s : S) (b : Bool) (before frames : List (List ℕ)) → from_two K h bytes c s b before frames
      ≡ on_ok (replay K (first_gate (K.layout h) b) s before) (λ m. on_ok (replay K (first_gate (K.layout h) (not b)) m frames) (λ t. Ok (found_of h (double c s b before m frames) t)))
  unfolding from_two
  two_is c s b before frames = refl

  pub two_then : (c : Bool) (s : S) (b : Bool) (before frames : List (List ℕ)) (m : S) → replay K (first_gate (K.layout h) b) s before ≡ Ok m → from_two K h bytes c s b before frames
      ≡ on_ok (replay K (first_gate (K.layout h) (not b)) m frames) (λ t. Ok (found_of h (double c s b before m frames) t))
  two_then c s b before frames m run = two_is c s b before frames ∙ ap (λ r. on_ok r (λ i. on_ok (replay K (first_gate (K.layout h) (not b)) i frames) (λ t. Ok (found_of h (double c s b before i frames) t)))) run

  pub frames_on : (c : Bool) (s : S) (b : Bool) (frames : List (List ℕ)) (last : ℕ) → follows K h bytes last (not b) ≡ true → from_frames K h bytes c s b frames last ≡ on_ok (walk_segment K h bytes last (not b)) (λ w. from_two K h bytes c s b frames w.0)
  unfolding from_frames
  frames_on c s b frames last next = ap (λ t. cond t (on_ok (walk_segment K h bytes last (not b)) (λ w. from_two K h bytes c s b frames w.0)) (from_one K h bytes c s b frames last)) next

  pub segment_is : (c : Bool) (s : S) (b : Bool) → from_segment K h bytes c s b ≡ on_ok (walk_segment K h bytes (K.number s) b) (λ w. from_frames K h bytes c s b w.0 w.1)
  unfolding from_segment
  segment_is c s b = refl

  pub state_is : (c : Bool) (s : S) → from_state K h bytes c s ≡ on_ok (segment_begun K h bytes (K.number s + 1)) (λ b. from_segment K h bytes c s b)
  unfolding from_state
  state_is c s = refl

  some_is : {A : Type 0} (r : Option S) (e : means.Refusal) (f : S → Result A means.Refusal) → on_some r e f ≡ on_ok (on_some r e (λ s. Ok s)) f
  some_is (Some s) e f = refl
  some_is None e f = refl

  pub area_is : (c : Bool) → from_area K h bytes c ≡ on_ok (area_state K h bytes c) (λ s. from_state K h bytes c s)
  unfolding from_area
  area_is c = some_is (K.read_state h (body_at (K.layout h) (area_at (K.layout h) c) bytes)) (means.Damaged (area_at (K.layout h) c) means.Checkpoint) (λ s. from_state K h bytes c s)

  pub head_is : length bytes ≡ file_len (K.layout h) → from_head K h bytes ≡ on_ok (area_taken K h bytes) (from_area K h bytes)
  unfolding from_head
  head_is long = rw (same_true _ _ long) refl

  pub head_else : length bytes ≢ file_len (K.layout h) → from_head K h bytes ≡ Err (means.Damaged (length bytes) means.Length)
  unfolding from_head
  head_else other = rw (other_false _ _ other) refl

  pub walk_same : (b : Bool) (last at end : ℕ) → at ≡ segment_at (K.layout h) b → end ≡ segment_end (K.layout h) b → walk_segment K h bytes last b ≡ walk K (1 + file_len (K.layout h)) (at + 9) end last bytes
  walk_same b last at end place same =
      ap (λ (k : ℕ). walk K (1 + file_len (K.layout h)) (k + 9) (segment_end (K.layout h) b) last bytes) (sym place)
      ∙ ap (λ (k : ℕ). walk K (1 + file_len (K.layout h)) (at + 9) k last bytes) (sym same)

  -- the gate behind the frames that were read
  gate_at : (b : Bool) (frames : List (List ℕ)) (walked : Walked) → StandIn (K.layout h) b walked → Fill frames (frames_of walked) → walked.gate ≡ first_gate (K.layout h) b + size frames
  gate_at b frames walked stand fill = omega (arith, stand.gate, fill_size frames (frames_of walked) fill, length-take walked.len walked.bytes.items, walked.inside)

  pub single_found : (area segment : Choice) (taken begun : Result Bool means.Refusal) (s t : S) (walked : Walked) (frames : List (List ℕ)) (places : Places) → IsArea K h bytes area taken → IsSegment K h bytes segment begun → StandIn (K.layout h) segment.second walked
      → Fill frames (frames_of walked) → AreInUse (K.layout h) area.second area.other_open Ended segment.second segment.other_open walked.gate places
      → replay K (first_gate (K.layout h) segment.second) s frames ≡ Ok t → is_passed K h bytes walked.last (not segment.second) ≡ true
      → IsFound K h bytes places t None (from_one K h bytes area.second s segment.second frames walked.last)
  single_found area segment taken begun s t walked frames places in_area in_segment stand fill used run past = record {
    parts = single area.second s segment.second frames;
    found = from_one_as K h bytes area.second s segment.second frames walked.last t run past;
    file = record {
      are = record {
        fits = used.fits;
        area = used.area;
        segment = used.segment;
        turned = ap in_progress used.progress;
        gate = used.gate ∙ gate_at segment.second frames walked stand fill;
        end = used.end;
      };
      area_open = used.area_open ∙ in_area.other;
      segment_open = used.segment_open ∙ in_segment.other;
      checkpoint = used.progress;
    };
    between = refl;
  }

  pub double_found : (area : Choice) (b : Bool) (taken : Result Bool means.Refusal) (s m t : S) (walked : Walked) (before frames : List (List ℕ)) (places : Places) (spelled : Vec ℕ Global) → IsArea K h bytes area taken → IsOpenAt (segment_at (K.layout h) b) bytes
      → StandIn (K.layout h) (not b) walked → Fill frames (frames_of walked) → AreInUse (K.layout h) area.second area.other_open Pending (not b) true walked.gate places
      → replay K (first_gate (K.layout h) b) s before ≡ Ok m → replay K (first_gate (K.layout h) (not b)) m frames ≡ Ok t
      → length spelled.items ≡ (K.layout h).body → K.read_state h spelled.items ≡ Some m
      → IsFound K h bytes places t (Some spelled) (from_two K h bytes area.second s b before frames)
  double_found area b taken s m t walked before frames places spelled in_area gate stand fill used first second long read = record {
    parts = double area.second s b before m frames;
    found = from_two_as K h bytes area.second s b before frames m t first second;
    file = record {
      are = record {
        fits = used.fits;
        area = used.area;
        segment = used.segment;
        turned = ap in_progress used.progress;
        gate = used.gate ∙ gate_at (not b) frames walked stand fill;
        end = used.end;
      };
      area_open = used.area_open ∙ in_area.other;
      segment_open = subst (λ (k : Bool). places.segment_open ≡ is_open (segment_at (K.layout h) k) bytes) (sym (not_not b)) (used.segment_open ∙ sym (same_true _ _ gate));
      checkpoint = used.progress;
    };
    between = (refl, long, read);
  }

module _ {H S : Type 0} (K : Codec H S) (bytes : List ℕ) where
  pub found_is : found K bytes ≡ on_ok (K.read_head bytes) (λ h. from_head K h bytes)
  unfolding found
  found_is = refl

  pub found_with : (h : H) → K.read_head bytes ≡ Ok h → found K bytes ≡ from_head K h bytes
  found_with h is = found_is ∙ ap (λ r. on_ok r (λ i. from_head K i bytes)) is

  -- a refusal of the bytes' parts is one of their state
  pub refused_as : (e : means.Refusal) → found K bytes ≡ Err e → recovered K bytes ≡ Err e
  unfolding recovered
  refused_as e is = ap (λ r. on_ok r (λ f. Ok f.state)) is

  -- a fault of opening refuses the bytes' state, if it refuses what is found in them
  pub refusal_as : {T : Type 0} (P : T → Result (Found H S) means.Refusal → Type 0) (e : OpenFault) → Gives P (found K bytes) (Err e) → IsRefusal e (λ r. recovered K bytes ≡ Err r)
  refusal_as P (fault.Refused e) gives = refused_as (refusal_of e) gives
  refusal_as P fault.Device gives = tt
  refusal_as P fault.NoMemory gives = tt

-- A new store.
use Rattle.std.specs.Prelude.{◌≡◌, ℕ, ◌+◌, ◌*◌, ◌-◌, ◌<◌, ◌^◌, List, [], length, take, nat_le, ◌&&◌, slice_index, false, Ok, Err, refl}
use Rattle.std.specs.Str.{bytes_eq}
use Rattle.byteorder.specs.Endian.{little_number}
use Rattle.std.proofs.Common.{sym, ◌∙◌, ap, append-nil, arith, inl, inr, subst}
use Rattle.std.proofs.Math.Nat.{max-eq_right}
use Rattle.std.proofs.lemmas.Bool.{leb-true, false_from_ne_true, true≢false}
use Rattle.pfx_checkpoint.specs.Whole.{whole_bytes, whole_len}
use Rattle.pfx_store_create.specs.Attempts.{IsMadeOf, IsNoneOrMade, RefusesUnmade}
use Rattle.pfx_disk.specs.Disk.{View, IsHonest, Leaves, Same}
use Rattle.pfx_disk.specs.declared.gates.TheConstants.{GATE_OPEN}
use Rattle.pfx_store_format.specs.Format.{format, layout, IsOf}
use Rattle.pfx_store_format.proofs.Keeping.{format_laws}
use Rattle.pfx_store_header.specs.Headers.{Header, IsHeader, front_bytes, header_bytes, header_len, is_store, mark, read_header, this_version}
use Rattle.pfx_store_header.proofs.Meanings.{accepted_filled, closed_no_store}
use Rattle.pfx_store_header.proofs.Stages.{no_store}
use Rattle.pfx_store_header.proofs.Written.{header_long, written_read}
use Rattle.pfx_jobs.specs.Kind.{Kind, Laws}
use Rattle.pfx_machine.specs.Plain.{Plain, IsState}
use Rattle.pfx_store_image.specs.Layout.{file_len}
use Rattle.pfx_store_image.specs.NewFile.{new_parts}
use Rattle.pfx_store_image.specs.Recovery.{found, from_head, on_ok, recovered}
use Rattle.pfx_store_image.specs.Refusals.{NotAStore}
use Rattle.pfx_store_file.specs.Holding.{Holds}
use Rattle.pfx_store_file.specs.Tending.{pieces}
use Rattle.pfx_store_file.specs.declared.places.Places.{Places}
use Rattle.pfx_store.specs.Making.{IsBeforeAnyCall, IsSizeFault, header_of, making_calls}
use Rattle.pfx_store.specs.Standing.{Stands}
use Rattle.pfx_store.specs.Working.{IsUnmade}
use Rattle.pfx_store.specs.declared.making.InitFault.{InitFault}
use Rattle.pfx_store.proofs.Areas.{spelled_read, spelled_long}

-- a segment of a header has the room that a layout asks for
pub segment_same : (h : Header) → IsHeader h → (layout h).segment ≡ h.segment
segment_same h is = max-eq_right {n = 10} {m = h.segment} (let least = is.segment.0 in omega (arith, least))

-- a state is of its header
pub begun_is_of : {J : Type 0} (s : Plain J) → IsHeader (header_of s) → IsOf (header_of s) s
begun_is_of s is = record { real = refl; segment = refl; room = is.segment.0 }

-- these are the parts of a new file at a state, with its header
pub made_of : {J : Type 0} (K : Kind J) (L : Laws K) (s : Plain J) (head body first : List ℕ) (segment : ℕ) → IsHeader (header_of s) → IsState s → head ≡ header_bytes this_version (header_of s) → body ≡ whole_bytes K s
    → length first ≡ 8 → little_number 8 first ≡ s.number + 1 → segment ≡ s.segment → IsMadeOf (format K) (header_of s) s head body first segment
made_of K L s head body first segment is state head_is body_is long next same = record {
  laws = format_laws K L;
  parts = record {
    header = ap (read_header this_version) (head_is ∙ sym (append-nil (header_bytes this_version (header_of s)))) ∙ written_read this_version (header_of s) [] is;
    head_long = ap length head_is ∙ header_long this_version (header_of s) is;
    state = spelled_read K L (header_of s) s body state (begun_is_of s is) body_is;
    body_long = ap length body_is ∙ spelled_long K L s state;
    next = next;
    first_long = long;
  };
  of_segment = same ∙ sym (segment_same (header_of s) is);
}

-- what is no store's file yet is refused as none
not_le : (a b : ℕ) → b < a → nat_le a b ≡ false
not_le a b l = false_from_ne_true (nat_le a b) (λ is. omega (arith, l, leb-true a b is))

short_is : (image : List ℕ) → length image < 17 → is_store image ≡ false
short_is image l = ap (λ b. b && bytes_eq (take 9 image) mark) (not_le 17 (length image) l)

pub unmade_refused : {J : Type 0} (K : Kind J) → RefusesUnmade (format K)
unmade_refused K image (inl short) = no_store this_version image (is_store image) refl (short_is image (omega (arith, short)))
unmade_refused K image (inr closed) = closed_no_store this_version image closed

none_recovered : {J : Type 0} (K : Kind J) (image : List ℕ) → read_header this_version image ≡ Err NotAStore → recovered (format K) image ≡ Err NotAStore
unfolding recovered found
none_recovered K image is = ap (λ r. on_ok (on_ok r (λ h. from_head (format K) h image)) (λ f. Ok f.state)) is

-- if nothing was done, nothing came to be
pub still_none : {J : Type 0} (K : Kind J) (s : Plain J) (a : View) → IsNoneOrMade (format K) s a a
still_none K s a c le before image is = inl (none_recovered K image (unmade_refused K image (inl (omega (arith, ap length (before image is))))))

-- a new store stands
pub new_stands : {J : Type 0} (K : Kind J) (h : Header) (places : Places) (s : Plain J) (spelled : List ℕ) (disk : View) → ((code : List ℕ) → Holds (format K) h places (new_parts s) s code disk) → IsOf h s → Stands K places s spelled disk
new_stands K h places s spelled disk holds set = record {
  header = h;
  parts = new_parts s;
  holds = holds spelled;
  of = set;
  middle = λ turned. absurd (true≢false (sym turned));
}

-- the header's first gate is open, and the file isn't too long

pub gate_of : (h : Header) → slice_index (header_bytes this_version h) 0 ≡ GATE_OPEN
unfolding header_bytes front_bytes
gate_of h = refl

pub file_short : (h : Header) (head body segment : ℕ) → IsHeader h → head ≡ header_len h.set → body ≡ whole_len h.set.real → segment ≡ h.segment → head + 2 * (1 + body) + 2 * segment < 2 ^ 62
file_short h head body segment is head_is body_is segment_is =
    let real = (accepted_filled _ _ _ is.accepted).real.1 in
    let most = is.segment.1 in
    omega (arith, head_is, body_is, segment_is, real, most)

-- how many calls the making of a file with parts of these lengths takes
pub made_calls : (h : Header) (head body segment : ℕ) → IsHeader h → head ≡ header_len h.set → body ≡ whole_len h.set.real → segment ≡ h.segment → 6 + pieces (head + 2 * (1 + body) + 2 * segment - 1) ≡ making_calls h.set h.segment
made_calls h head body segment is head_is body_is segment_is =
    let long : head + 2 * (1 + body) + 2 * segment ≡ file_len (layout h) = (let same = segment_same h is in omega (arith, head_is, body_is, segment_is, same)) in
    ap (λ (n : ℕ). 6 + pieces (n - 1)) long

-- and told of its parts as they lie
pub told_made : (old now m k : ℕ) → m ≡ k → now ≡ old + (6 + pieces (m - 1)) → now ≡ old + 6 + pieces (k - 1)
told_made old now m k same is = is ∙ (ap (λ (x : ℕ). old + (6 + pieces (x - 1))) same ∙ joined old (pieces (k - 1)))
  where
    joined : (a b : ℕ) → a + (6 + b) ≡ a + 6 + b
    joined a b = omega arith

-- a fault that comes before the disk is asked anything
pub refused_first : {D : Type 0} (view : D → View) (m segment : ℕ) (disk : D) (e : InitFault) → IsSizeFault m segment e → IsBeforeAnyCall e → IsUnmade view m segment disk (e, disk)
refused_first view m segment disk e size before = record {
  size = size;
  device = λ is. absurd (subst IsBeforeAnyCall is before);
  not_empty = λ honest is. absurd (subst IsBeforeAnyCall is before);
  one_call = λ is. absurd (subst IsBeforeAnyCall is before);
  unasked = λ b. refl;
}

-- a disk that nothing is done with
pub left_alone : (disk : View) → IsHonest disk → Leaves Same disk disk
left_alone disk honest = record {
  honest = honest;
  contents = refl;
  now = λ image here. (image, here, refl);
  since = λ c image le here. inl here;
  keeps = λ c image le here. here;
}

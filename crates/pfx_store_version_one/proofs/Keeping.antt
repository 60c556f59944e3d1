-- The format keeps what is asked of a codec.
use Rattle.std.specs.Prelude.{◌≡◌, ◌≢◌, ℕ, ◌<◌, ◌^◌, ◌&&◌, if◌then◌else◌, Bool, true, false, List, length, Some, None, refl}
use Rattle.std.specs.Str.{bytes_eq}
use Rattle.std.proofs.Common.{sym, ◌∙◌, ap, arith, subst}
use Rattle.std.proofs.lemmas.Option.{none-some}
use Rattle.byteorder.specs.Numbers.{little_from-take}
use Rattle.pfx_checkpoint.specs.Found.{plain_at, read_state}
use Rattle.pfx_checkpoint.specs.Spelling.{state_bytes, state_len}
use Rattle.pfx_checkpoint.proofs.Readings.{frozen_read, only_states}
use Rattle.pfx_checkpoint.proofs.Wholes.{alone_long}
use Rattle.pfx_store_format.proofs.Batches.{some_same}
use Rattle.pfx_store_format.proofs.Leading.{none_of}
use Rattle.pfx_store_format.proofs.Nexts.{below, later, number_agrees}
use Rattle.pfx_store_header.specs.Headers.{Header}
use Rattle.pfx_store_header.specs.declared.sizes.TheConstants.{HEADER_MOST}
use Rattle.pfx_store_header.proofs.Alone.{alone, enough}
use Rattle.pfx_store_header.proofs.Meanings.{head_inside, refused_of_header}
use Rattle.pfx_jobs.specs.Kind.{Kind, Laws as JobLaws}
use Rattle.pfx_machine.specs.Fitting.{fits}
use Rattle.pfx_machine.specs.Plain.{Plain, IsState}
use Rattle.pfx_machine.proofs.Fits.{fitting}
use Rattle.pfx_record.proofs.Rising.{both}
use Rattle.pfx_store_recover.specs.Formats.{Bounds}
use Rattle.pfx_store_image.specs.Codec.{Laws}
use Rattle.pfx_weights.specs.Sets.{FilledSet, IsFilled, IsOfItsTasks}
use Rattle.pfx_store_version_one.specs.Format.{IsOf, format_1, old_version}
use Rattle.pfx_store_version_one.proofs.Leading.{after_of, leads_still}

-- what is read of an area's body is what stands at its places, and it fits
record Found {J : Type 0} (K : Kind J) (h : Header) (bytes : List ℕ) (s : Plain J) : Type 0 where
  pub is : plain_at K 0 h.segment h.set bytes ≡ s
  pub fits : fits s ≡ true

found_by : {J : Type 0} (K : Kind J) (h : Header) (bytes : List ℕ) (s : Plain J) (same b : Bool) → (fits (plain_at K 0 h.segment h.set bytes) && same) ≡ b → (if b then Some (plain_at K 0 h.segment h.set bytes) else None) ≡ Some s → Found K h bytes s
found_by K h bytes s same true test read =
    let is = some_same _ s read in
    record { is = is; fits = subst (λ (t : Plain _). fits t ≡ true) is (both _ same test).0 }
found_by K h bytes s same false test read = absurd (none-some s read)

found_of : {J : Type 0} (K : Kind J) (h : Header) (bytes : List ℕ) (s : Plain J) → read_state K 0 h.segment h.set bytes ≡ Some s → Found K h bytes s
unfolding read_state
found_of K h bytes s read = found_by K h bytes s (bytes_eq bytes (state_bytes K (plain_at K 0 h.segment h.set bytes))) _ refl read

-- bytes of another length are no state's
pub area_long : {J : Type 0} (K : Kind J) → JobLaws K → (segment : ℕ) (set : FilledSet) (bytes : List ℕ) → IsOfItsTasks set → IsFilled set → length bytes ≢ state_len set → None ≡ read_state K 0 segment set bytes
area_long K L segment set bytes of filled other = sym (none_of (read_state K 0 segment set bytes) (λ s read.
    let only = only_states K 0 segment set bytes s of filled read in
    other (ap length (sym only.2) ∙ (alone_long K L s only.0 ∙ ap state_len only.1))))

-- a state of the header is read from its bytes
pub spelled_read : {J : Type 0} (K : Kind J) → JobLaws K → (h : Header) (s : Plain J) (bytes : List ℕ) → IsState s → IsOf h s → bytes ≡ state_bytes K s → read_state K 0 h.segment h.set bytes ≡ Some s
spelled_read K L h s bytes state of is =
    subst (λ (set : FilledSet). read_state K 0 h.segment set bytes ≡ Some s) of.set
    (subst (λ (segment : ℕ). read_state K 0 segment s.ledger.set bytes ≡ Some s) of.segment
    (subst (λ (from : ℕ). read_state K from s.segment s.ledger.set bytes ≡ Some s) of.from
    (ap (read_state K s.from s.segment s.ledger.set) is ∙ frozen_read K L s state)))

pub format_laws : {J : Type 0} (K : Kind J) → JobLaws K → Laws (format_1 K)
format_laws K L = record {
  head_whole = λ h bytes is. head_inside old_version bytes h is;
  head_alone = λ h bytes other is same. alone old_version bytes other h is same;
  head_refused = λ bytes refusal is. refused_of_header old_version bytes refusal is;
  area_number = λ h bytes s is. ap (λ (t : Plain _). t.number) (found_of K h bytes s is).is;
  later = later;
  after = λ s frame t is. number_agrees K L s frame t (leads_still K L s frame t is);
}

read_below : {J : Type 0} (K : Kind J) (h : Header) (bytes : List ℕ) (s : Plain J) → read_state K 0 h.segment h.set bytes ≡ Some s → s.number < 2 ^ 48
read_below K h bytes s is = (fitting s (found_of K h bytes s is).fits).number

read_is_of : {J : Type 0} (K : Kind J) (h : Header) (bytes : List ℕ) (s : Plain J) → read_state K 0 h.segment h.set bytes ≡ Some s → IsOf h s
read_is_of K h bytes s is = subst (IsOf h) (found_of K h bytes s is).is (record { set = refl; from = refl; segment = refl })

pub format_bounds : {J : Type 0} (K : Kind J) → JobLaws K → Bounds (format_1 K) IsOf HEADER_MOST
format_bounds K L = record {
  front = λ bytes. enough old_version HEADER_MOST bytes (omega arith);
  eight = λ bytes. little_from-take 0 8 8 bytes (omega arith);
  after = below;
  number = read_below K;
  read = read_is_of K;
  applied = after_of K L;
}

-- The kind Own: what another program answered of units that it does itself. It takes no steps.
use Rattle.std.specs.Prelude.{◌≡◌, ℕ, ◌+◌, ◌<◌, Bool, true, false, List, take, unwrap_or, IsTrue, None, refl}
use Rattle.std.specs.Str.{bytes_eq}
use Rattle.std.proofs.Common.{arith, ap, sym}
use Rattle.std.proofs.Math.Bool.{Bool-set}
use Rattle.pfx_jobs.specs.Kind.{Kind, Laws}
use Rattle.pfx_jobs.specs.Coding.{Coding, checked, kind_by}
use Rattle.pfx_jobs.proofs.Codings.{laws_by}
use Rattle.pfx_kinds.specs.Owns.{OwnFields, own_fits, own_bytes, own_found}
use Rattle.pfx_kinds.specs.OwnBytes.{own_parts, own_found-own_bytes, length-own_bytes}
use Rattle.pfx_kinds.specs.declared.own.Own.{Own}

abbrev pub answer_of : Own → List ℕ
answer_of s = take s.text_length s.text

abbrev pub own_coding : Coding OwnFields Own
own_coding = record {
  fits = λ f. own_fits f.answered f.since f.text_length f.text;
  fields = λ s. record { answered = s.answered; since = s.since; text_length = s.text_length; text = s.text };
  made = λ f fits. record { answered = f.answered; since = f.since; text_length = f.text_length; text = f.text; fits = fits };
  spelled = own_bytes;
  found = own_found;
}

abbrev pub own_kind : Kind Own
own_kind = kind_by own_coding (λ s. 0) (λ s. s)

made_again : (s : Own) (fits : IsTrue (own_coding.fits (own_coding.fields s))) → own_coding.made (own_coding.fields s) fits ≡ s
made_again s fits = ap (λ h. own_coding.made (own_coding.fields s) h) (Bool-set _ _ fits s.fits)

counts_down : (s : Own) → 0 < 0 → 0 + 1 ≡ 0
counts_down s h = absurd (omega arith)

pub own_laws : Laws own_kind
own_laws = laws_by own_coding (record {
  fields_fit = λ s. s.fits;
  made_again = made_again;
  made_of = λ f fits. refl;
  found_again = λ s. own_found-own_bytes (own_coding.fields s) s.fits;
  long = λ s. length-own_bytes (own_coding.fields s) ((own_parts s.answered s.since s.text_length s.text s.fits).long);
}) (λ s. 0) (λ s. s) counts_down

-- the same answer, its unit counted in the weights that are in force from another slot on; a slot that is none, from 2^40 on, leaves it
abbrev pub fields_from : ℕ → OwnFields → OwnFields
fields_from since f = record { answered = f.answered; since = since; text_length = f.text_length; text = f.text }

abbrev pub own_from : ℕ → Own → Own
own_from since s = unwrap_or (own_kind.decoded (own_bytes (fields_from since (own_coding.fields s)))) s

pub own_from-is : (since : ℕ) (s : Own) (fits : IsTrue (own_fits s.answered since s.text_length s.text)) → own_coding.made (fields_from since (own_coding.fields s)) fits ≡ own_from since s
own_from-is since s fits = sym (ap (λ o. unwrap_or o s) (own_laws.round_trip (own_coding.made (fields_from since (own_coding.fields s)) fits)))

-- bytes that are the encoding of no answer
unfit_none : (f : OwnFields) (fit : Bool) (e : own_coding.fits f ≡ fit) (same : Bool) → fit ≡ false → checked own_coding f fit e same ≡ None
unfit_none f true e same h = absurd cc
unfit_none f false e same h = refl

other_none : (f : OwnFields) (fit : Bool) (e : own_coding.fits f ≡ fit) (same : Bool) → same ≡ false → checked own_coding f fit e same ≡ None
other_none f true e true h = absurd cc
other_none f true e false h = refl
other_none f false e same h = refl

pub own_unfit : (bytes : List ℕ) → own_coding.fits (own_found bytes) ≡ false → own_kind.decoded bytes ≡ None
own_unfit bytes h = unfit_none (own_found bytes) (own_coding.fits (own_found bytes)) refl (bytes_eq bytes (own_bytes (own_found bytes))) h

pub own_other : (bytes : List ℕ) → bytes_eq bytes (own_bytes (own_found bytes)) ≡ false → own_kind.decoded bytes ≡ None
own_other bytes h = other_none (own_found bytes) (own_coding.fits (own_found bytes)) refl (bytes_eq bytes (own_bytes (own_found bytes))) h

-- Fields that are text.
use Rattle.std.proofs.Common.{◌≡◌, ◌==◌, ℕ, List, [], ◌∷◌, length, true, None, refl, inl, inr}
use Rattle.std.proofs.lemmas.Bool.{and_parts, cases_Bool}
use Rattle.std.proofs.lemmas.Str.{IsUtf8-from_is_utf8, is_utf8-from_IsUtf8}
use Rattle.std.specs.List.{list_all}
use Rattle.std.specs.Str.{is_utf8}
use Rattle.csv.specs.Records.{AllText}
use Rattle.pfx_program_script.specs.Verbs.{verb_of}

pub is_utf8-AllText : (fields : List (List ℕ)) → AllText fields → list_all is_utf8 fields ≡ true
unfolding AllText
is_utf8-AllText [] text = refl
is_utf8-AllText (f ∷ fs) text = rw (is_utf8-from_IsUtf8 f text.0, is_utf8-AllText fs text.1) refl

AllText-is_utf8 : (fields : List (List ℕ)) → list_all is_utf8 fields ≡ true → AllText fields
unfolding AllText
AllText-is_utf8 [] text = tt
AllText-is_utf8 (f ∷ fs) text =
    let (here, more) = and_parts (is_utf8 f) (list_all is_utf8 fs) text in
    (IsUtf8-from_is_utf8 f here, AllText-is_utf8 fs more)

-- a record that is no text has no form
pub verb_of-no_text : (fields : List (List ℕ)) → ¬ (AllText fields) → verb_of fields ≡ None
unfolding verb_of
verb_of-no_text fields other =
    elim (cases_Bool (list_all is_utf8 fields)) [
      | inl text ↦ absurd (other (AllText-is_utf8 fields text))
      | inr no_text ↦ elim (cases_Bool (length fields == 5)) [
        | inl five ↦ rw (five, no_text) refl
        | inr few ↦ rw few refl
      ]
    ]

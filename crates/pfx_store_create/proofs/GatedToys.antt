-- The codec of small files with a gate meets what new files rest on.
use Rattle.std.proofs.Common.{◌≡◌, inl, inr, ℕ, ◌≤◌, List, [], ◌∷◌, length, take, refl, sym, ◌∙◌, ap, subst, arith, cond, ◌==◌, Bool, true, false, Ok, Err}
use Rattle.pfx_disk.specs.declared.gates.TheConstants.{GATE_OPEN}
use Rattle.pfx_store_image.specs.Codec.{Laws}
use Rattle.pfx_store_image.specs.Refusals.{Refusal, NotAStore, IsOfHeader}
use Rattle.pfx_store_image.specs.ToyCodec.{toy}
use Rattle.pfx_store_image.proofs.Answers.{okay, faulty, not_err, not_ok, err_same}
use Rattle.pfx_store_image.proofs.Runs.{other_false}
use Rattle.pfx_store_create.specs.Attempts.{RefusesUnmade, IsMadeOf}
use Rattle.pfx_store_create.specs.Creating.{IsUnmade}
use Rattle.pfx_store_create.specs.GatedToy.{gated_head, gated_toy}

head_whole : (h : ℕ) (bytes : List ℕ) → gated_head bytes ≡ Ok h → 2 ≤ length bytes
head_whole h [] is = not_err NotAStore h is
head_whole h (gate ∷ []) is = not_err NotAStore h is
head_whole h (gate ∷ room ∷ bytes) is = omega arith

front : (bytes : List ℕ) → gated_head (take 2 bytes) ≡ gated_head bytes
front [] = refl
front (gate ∷ []) = refl
front (gate ∷ room ∷ bytes) = refl

head_refused : (bytes : List ℕ) (refusal : Refusal) → gated_head bytes ≡ Err refusal → IsOfHeader refusal
head_refused [] refusal is = subst IsOfHeader (err_same {A = ℕ} NotAStore refusal is) tt
head_refused (gate ∷ []) refusal is = subst IsOfHeader (err_same {A = ℕ} NotAStore refusal is) tt
head_refused (gate ∷ room ∷ bytes) refusal is = by (gate == GATE_OPEN) is
  where
    by : (opened : Bool) → cond opened (okay room) (faulty NotAStore) ≡ Err refusal → IsOfHeader refusal
    by true is = not_ok room refusal is
    by false is = subst IsOfHeader (err_same {A = ℕ} NotAStore refusal is) tt

gated_meets : Laws toy → Laws gated_toy
gated_meets laws = record {
  head_whole = λ h bytes is. head_whole h bytes is;
  head_alone = λ h bytes other is same. sym (front other) ∙ ap gated_head same ∙ front bytes ∙ is;
  head_refused = λ bytes refusal is. head_refused bytes refusal is;
  area_number = λ h body s is. laws.area_number h body s is;
  later = λ n frame m is. laws.later n frame m is;
  after = λ s frame t is. laws.after s frame t is;
}

refuses : (image : List ℕ) → IsUnmade image → gated_head image ≡ Err NotAStore
refuses [] unmade = refl
refuses (gate ∷ []) unmade = refl
refuses (gate ∷ room ∷ bytes) (inl short) = absurd (omega (arith, short))
refuses (gate ∷ room ∷ bytes) (inr shut) = ap (λ b. cond b (okay room) (faulty NotAStore)) (other_false gate GATE_OPEN shut)

pub refuses_unmade : RefusesUnmade gated_toy
refuses_unmade = refuses

pub is_made : Laws toy → IsMadeOf gated_toy 32 (0 ∷ 0 ∷ []) (GATE_OPEN ∷ 32 ∷ []) (0 ∷ 0 ∷ []) (1 ∷ 0 ∷ 0 ∷ 0 ∷ 0 ∷ 0 ∷ 0 ∷ 0 ∷ []) 42
is_made laws = record {
  laws = gated_meets laws;
  parts = record { header = refl; head_long = refl; state = refl; body_long = refl; next = refl; first_long = refl };
  of_segment = refl;
}

-- The codec of small files meets the laws.
use Rattle.std.proofs.Common.{◌≡◌, ℕ, ◌+◌, ◌≤◌, List, [], ◌∷◌, length, get_or, take, refl, sym, ◌∙◌, ap, subst, arith, cond, nat_lt, ◌==◌, Bool, true, false, Some, None, Ok, Err}
use Rattle.std.proofs.lemmas.Bool.{eqb-true}
use Rattle.pfx_store_image.specs.Codec.{Laws}
use Rattle.pfx_store_image.specs.Refusals.{Refusal, NotAStore, WrongVersion, IsOfHeader}
use Rattle.pfx_store_image.specs.ToyCodec.{toy, toy_head, toy_state, toy_after, toy_apply}
use Rattle.pfx_store_image.proofs.Answers.{okay, faulty, some, not_err, not_ok, not_none, err_same, some_same, if_some}
use Rattle.pfx_store_image.proofs.Runs.{same_true}

head_whole : (h : ℕ) (bytes : List ℕ) → toy_head bytes ≡ Ok h → 2 ≤ length bytes
head_whole h [] is = not_err NotAStore h is
head_whole h (version ∷ []) is = not_err NotAStore h is
head_whole h (version ∷ room ∷ bytes) is = omega arith

pub front : (bytes : List ℕ) → toy_head (take 2 bytes) ≡ toy_head bytes
front [] = refl
front (version ∷ []) = refl
front (version ∷ room ∷ bytes) = refl

head_refused : (bytes : List ℕ) (refusal : Refusal) → toy_head bytes ≡ Err refusal → IsOfHeader refusal
head_refused [] refusal is = subst IsOfHeader (err_same {A = ℕ} NotAStore refusal is) tt
head_refused (version ∷ []) refusal is = subst IsOfHeader (err_same {A = ℕ} NotAStore refusal is) tt
head_refused (version ∷ room ∷ bytes) refusal is = by (version == 1) is
  where
    by : (one : Bool) → cond one (okay room) (faulty (WrongVersion version)) ≡ Err refusal → IsOfHeader refusal
    by true is = not_ok room refusal is
    by false is = subst IsOfHeader (err_same {A = ℕ} (WrongVersion version) refusal is) tt

area_number : (h : ℕ) (body s : List ℕ) → toy_state h body ≡ Some s → get_or body 0 0 ≡ get_or s 0 0
area_number h body s is =
    let e = if_some (nat_lt (get_or body 1 0) 100) (some (get_or body 0 0 ∷ get_or body 1 0 ∷ [])) s is in
    ap (λ (l : List ℕ). get_or l 0 0) (some_same (get_or body 0 0 ∷ get_or body 1 0 ∷ []) s e.1)

after_is : (n : ℕ) (frame : List ℕ) (m : ℕ) → toy_after n frame ≡ Some m → (get_or frame 5 0 ≡ n + 1) × (n + 1 ≡ m)
after_is n frame m is =
    let e = if_some (get_or frame 5 0 == n + 1) (some (n + 1)) m is in
    (eqb-true (get_or frame 5 0) (n + 1) e.0, some_same (n + 1) m e.1)

applied : (s frame t : List ℕ) → toy_apply s frame ≡ Some t → (get_or frame 5 0 ≡ get_or s 0 0 + 1) × (get_or s 0 0 + 1 ≡ get_or t 0 0)
applied s frame t is =
    let e = if_some (get_or frame 5 0 == get_or s 0 0 + 1) (cond (get_or frame 15 0 == 0) None (some ((get_or s 0 0 + 1) ∷ (get_or s 1 0 + get_or frame 15 0) ∷ []))) t is in
    (eqb-true (get_or frame 5 0) (get_or s 0 0 + 1) e.0, by (get_or frame 15 0 == 0) e.1)
  where
    by : (nothing : Bool) → cond nothing None (some ((get_or s 0 0 + 1) ∷ (get_or s 1 0 + get_or frame 15 0) ∷ [])) ≡ Some t → get_or s 0 0 + 1 ≡ get_or t 0 0
    by true is = not_none t is
    by false is = ap (λ (l : List ℕ). get_or l 0 0) (some_same ((get_or s 0 0 + 1) ∷ (get_or s 1 0 + get_or frame 15 0) ∷ []) t is)

pub toy_meets : Laws toy
toy_meets = record {
  head_whole = λ h bytes is. head_whole h bytes is;
  head_alone = λ h bytes other is same. sym (front other) ∙ ap toy_head same ∙ front bytes ∙ is;
  head_refused = λ bytes refusal is. head_refused bytes refusal is;
  area_number = λ h body s is. area_number h body s is;
  later = λ n frame m is. omega (arith, (after_is n frame m is).1);
  after = λ s frame t is. let e = applied s frame t is in rw (same_true (get_or frame 5 0) (get_or s 0 0 + 1) e.0) (ap some e.1);
}

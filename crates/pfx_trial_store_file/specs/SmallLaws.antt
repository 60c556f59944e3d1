-- The codec of small files meets the laws. Its headers are those of pfx_store_image's toy, and so are their laws.
use Rattle.std.proofs.Common.{◌≡◌, ℕ, ◌+◌, ◌<◌, ◌≤◌, List, [], ◌∷◌, length, get_or, take, refl, sym, ◌∙◌, ap, subst, arith, cond, nat_lt}
use Rattle.std.proofs.Common.{◌==◌, Bool, true}
use Rattle.std.proofs.Common.{false, Some, None, Ok, Err}
use Rattle.std.proofs.lemmas.Bool.{eqb-true, ltb-true, lt-ltb}
use Rattle.pfx_store_image.specs.Codec.{Laws}
use Rattle.pfx_store_image.proofs.Answers.{some, not_none, some_same, if_some}
use Rattle.pfx_store_image.proofs.Runs.{same_true}
use Rattle.pfx_store_image.proofs.ToyLaws.{front, toy_meets}
use Rattle.pfx_store_recover.specs.Formats.{Bounds}
use Rattle.pfx_trial_store_file.specs.SmallCodec.{small_codec, small, small_after, small_apply, is_small}

-- a small state is this one
small_is : (number sum : ℕ) (s : ℕ × ℕ) → small number sum ≡ Some s → ((number, sum) ≡ s) × (number < 200) × (sum < 100)
small_is number sum s is =
    let e = if_some (nat_lt number 200) (cond (nat_lt sum 100) (some (number, sum)) None) s is in
    let f = if_some (nat_lt sum 100) (some (number, sum)) s e.1 in
    (some_same (number, sum) s f.1, ltb-true number 200 e.0, ltb-true sum 100 f.0)

number_of : (number sum : ℕ) (s : ℕ × ℕ) → small number sum ≡ Some s → number ≡ s.0
number_of number sum s is = ap (λ (r : ℕ × ℕ). r.0) (small_is number sum s is).0

fits_of : (room number sum : ℕ) (s : ℕ × ℕ) → small number sum ≡ Some s → is_small room s
fits_of room number sum s is = let e = small_is number sum s is in subst (λ (r : ℕ × ℕ). is_small room r) e.0 (e.1, e.2)

after_is : (n : ℕ) (frame : List ℕ) (m : ℕ) → small_after n frame ≡ Some m → (get_or frame 5 0 ≡ n + 1) × (n + 1 ≡ m) × (n + 1 < 200)
after_is n frame m is =
    let e = if_some (get_or frame 5 0 == n + 1) (cond (nat_lt (n + 1) 200) (some (n + 1)) None) m is in
    let f = if_some (nat_lt (n + 1) 200) (some (n + 1)) m e.1 in
    (eqb-true (get_or frame 5 0) (n + 1) e.0, some_same (n + 1) m f.1, ltb-true (n + 1) 200 f.0)

applied : (s : ℕ × ℕ) (frame : List ℕ) (t : ℕ × ℕ) → small_apply s frame ≡ Some t
    → (get_or frame 5 0 ≡ s.0 + 1) × (small (s.0 + 1) (s.1 + get_or frame 15 0) ≡ Some t)
applied s frame t is =
    let e = if_some (get_or frame 5 0 == s.0 + 1) (cond (get_or frame 15 0 == 0) None (small (s.0 + 1) (s.1 + get_or frame 15 0))) t is in
    (eqb-true (get_or frame 5 0) (s.0 + 1) e.0, by (get_or frame 15 0 == 0) e.1)
  where
    by : (nothing : Bool) → cond nothing None (small (s.0 + 1) (s.1 + get_or frame 15 0)) ≡ Some t
        → small (s.0 + 1) (s.1 + get_or frame 15 0) ≡ Some t
    by true is = not_none t is
    by false is = is

after_next : (n : ℕ) (frame : List ℕ) (m : ℕ) → get_or frame 5 0 ≡ n + 1 → n + 1 < 200 → n + 1 ≡ m → small_after n frame ≡ Some m
after_next n frame m is below same = rw (same_true (get_or frame 5 0) (n + 1) is) (rw (lt-ltb (n + 1) 200 below) (ap some same))

-- the codec keeps the laws
pub laws_hold : Laws small_codec
laws_hold = record {
  head_whole = λ h bytes is. toy_meets.head_whole h bytes is;
  head_alone = λ h bytes other is same. toy_meets.head_alone h bytes other is same;
  head_refused = λ bytes refusal is. toy_meets.head_refused bytes refusal is;
  area_number = λ h body s is. number_of (get_or body 0 0) (get_or body 1 0) s is;
  later = λ n frame m is. omega (arith, (after_is n frame m is).1);
  after = λ s frame t is.
      let e = applied s frame t is in
      after_next s.0 frame t.0 e.0 (small_is (s.0 + 1) (s.1 + get_or frame 15 0) t e.1).1
      (number_of (s.0 + 1) (s.1 + get_or frame 15 0) t e.1);
}

first : (bytes : List ℕ) → get_or (take 8 bytes) 0 0 ≡ get_or bytes 0 0
first [] = refl
first (b ∷ bytes) = refl

-- and the bounds
pub bounds_hold : Bounds small_codec is_small 2
bounds_hold = record {
  front = front;
  eight = first;
  after = λ n frame m is. let e = after_is n frame m is in omega (arith, e.1, e.2);
  number = λ h bytes s is. let e = fits_of h (get_or bytes 0 0) (get_or bytes 1 0) s is in omega (arith, e.0);
  read = λ h bytes s is. fits_of h (get_or bytes 0 0) (get_or bytes 1 0) s is;
  applied = λ h s frame t fit is. fits_of h (s.0 + 1) (s.1 + get_or frame 15 0) t (applied s frame t is).1;
}

-- The record of new weights in the bytes.
use Rattle.std.proofs.Common.{◌≡◌, ◌≤◌, ◌<◌, ℕ, zero, suc, ◌+◌, ◌*◌, ◌^◌, ◌&&◌, ◌==◌, Bool, true, false, nat_lt, List, [], ◌∷◌, ◌++◌, length, get_or, drop, refl, sym, ◌∙◌, ap, subst, arith, eq-eqb, length-drop}
use Rattle.std.specs.Bool.{IsTrue}
use Rattle.std.specs.List.{list_all}
use Rattle.std.specs.Prelude.{All}
use Rattle.std.proofs.lemmas.Bool.{lt-ltb, false≢true}
use Rattle.std.proofs.lemmas.List.{drop-drop, get_or-drop}
use Rattle.std.proofs.lemmas.List.Elements.{All-from_get_or}
use Rattle.byteorder.specs.Endian.{little_number}
use Rattle.byteorder.specs.Numbers.{little_from-lt}
use Rattle.pfx_jobs.specs.Kind.{Kind, Laws}
use Rattle.pfx_weights.specs.Bytes.{weight_bytes, weights_bytes, weight_of, weights_of}
use Rattle.pfx_weights.proofs.Written.{length-weights_of, weights_split}
use Rattle.pfx_record.specs.Begins.{Begins, joined}
use Rattle.pfx_record.specs.Records.{Recorded, form_of, is_small, submitted, ran, withdrawn, reweighed, record_fits, takes_weights}
use Rattle.pfx_record.specs.Reading.{IsRecord, NoRecord}
use Rattle.pfx_record.specs.declared.form.Form.{Form}
use Rattle.pfx_record.proofs.Rising.{both, of_both}
use Rattle.pfx_record.proofs.Fronts.{begins_head, begins_cons, begins_len}
use Rattle.pfx_record.proofs.Places.{head_at}
use Rattle.pfx_record.proofs.Bodies.{fits_new, weights_len}

-- all numbers are bytes
abbrev pub AreBytes : List ℕ → Type 0
AreBytes xs = (k : ℕ) → get_or xs k 0 < 256

bytes_behind : (n : ℕ) (xs : List ℕ) → AreBytes xs → AreBytes (drop n xs)
bytes_behind n xs small k = omega (arith, small (n + k), get_or-drop n xs k 0)

small_of : (xs : List ℕ) → AreBytes xs → IsTrue (is_small (weight_of xs))
small_of xs small =
    let first : little_number 4 xs < 2 ^ 32 = little_from-lt 0 4 xs small in
    let second : little_number 4 (drop 4 xs) < 2 ^ 32 = little_from-lt 0 4 (drop 4 xs) (bytes_behind 4 xs small) in
    of_both (nat_lt (little_number 4 xs) (2 ^ 32)) _ (lt-ltb _ _ first) (lt-ltb _ _ second)

-- what is read is of 32 bits
small_read : (n : ℕ) (xs : List ℕ) → AreBytes xs → IsTrue (list_all is_small (weights_of n xs))
small_read zero xs small = refl
small_read (suc n) xs small = of_both (is_small (weight_of xs)) _ (small_of xs small) (small_read n (drop 8 xs) (bytes_behind 8 xs small))

joined_is : (ws : List (ℕ × ℕ)) → joined weight_bytes ws ≡ weights_bytes ws
joined_is [] = refl
joined_is (w ∷ ws) = ap (λ (l : List ℕ). weight_bytes w ++ l) (joined_is ws)

weights_stand : (n : ℕ) (xs : List ℕ) → 8 * n ≤ length xs → AreBytes xs → Begins xs (joined weight_bytes (weights_of n xs))
weights_stand n xs long small = record {
  rest = drop (8 * n) xs;
  is = weights_split n xs long (All-from_get_or (λ b. b < 256) xs 0 (λ i within. small i)) ∙ ap (λ (l : List ℕ). l ++ drop (8 * n) xs) (sym (joined_is (weights_of n xs)));
}

module _ {J : Type 0} (K : Kind J) (L : Laws K) (bytes : List ℕ) (form : Form) where
  pub reweigh_short : get_or bytes 0 0 ≡ 4 → length bytes < 2 + 8 * form.real → NoRecord K form bytes
  reweigh_short tag short (submitted task job) fits b = omega (arith, tag, begins_head bytes 1 _ b)
  reweigh_short tag short (ran row) fits b = omega (arith, tag, begins_head bytes 2 _ b)
  reweigh_short tag short (withdrawn task) fits b = omega (arith, tag, begins_head bytes 3 _ b)
  reweigh_short tag short (reweighed m ws) fits b = omega (arith, short, begins_len bytes _ b, weights_len ws, (fits_new K L form m ws fits).long)

  pub reweigh_is : (m : ℕ) (ws : List (ℕ × ℕ)) → takes_weights form ≡ true → get_or bytes 0 0 ≡ 4 → m ≡ get_or bytes 1 0 → 2 + 8 * form.real ≤ length bytes → AreBytes bytes
      → ws ≡ weights_of form.real (drop 2 bytes) → IsRecord K form bytes (reweighed m ws) (2 + 8 * form.real)
  reweigh_is m ws takes tag workers long small is =
      let behind = drop 2 bytes in
      let left : length behind + 2 ≡ length bytes = (let n = length-drop 2 bytes in omega (arith, n, long)) in
      let byte : m < 256 = omega (arith, workers, small 1) in
      let number : length ws ≡ form.real = ap length is ∙ length-weights_of form.real behind in
      let all : IsTrue (list_all is_small ws) = subst (λ (l : List (ℕ × ℕ)). IsTrue (list_all is_small l)) (sym is) (small_read form.real behind (bytes_behind 2 bytes small)) in
      let stand : Begins behind (joined weight_bytes ws) = subst (λ (l : List (ℕ × ℕ)). Begins behind (joined weight_bytes l)) (sym is) (weights_stand form.real behind (omega (arith, left, long)) (bytes_behind 2 bytes small)) in
      let one : Begins (drop 1 bytes) (m ∷ joined weight_bytes ws) =
      begins_cons (drop 1 bytes) m (joined weight_bytes ws) (omega (arith, length-drop 1 bytes, long)) (head_at 1 bytes ∙ sym workers) (subst (λ (l : List ℕ). Begins l (joined weight_bytes ws)) (sym (drop-drop 1 1 bytes)) stand) in
      record {
        fits = of_both (takes_weights form) _ takes (of_both (length ws == form.real) _ (eq-eqb (length ws) form.real number) (of_both (nat_lt m 256) _ (lt-ltb m 256 byte) all));
        begins = begins_cons bytes 4 (m ∷ joined weight_bytes ws) (omega (arith, long)) tag one;
        long = omega (arith, weights_len ws, number);
      }

-- Where no task is said to be real, new weights have no spelling, and it doesn't matter how many records a batch has.

pub none_new : (J : Type 0) (workers count m : ℕ) (ws : List (ℕ × ℕ)) → IsTrue (record_fits {J = J} (form_of workers 0 count) (reweighed m ws)) → ⊥
none_new J workers count m ws fits =
    let takes = (both (takes_weights (form_of workers 0 count)) ((length ws == 0) && (nat_lt m 256 && list_all is_small ws)) fits).0 in
    false≢true (both (count == 1) false takes).1

pub fits_anywhere : {J : Type 0} (workers count other : ℕ) (done : Recorded J) → IsTrue (record_fits (form_of workers 0 count) done) → IsTrue (record_fits (form_of workers 0 other) done)
fits_anywhere workers count other (submitted task job) fits = fits
fits_anywhere workers count other (ran row) fits = fits
fits_anywhere workers count other (withdrawn task) fits = fits
fits_anywhere {J} workers count other (reweighed m ws) fits = absurd (none_new J workers count m ws fits)

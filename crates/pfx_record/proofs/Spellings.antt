-- What is spelled is known by its bytes.
use Rattle.std.proofs.Common.{◌≡◌, ◌<◌, ℕ, ◌^◌, List, [], drop, Option, Some, None, refl, sym, ◌∙◌, ap, ap₂, arith}
use Rattle.pfx_jobs.specs.Kind.{Kind, Laws}
use Rattle.pfx_record.specs.Begins.{Begins}
use Rattle.pfx_record.specs.Numbers.{number_bytes}
use Rattle.pfx_record.specs.Records.{state_bytes, place_bytes}
use Rattle.pfx_record.specs.declared.record.Place.{Place}
use Rattle.pfx_record.proofs.Again.{number_back, length-number_bytes}
use Rattle.pfx_record.proofs.Fronts.{begins_left, begins_behind, begins_same, begins_head, begins_tail}

pub same_number : (n : ℕ) (bytes : List ℕ) (x y : ℕ) → x < 256 ^ n → y < 256 ^ n → Begins bytes (number_bytes n x) → Begins bytes (number_bytes n y) → x ≡ y
same_number n bytes x y small_x small_y b c =
    number_back n x y small_x small_y (begins_same bytes (number_bytes n x) (number_bytes n y) b c (omega (arith, length-number_bytes n x, length-number_bytes n y)))

module _ {J : Type 0} (K : Kind J) (L : Laws K) where
  pub same_spelling : (s t : J) → K.spelling s ≡ K.spelling t → s ≡ t
  same_spelling s t same = let a = L.round_trip s in let b = L.round_trip t in cc

  pub same_job : (bytes : List ℕ) (s t : J) → Begins bytes (K.spelling s) → Begins bytes (K.spelling t) → s ≡ t
  same_job bytes s t b c = same_spelling s t (begins_same bytes (K.spelling s) (K.spelling t) b c (L.long s ∙ sym (L.long t)))

  pub same_state : (bytes : List ℕ) (s t : Option J) → Begins bytes (state_bytes K s) → Begins bytes (state_bytes K t) → s ≡ t
  same_state bytes None None b c = refl
  same_state bytes None (Some t) b c = absurd (omega (arith, begins_head bytes 0 [] b, begins_head bytes 1 (K.spelling t) c))
  same_state bytes (Some s) None b c = absurd (omega (arith, begins_head bytes 1 (K.spelling s) b, begins_head bytes 0 [] c))
  same_state bytes (Some s) (Some t) b c = ap (λ (j : J). Some j) (same_job (drop 1 bytes) s t (begins_tail bytes 1 (K.spelling s) b) (begins_tail bytes 1 (K.spelling t) c))

  pub same_place : (bytes : List ℕ) (p q : Place J) → p.task < 2 ^ 16 → q.task < 2 ^ 16 → Begins bytes (place_bytes K p) → Begins bytes (place_bytes K q) → p ≡ q
  same_place bytes p q small_p small_q b c =
      let tasks : p.task ≡ q.task = same_number 2 bytes p.task q.task (omega (arith, small_p)) (omega (arith, small_q)) (begins_left bytes (number_bytes 2 p.task) (state_bytes K p.state) b) (begins_left bytes (number_bytes 2 q.task) (state_bytes K q.state) c) in
      let states : p.state ≡ q.state = same_state (drop 2 bytes) p.state q.state (begins_behind 2 bytes (number_bytes 2 p.task) (state_bytes K p.state) (length-number_bytes 2 p.task) b) (begins_behind 2 bytes (number_bytes 2 q.task) (state_bytes K q.state) (length-number_bytes 2 q.task) c) in
      let made : ℕ → Option J → Place J = λ t s. record { task = t; state = s } in
      ap₂ made tasks states

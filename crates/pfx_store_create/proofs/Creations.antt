-- The steps in which a new file is made.
use Rattle.std.proofs.Common.{◌≡◌, ◌⊎◌, inl, inr, ⊎_elim, ℕ, zero, suc, ◌≤◌, ◌<◌, List, [], ◌∷◌, ◌++◌, length, get_or, take, drop, refl, sym, ◌∙◌, ap, subst, arith, Ok, Err}
use Rattle.std.proofs.lemmas.List.{ext_get_or}
use Rattle.std.proofs.lemmas.Bool.{cases_eq}
use Rattle.pfx_disk.specs.declared.gates.TheConstants.{GATE_OPEN}
use Rattle.pfx_disk.specs.Disk.{View, IsHonest, Leaves, Same, Torn, Written, Only}
use Rattle.pfx_disk.specs.Gates.{IsClosed}
use Rattle.pfx_disk.proofs.Steps.{leaves_as, leaves_then, leaves_from_synced}
use Rattle.pfx_store_image.specs.Codec.{Codec}
use Rattle.pfx_store_image.specs.Layout.{Layout}
use Rattle.pfx_store_image.specs.NewFile.{new_file, new_parts}
use Rattle.pfx_store_image.specs.Recovery.{on_ok, from_head, found, found_of, recovered}
use Rattle.pfx_store_image.specs.Refusals.{NotAStore}
use Rattle.pfx_store_image.proofs.NewFiles.{head_stands, made_new, new_store}
use Rattle.pfx_store_image.proofs.Recovers.{finds, recovers}
use Rattle.pfx_store_create.specs.Creating.{HasLengths, IsUnmade, Beginning, Creating, StaysClosed, unopened}
use Rattle.pfx_store_create.specs.Attempts.{Attempts, IsMadeOf, IsNoneOrMade, RefusesUnmade}
use Rattle.pfx_store_create.proofs.NewBytes.{behind_first, long_unopened, some_layout}

pub stays_then : (a b c : View) → a.clock ≤ b.clock → Leaves StaysClosed a b → Leaves StaysClosed b c → Leaves StaysClosed a c
stays_then a b c later first second = leaves_then StaysClosed StaysClosed StaysClosed a b c later (λ x y is. is) (λ x y z first second closed. second (first closed)) first second

-- the first byte, or a part of it
pub first_begun : (a b : View) → Leaves (Torn 0 1) a b → Leaves Beginning a b
first_begun a b first = leaves_as (Torn 0 1) Beginning a b (λ x y torn none. inl (omega (arith, torn.no_longer, ap length none))) first

pub first_synced : (a b1 b2 : View) → a.clock ≤ b1.clock → Leaves (Torn 0 1) a b1 → Leaves Same b1 b2 → Leaves Beginning a b2
first_synced a b1 b2 later first second =
    leaves_then Beginning Same Beginning a b1 b2 later (λ x y is. is) (λ x y z step same none. subst IsUnmade (sym same) (step none)) (first_begun a b1 first) second

closed_first : (old new : List ℕ) → old ≡ [] → Written 0 (0 ∷ []) old new → IsClosed 0 new
closed_first old new none is = subst (λ l. IsClosed 0 l) (sym (is ∙ ap (λ (l : List ℕ). take 0 l ++ (0 ∷ []) ++ drop 1 l) none)) (record { inside = omega arith; closed = λ opened. omega (arith, opened) })

-- and what is written behind it
pub behind_begun : (a b1 b2 b3 : View) → IsHonest a → a.contents ≡ [] → a.clock ≤ b1.clock → b1.clock ≤ b2.clock → Leaves (Torn 0 1) a b1 → Written 0 (0 ∷ []) a.contents b1.contents
    → Leaves Same b1 b2 → Only b1.contents b2 → Leaves StaysClosed b2 b3 → Leaves Beginning a b3
behind_begun a b1 b2 b3 honest none later later1 first written second only third =
    leaves_from_synced Beginning StaysClosed Beginning a b2 b3 honest (omega (arith, later, later1)) (λ x y is. is)
    (λ z stays none_then. inr (stays (subst (λ l. IsClosed 0 l) (sym second.contents) (closed_first a.contents b1.contents none written))).closed)
    (first_synced a b1 b2 later first second) (λ image is. only image is ∙ sym second.contents) third

nothing : (xs : List ℕ) → length xs ≡ 0 → xs ≡ []
nothing [] is = refl
nothing (x ∷ xs) is = absurd (omega (arith, is))

pub was_empty : (xs : List ℕ) (n : ℕ) → n ≡ length xs → n ≡ 0 → xs ≡ []
was_empty xs n is none = nothing xs (sym is ∙ none)

-- a new file begins with its header's open gate
pub opens : (L : Layout) (head body first : List ℕ) (segment : ℕ) → length first ≡ 8 → HasLengths L head body segment → get_or head 0 0 ≡ GATE_OPEN → get_or (new_file L head body first) 0 0 ≡ GATE_OPEN
opens L [] body first segment eight has gate = absurd (omega (arith, gate))
opens L (b ∷ head) body first segment eight has gate = head_stands L (b ∷ head) body first has.of_head has.of_body eight 0 (omega arith) ∙ gate

same_creates : (file x y : List ℕ) → Same x y → Creating file x y
same_creates file x y same none = inl (inl (omega (arith, ap length same, ap length none)))

pub looked_at : (file : List ℕ) (a a1 : View) → Leaves Same a a1 → Leaves (Creating file) a a1
looked_at file a a1 looked = leaves_as Same (Creating file) a a1 (same_creates file) looked

pub begun : (file : List ℕ) (a a1 b1 : View) → a.clock ≤ a1.clock → Leaves Same a a1 → Leaves Beginning a1 b1 → Leaves (Creating file) a b1
begun file a a1 b1 later looked first = leaves_then Same Beginning (Creating file) a a1 b1 later (same_creates file) (λ x y z same begins none. inl (begins (same ∙ none))) looked first

-- what is made on an empty disk
pub attempted : (head body first : List ℕ) (segment : ℕ) → 9 < segment → (a b : View) → (IsHonest b → IsHonest a) → (IsHonest a → length a.contents ≡ 0)
    → (IsHonest a → (L : Layout) → HasLengths L head body segment → Leaves (Creating (new_file L head body first)) a b) → Attempts head body first segment a b
attempted head body first segment room a b back none leaves = record {
  honest = (λ honest. let some = some_layout head body segment room in (leaves honest some.0 some.1).honest, back);
  leaves = leaves;
  untouched = λ honest some. absurd (omega (arith, none honest, some));
}

module _ (file : List ℕ) (gate : get_or file 0 0 ≡ GATE_OPEN) where
  some : (bytes : List ℕ) → get_or bytes 0 0 ≡ GATE_OPEN → 0 < length bytes
  some [] opened = absurd (omega (arith, opened))
  some (b ∷ bytes) opened = omega arith

  -- the write of the first gate, or a part of it
  gate_written : (z : List ℕ) → Torn 0 1 (unopened file) z → IsUnmade z ⊎ (z ≡ file)
  gate_written z torn = ⊎_elim (λ opened. inr (ext_get_or 0 z file same_length (λ i below. same opened i below))) (λ shut. inl (inr shut)) (cases_eq (get_or z 0 0) GATE_OPEN)
    where
      same_length : length z ≡ length file
      same_length = omega (arith, torn.no_shorter, torn.no_longer, long_unopened file (some file gate), some file gate)

      same : get_or z 0 0 ≡ GATE_OPEN → (i : ℕ) → i < length z → get_or z i 0 ≡ get_or file i 0
      same opened zero below = opened ∙ sym gate
      same opened (suc i) below = torn.elsewhere (suc i) (omega (arith, below, same_length, long_unopened file (some file gate))) (inr (omega arith)) ∙ behind_first file (suc i) (omega arith)

  module _ (a a1 b1 b2 : View) (honest : IsHonest a) (later : a.clock ≤ a1.clock) (later1 : a1.clock ≤ b1.clock) (later2 : b1.clock ≤ b2.clock)
      (looked : Leaves Same a a1) (first : Leaves Beginning a1 b1) (second : Leaves Same b1 b2) where
    pub synced : Leaves (Creating file) a b2
    synced = leaves_then (Creating file) Same (Creating file) a b1 b2 (omega (arith, later, later1)) (λ x y is. is)
        (λ x y z step same none. subst (λ l. IsUnmade l ⊎ (l ≡ file)) (sym same) (step none)) (begun file a a1 b1 later looked first) second

    module _ (b3 : View) (only : Only b2.contents b2) (stands : b2.contents ≡ unopened file) (third : Leaves (Torn 0 1) b2 b3) where
      pub opened : Leaves (Creating file) a b3
      opened = leaves_from_synced (Creating file) (Torn 0 1) (Creating file) a b2 b3 honest (omega (arith, later, later1, later2)) (λ x y is. is)
          (λ z torn none. gate_written z (subst (λ l. Torn 0 1 l z) stands torn)) synced only third

      pub ended : (b4 : View) → b2.clock ≤ b3.clock → Leaves Same b3 b4 → Leaves (Creating file) a b4
      ended b4 later3 fourth = leaves_then (Creating file) Same (Creating file) a b3 b4 (omega (arith, later, later1, later2, later3)) (λ x y is. is)
          (λ x y z step same none. subst (λ l. IsUnmade l ⊎ (l ≡ file)) (sym same) (step none)) opened fourth

-- the write of the first gate, all of it
pub gate_opened : (file old new : List ℕ) → get_or file 0 0 ≡ GATE_OPEN → old ≡ unopened file → Written 0 (GATE_OPEN ∷ []) old new → new ≡ file
gate_opened [] old new gate before is = absurd (omega (arith, gate))
gate_opened (b ∷ file) old new gate before is = is ∙ ap (λ (l : List ℕ). take 0 l ++ (GATE_OPEN ∷ []) ++ drop 1 l) before ∙ ap (λ k. k ∷ file) (sym gate)

-- what a codec says of the images
module _ {H S : Type 0} (K : Codec H S) (h : H) (s : S) (head body first : List ℕ) (segment : ℕ) (made : IsMadeOf K h s head body first segment) where
  pub lengths : HasLengths (K.layout h) head body segment
  lengths = record { of_head = made.parts.head_long; of_body = made.parts.body_long; of_segment = made.of_segment }

  refused : (image : List ℕ) → K.read_head image ≡ Err NotAStore → recovered K image ≡ Err NotAStore
  unfolding recovered found
  refused image none = ap (λ r. on_ok (on_ok r (λ k. from_head K k image)) (λ f. Ok f.state)) none

  pub whole_is_found : found K (new_file (K.layout h) head body first) ≡ Ok (found_of h (new_parts s) s)
  whole_is_found = finds K made.laws h (new_file (K.layout h) head body first) (new_parts s) s (new_store K h s _ (made_new K made.laws h s head body first made.parts))

  pub whole_is_recovered : (image : List ℕ) → image ≡ new_file (K.layout h) head body first → recovered K image ≡ Ok s
  whole_is_recovered image is = ap (recovered K) is ∙ recovers K made.laws h (new_file (K.layout h) head body first) (new_parts s) s (new_store K h s _ (made_new K made.laws h s head body first made.parts))

  pub none_or_made : RefusesUnmade K → (a b : View) → IsHonest a → Leaves (Creating (new_file (K.layout h) head body first)) a b → IsNoneOrMade K s a b
  none_or_made refuses a b honest leaves c le empty image is = ⊎_elim
      (λ before. inl (refused image (refuses image (inl (omega (arith, ap length (empty image before)))))))
      (λ d. ⊎_elim (λ unmade. inl (refused image (refuses image unmade))) (λ whole. inr (whole_is_recovered image whole)) (d.2 (empty d.0 (honest.counted c d.0 le d.1))))
      (leaves.since c image le is)

-- All steps of the checkpoint in progress.
use Rattle.std.proofs.Common.{◌≡◌, inl, inr, ⊎_elim, ℕ, zero, suc, ◌+◌, ◌-◌, ◌≤◌, ◌<◌, List, [], ◌++◌, refl, sym, ◌∙◌, ap, subst, arith, append_assoc, append-nil, Bool, true, false}
use Rattle.std.specs.Prelude.{nat_lt, if◌then◌else◌}
use Rattle.std.proofs.lemmas.Bool.{cases_lt, ltb-true, false≢true, true≢false}
use Rattle.pfx_disk.specs.Disk.{View}
use Rattle.pfx_disk.specs.Stop.{Act}
use Rattle.pfx_disk.specs.CallsMade.{HasMade, HasBrokenOff, HasKeptTo}
use Rattle.pfx_disk.proofs.CallsMade.{made_none, made_then, broken_first, broken_then, within_first, within_then}
use Rattle.pfx_store_image.specs.Codec.{Codec}
use Rattle.pfx_store_file.specs.declared.checkpoint.TheConstants.{PIECE}
use Rattle.pfx_store_file.specs.declared.places.Places.{Places}
use Rattle.pfx_store_file.specs.Checkpoints.{in_progress, is_begun, written}
use Rattle.pfx_store_file.specs.Files.{File, AreOf}
use Rattle.pfx_store_file.specs.Acts.{piece_len, tend_acts, closed_file, pieced_file, finished_file, tended_file, steps_acts, stepped_file, end_acts, ended_file}

-- a property of two results at once, if one test decides both
pub by_if₂ : {A C : Type 0} (P : A → C → Type 0) (b : Bool) (x y : A) (u v : C) → (b ≡ true → P x u) → (b ≡ false → P y v) → P (if b then x else y) (if b then u else v)
by_if₂ P true x y u v first second = first refl
by_if₂ P false x y u v first second = second refl

module _ {H S : Type 0} (K : Codec H S) where
  -- what a step leaves
  pub record Kept (f g : File H S) : Type 0 where
    pub head : g.head ≡ f.head
    pub middle : g.parts.middle ≡ f.parts.middle
    pub segment : g.parts.segment ≡ f.parts.segment
    pub frames : g.parts.frames ≡ f.parts.frames
    pub turned : g.parts.turned ≡ true → f.parts.turned ≡ true

  kept_all : (f : File H S) → Kept f f
  kept_all f = record { head = refl; middle = refl; segment = refl; frames = refl; turned = λ is. is }

  pub tended_kept : (f : File H S) → Kept f (tended_file K f)
  tended_kept f =
      by_if₂ (λ g (u : Unit {0}). Kept f g) f.parts.turned _ f tt tt
      (λ turned. by_if₂ (λ g (u : Unit {0}). Kept f g) (is_begun f.checkpoint) _ (closed_file K f) tt tt
      (λ begun. by_if₂ (λ g (u : Unit {0}). Kept f g) (nat_lt (written f.checkpoint) (K.layout f.head).body) (pieced_file K f) (finished_file K f) tt tt
      (λ less. record { head = refl; middle = refl; segment = refl; frames = refl; turned = λ is. is })
      (λ whole. record { head = refl; middle = refl; segment = refl; frames = refl; turned = λ is. turned }))
      (λ none. record { head = refl; middle = refl; segment = refl; frames = refl; turned = λ is. is }))
      (λ single. kept_all f)

  kept_then : (f g e : File H S) → Kept f g → Kept g e → Kept f e
  kept_then f g e a b = record { head = b.head ∙ a.head; middle = b.middle ∙ a.middle; segment = b.segment ∙ a.segment; frames = b.frames ∙ a.frames; turned = λ is. a.turned (b.turned is) }

  pub stepped_kept : (n : ℕ) (f : File H S) → Kept f (stepped_file K n f)
  stepped_kept zero f = kept_all f
  stepped_kept (suc n) f = kept_then f (tended_file K f) (stepped_file K n (tended_file K f)) (tended_kept f) (stepped_kept n (tended_file K f))

  -- how many steps are left at most
  abbrev left_of : Bool → Bool → ℕ → ℕ → ℕ
  left_of false begun body done = 0
  left_of true false body done = 2 + body
  left_of true true body done = 1 + (body - done)

  none_left : (t b : Bool) (body done : ℕ) → left_of t b body done ≤ 0 → t ≡ false
  none_left false b body done low = refl
  none_left true false body done low = absurd (omega (arith, low))
  none_left true true body done low = absurd (omega (arith, low))

  most_left : (t b : Bool) (body done : ℕ) → left_of t b body done ≤ 2 + body
  most_left false b body done = omega arith
  most_left true false body done = omega arith
  most_left true true body done = omega arith

  abbrev left : File H S → ℕ
  left f = left_of f.parts.turned (is_begun f.checkpoint) (K.layout f.head).body (written f.checkpoint)

  left_at : (t b : Bool) (body done n : ℕ) → t ≡ true → b ≡ true → 1 + (body - done) ≤ n → left_of t b body done ≤ n
  left_at true true body done n turned begun low = low
  left_at false b body done n turned begun low = absurd (false≢true turned)
  left_at true false body done n turned begun low = absurd (false≢true begun)

  left_begun : (t b : Bool) (body done n : ℕ) → t ≡ true → b ≡ true → left_of t b body done ≤ n → 1 + (body - done) ≤ n
  left_begun true true body done n turned begun low = low
  left_begun false b body done n turned begun low = absurd (false≢true turned)
  left_begun true false body done n turned begun low = absurd (false≢true begun)

  left_first : (t b : Bool) (body done n : ℕ) → t ≡ true → b ≡ false → left_of t b body done ≤ n → 2 + body ≤ n
  left_first true false body done n turned begun low = low
  left_first false b body done n turned begun low = absurd (false≢true turned)
  left_first true true body done n turned begun low = absurd (true≢false begun)

  left_none : (t b : Bool) (body done n : ℕ) → t ≡ false → left_of t b body done ≤ n
  left_none false b body done n single = omega arith
  left_none true b body done n single = absurd (true≢false single)

  some_piece : 0 < PIECE
  some_piece = let p : PIECE ≡ 4096 = refl in omega (arith, p)

  one_fewer : (f : File H S) (n : ℕ) → left f ≤ suc n → left (tended_file K f) ≤ n
  one_fewer f n low =
      by_if₂ (λ g (u : Unit {0}). left g ≤ n) f.parts.turned _ f tt tt
      (λ turned. by_if₂ (λ g (u : Unit {0}). left g ≤ n) (is_begun f.checkpoint) _ (closed_file K f) tt tt
      (λ begun. by_if₂ (λ g (u : Unit {0}). left g ≤ n) (nat_lt (written f.checkpoint) (K.layout f.head).body) (pieced_file K f) (finished_file K f) tt tt
      (λ less. left_at f.parts.turned true (K.layout f.head).body (written f.checkpoint + piece_len K f) n turned refl (omega (arith, some_piece, ltb-true _ _ less, left_begun f.parts.turned (is_begun f.checkpoint) (K.layout f.head).body (written f.checkpoint) (suc n) turned begun low)))
      (λ whole. left_none false false (K.layout f.head).body 0 n refl))
      (λ none. left_at f.parts.turned true (K.layout f.head).body 0 n turned refl (omega (arith, left_first f.parts.turned (is_begun f.checkpoint) (K.layout f.head).body (written f.checkpoint) (suc n) turned none low))))
      (λ single. left_none f.parts.turned (is_begun f.checkpoint) (K.layout f.head).body (written f.checkpoint) n single)

  ended : (n : ℕ) (f : File H S) → left f ≤ n → (stepped_file K n f).parts.turned ≡ false
  ended zero f low = none_left f.parts.turned (is_begun f.checkpoint) (K.layout f.head).body (written f.checkpoint) low
  ended (suc n) f low = ended n (tended_file K f) (one_fewer f n low)

  pub has_ended : (f : File H S) → (ended_file K f).parts.turned ≡ false
  has_ended f = ended (2 + (K.layout f.head).body) f (most_left f.parts.turned (is_begun f.checkpoint) (K.layout f.head).body (written f.checkpoint))

  -- if none is in progress there is no next step
  pub none_acts : (f : File H S) (spelling : List ℕ) → f.parts.turned ≡ false → (tend_acts K f spelling ≡ []) × (tended_file K f ≡ f)
  none_acts f spelling single = by_if₂ (λ calls g. (calls ≡ []) × (g ≡ f)) f.parts.turned _ [] _ f (λ turned. absurd (true≢false (sym turned ∙ single))) (λ _. (refl, refl))

  -- if none is in progress there are no more
  pub none_left_then : (m : ℕ) (f : File H S) (spelling : List ℕ) → f.parts.turned ≡ false → (steps_acts K m f spelling ≡ []) × (stepped_file K m f ≡ f)
  none_left_then zero f spelling single = (refl, refl)
  none_left_then (suc m) f spelling single =
      let one = none_acts f spelling single in
      let rest = none_left_then m f spelling single in
      (ap (λ l. l ++ steps_acts K m (tended_file K f) spelling) one.0 ∙ (ap (λ g. steps_acts K m g spelling) one.1 ∙ rest.0), ap (stepped_file K m) one.1 ∙ rest.1)

  same_ended : (n m : ℕ) (f : File H S) (spelling : List ℕ) → n ≤ m → (stepped_file K n f).parts.turned ≡ false → (steps_acts K m f spelling ≡ steps_acts K n f spelling) × (stepped_file K m f ≡ stepped_file K n f)
  same_ended zero m f spelling le single = none_left_then m f spelling single
  same_ended (suc n) zero f spelling le single = absurd (omega (arith, le))
  same_ended (suc n) (suc m) f spelling le single = let rest = same_ended n m (tended_file K f) spelling (omega (arith, le)) single in (ap (λ l. tend_acts K f spelling ++ l) rest.0, rest.1)

  pub steps_ended : (n : ℕ) (f : File H S) (spelling : List ℕ) → (stepped_file K n f).parts.turned ≡ false → (end_acts K f spelling ≡ steps_acts K n f spelling) × (ended_file K f ≡ stepped_file K n f)
  steps_ended n f spelling single = elim (cases_lt n (2 + (K.layout f.head).body)) [
    | inl less ↦ same_ended n (2 + (K.layout f.head).body) f spelling (omega (arith, less)) single
    | inr more ↦ let back = same_ended (2 + (K.layout f.head).body) n f spelling more (has_ended f) in (sym back.0, sym back.1)
  ]

  steps_snoc : (n : ℕ) (f : File H S) (spelling : List ℕ) → steps_acts K (suc n) f spelling ≡ steps_acts K n f spelling ++ tend_acts K (stepped_file K n f) spelling
  steps_snoc zero f spelling = append-nil (tend_acts K f spelling)
  steps_snoc (suc n) f spelling = ap (λ l. tend_acts K f spelling ++ l) (steps_snoc n (tended_file K f) spelling) ∙ sym (append_assoc (tend_acts K f spelling) (steps_acts K n (tended_file K f) spelling) (tend_acts K (stepped_file K n (tended_file K f)) spelling))

  stepped_snoc : (n : ℕ) (f : File H S) → stepped_file K (suc n) f ≡ tended_file K (stepped_file K n f)
  stepped_snoc zero f = refl
  stepped_snoc (suc n) f = stepped_snoc n (tended_file K f)

  steps_begin : (n m : ℕ) (f : File H S) (spelling : List ℕ) → n ≤ m → (rest : List Act) × (steps_acts K n f spelling ++ rest ≡ steps_acts K m f spelling)
  steps_begin zero m f spelling le = (steps_acts K m f spelling, refl)
  steps_begin (suc n) zero f spelling le = absurd (omega (arith, le))
  steps_begin (suc n) (suc m) f spelling le = let r = steps_begin n m (tended_file K f) spelling (omega (arith, le)) in
      (r.0, append_assoc (tend_acts K f spelling) (steps_acts K n (tended_file K f) spelling) r.0 ∙ ap (λ l. tend_acts K f spelling ++ l) r.1)

  -- a step more begins all of them
  step_begins : (n : ℕ) (f : File H S) (spelling : List ℕ) → (stepped_file K n f).parts.turned ≡ true → (rest : List Act) × ((steps_acts K n f spelling ++ tend_acts K (stepped_file K n f) spelling) ++ rest ≡ end_acts K f spelling)
  step_begins n f spelling turned =
      let less : n < 2 + (K.layout f.head).body = ⊎_elim (λ less. less) (λ more. absurd (true≢false (sym turned ∙ (ap (λ (g : File H S). g.parts.turned) (same_ended (2 + (K.layout f.head).body) n f spelling more (has_ended f)).1 ∙ has_ended f)))) (cases_lt n (2 + (K.layout f.head).body)) in
      let r = steps_begin (suc n) (2 + (K.layout f.head).body) f spelling (omega (arith, less)) in
      (r.0, ap (λ l. l ++ r.0) (sym (steps_snoc n f spelling)) ∙ r.1)

  -- so many steps were taken
  pub record Walked (f : File H S) (spelling : List ℕ) (places : Places) (old new : View) : Type 0 where
    pub n : ℕ
    pub are : AreOf K (stepped_file K n f) places
    pub went : HasMade (steps_acts K n f spelling) old new
    pub passed : HasKeptTo (steps_acts K n f spelling) old new

  pub walked_none : (f : File H S) (spelling : List ℕ) (places : Places) (a : View) → AreOf K f places → Walked f spelling places a a
  walked_none f spelling places a are = record { n = 0; are = are; went = made_none a; passed = λ start done follows c image le is. inl is }

  module _ (f : File H S) (spelling : List ℕ) (places : Places) (a b c : View) (later : a.clock ≤ b.clock) (w : Walked f spelling places a b) where
    pub walked_on : (later_places : Places) → AreOf K (tended_file K (stepped_file K w.n f)) later_places → HasMade (tend_acts K (stepped_file K w.n f) spelling) b c → HasKeptTo (tend_acts K (stepped_file K w.n f) spelling) b c → Walked f spelling later_places a c
    walked_on later_places are went passed = record {
      n = suc w.n;
      are = subst (λ g. AreOf K g later_places) (sym (stepped_snoc w.n f)) are;
      went = subst (λ l. HasMade l a c) (sym (steps_snoc w.n f spelling)) (made_then (steps_acts K w.n f spelling) (tend_acts K (stepped_file K w.n f) spelling) a b c w.went went);
      passed = subst (λ l. HasKeptTo l a c) (sym (steps_snoc w.n f spelling)) (within_then (steps_acts K w.n f spelling) (tend_acts K (stepped_file K w.n f) spelling) a b c w.went later w.passed passed);
    }

    module _ (turned : in_progress places.checkpoint ≡ true) where
      rest : (rest : List Act) × ((steps_acts K w.n f spelling ++ tend_acts K (stepped_file K w.n f) spelling) ++ rest ≡ end_acts K f spelling)
      rest = step_begins w.n f spelling (sym w.are.are.turned ∙ turned)

      pub walked_broken : HasBrokenOff (tend_acts K (stepped_file K w.n f) spelling) b c → HasBrokenOff (end_acts K f spelling) a c
      walked_broken missed = subst (λ l. HasBrokenOff l a c) rest.1 (broken_first (steps_acts K w.n f spelling ++ tend_acts K (stepped_file K w.n f) spelling) rest.0 a c
          (broken_then (steps_acts K w.n f spelling) (tend_acts K (stepped_file K w.n f) spelling) a b c w.went missed))

      pub walked_within : HasKeptTo (tend_acts K (stepped_file K w.n f) spelling) b c → HasKeptTo (end_acts K f spelling) a c
      walked_within passed = subst (λ l. HasKeptTo l a c) rest.1 (within_first (steps_acts K w.n f spelling ++ tend_acts K (stepped_file K w.n f) spelling) rest.0 a c
          (within_then (steps_acts K w.n f spelling) (tend_acts K (stepped_file K w.n f) spelling) a b c w.went later w.passed passed))

  module _ (f : File H S) (spelling : List ℕ) (places : Places) (a b : View) (single : in_progress places.checkpoint ≡ false) (w : Walked f spelling places a b) where
    same : (end_acts K f spelling ≡ steps_acts K w.n f spelling) × (ended_file K f ≡ stepped_file K w.n f)
    same = steps_ended w.n f spelling (sym w.are.are.turned ∙ single)

    pub all_made : HasMade (end_acts K f spelling) a b
    all_made = subst (λ l. HasMade l a b) (sym same.0) w.went

    pub all_within : HasKeptTo (end_acts K f spelling) a b
    all_within = subst (λ l. HasKeptTo l a b) (sym same.0) w.passed

    pub all_file : AreOf K (ended_file K f) places
    all_file = subst (λ g. AreOf K g places) (sym same.1) w.are

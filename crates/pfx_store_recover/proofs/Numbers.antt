-- The bytes behind a gate, and what is chosen by them.
use Rattle.std.proofs.Common.{◌≡◌, ℕ, ◌+◌, ◌≤◌, List, get_or, take, drop, ◌∙◌, ap, refl, sym, arith, Bool, true, false, not, cond}
use Rattle.std.proofs.lemmas.List.{drop-take, drop-drop, get_or-take, get_or-drop, take-take}
use Rattle.pfx_store_image.specs.Codec.{Codec}
use Rattle.pfx_store_image.specs.Layout.{area_at, segment_at, is_open, first_at, body_at}
use Rattle.pfx_store_image.specs.Recovery.{taken, begun, area_taken, segment_begun}
use Rattle.pfx_store_recover.specs.Formats.{Bounds}

pub first_is : (at : ℕ) (read contents bytes : List ℕ) → contents ≡ bytes → read ≡ take 9 (drop at contents) → take 8 (drop 1 read) ≡ first_at at bytes
first_is at read contents bytes same is =
    ap (λ (l : List ℕ). take 8 (drop 1 l)) is
    ∙ ap (λ (l : List ℕ). take 8 l) (drop-take 1 8 (drop at contents))
    ∙ take-take 8 8 (drop 1 (drop at contents)) (omega arith)
    ∙ ap (λ (l : List ℕ). take 8 l) (drop-drop 1 at contents)
    ∙ ap (λ (l : List ℕ). take 8 (drop (at + 1) l)) same

-- the gate that was read with them
pub gate_read : (at : ℕ) (read contents bytes : List ℕ) → contents ≡ bytes → read ≡ take 9 (drop at contents) → get_or read 0 0 ≡ get_or bytes at 0
gate_read at read contents bytes same is =
    ap (λ (l : List ℕ). get_or l 0 0) is
    ∙ get_or-take 9 (drop at contents) 0 0 (omega arith)
    ∙ get_or-drop at contents 0 0
    ∙ ap (λ (k : ℕ). get_or contents k 0) (none at)
    ∙ ap (λ (l : List ℕ). get_or l at 0) same
  where
    none : (n : ℕ) → n + 0 ≡ n
    none n = omega arith

-- of two, the one that wasn't chosen
pub other_is : {A : Type 0} (f : Bool → A) (a b : A) (second : Bool) → a ≡ f false → b ≡ f true → cond second a b ≡ f (not second)
other_is f a b true low high = low
other_is f a b false low high = high

taken_same : (p q r s : ℕ) (g h i j : Bool) (a b c d : ℕ) → p ≡ r → q ≡ s → g ≡ i → h ≡ j → a ≡ c → b ≡ d → taken p q g h a b ≡ taken r s i j c d
taken_same p q r s g h i j a b c d p_is q_is g_is h_is a_is b_is = rw p_is (rw q_is (rw g_is (rw h_is (rw a_is (rw b_is refl)))))

begun_same : (n p q r s : ℕ) (g h i j : Bool) (a b c d : ℕ) → p ≡ r → q ≡ s → g ≡ i → h ≡ j → a ≡ c → b ≡ d → begun p q g h n a b ≡ begun r s i j n c d
begun_same n p q r s g h i j a b c d p_is q_is g_is h_is a_is b_is = rw p_is (rw q_is (rw g_is (rw h_is (rw a_is (rw b_is refl)))))

module _ {H S : Type 0} (K : Codec H S) (h : H) (bytes : List ℕ) where
  open_is : (p r : ℕ) (g : Bool) → p ≡ r → g ≡ is_open p bytes → g ≡ is_open r bytes
  open_is p r g place is = is ∙ ap (λ (k : ℕ). is_open k bytes) place

  -- the number of a checkpoint area is read from its first eight bytes
  number_is : (fits : H → S → Type 0) (most : ℕ) → Bounds K fits most → (p at a : ℕ) (m : List ℕ) → p ≡ at → 8 ≤ (K.layout h).body → m ≡ first_at p bytes → a ≡ K.area_number m → a ≡ K.area_number (body_at (K.layout h) at bytes)
  number_is fits most bounds p at a m place long is of =
      of ∙ ap (λ (l : List ℕ). K.area_number l) is ∙ ap (λ (k : ℕ). K.area_number (first_at k bytes)) place
      ∙ ap (λ (l : List ℕ). K.area_number l) (sym (take-take 8 (K.layout h).body (drop (at + 1) bytes) long)) ∙ bounds.eight (body_at (K.layout h) at bytes)

  pub area_taken_by : (fits : H → S → Type 0) (most : ℕ) → Bounds K fits most → 8 ≤ (K.layout h).body
      → (p q : ℕ) (g j : Bool) (a b : ℕ) (m n : List ℕ) → p ≡ area_at (K.layout h) false → q ≡ area_at (K.layout h) true → g ≡ is_open p bytes → j ≡ is_open q bytes
      → m ≡ first_at p bytes → n ≡ first_at q bytes → a ≡ K.area_number m → b ≡ K.area_number n → taken p q g j a b ≡ area_taken K h bytes
  area_taken_by fits most bounds long p q g j a b m n p_is q_is g_is j_is m_is n_is a_is b_is =
      taken_same p q (area_at (K.layout h) false) (area_at (K.layout h) true) g j _ _ a b _ _ p_is q_is (open_is p _ g p_is g_is) (open_is q _ j q_is j_is)
      (number_is fits most bounds p _ a m p_is long m_is a_is) (number_is fits most bounds q _ b n q_is long n_is b_is)

  pub area_open_by : (p q : ℕ) (g j : Bool) (second is_second other : Bool) → p ≡ area_at (K.layout h) false → q ≡ area_at (K.layout h) true → g ≡ is_open p bytes → j ≡ is_open q bytes
      → second ≡ is_second → other ≡ cond is_second g j → other ≡ is_open (area_at (K.layout h) (not second)) bytes
  area_open_by p q g j second is_second other p_is q_is g_is j_is same is =
      is ∙ other_is (λ b. is_open (area_at (K.layout h) b) bytes) g j is_second (open_is p _ g p_is g_is) (open_is q _ j q_is j_is)
      ∙ ap (λ b. is_open (area_at (K.layout h) (not b)) bytes) (sym same)

  first_number : (p at a : ℕ) (m : List ℕ) → p ≡ at → m ≡ first_at p bytes → a ≡ K.segment_number m → a ≡ K.segment_number (first_at at bytes)
  first_number p at a m place is of = of ∙ ap (λ (l : List ℕ). K.segment_number l) is ∙ ap (λ (k : ℕ). K.segment_number (first_at k bytes)) place

  pub segment_begun_by : (number p q : ℕ) (g j : Bool) (a b : ℕ) (m n : List ℕ) → p ≡ segment_at (K.layout h) false → q ≡ segment_at (K.layout h) true → g ≡ is_open p bytes → j ≡ is_open q bytes
      → m ≡ first_at p bytes → n ≡ first_at q bytes → a ≡ K.segment_number m → b ≡ K.segment_number n → begun p q g j number a b ≡ segment_begun K h bytes number
  segment_begun_by number p q g j a b m n p_is q_is g_is j_is m_is n_is a_is b_is =
      begun_same number p q (segment_at (K.layout h) false) (segment_at (K.layout h) true) g j _ _ a b _ _ p_is q_is (open_is p _ g p_is g_is) (open_is q _ j q_is j_is)
      (first_number p _ a m p_is m_is a_is) (first_number q _ b n q_is n_is b_is)

  pub segment_open_by : (p q : ℕ) (g j : Bool) (second is_second other : Bool) → p ≡ segment_at (K.layout h) false → q ≡ segment_at (K.layout h) true → g ≡ is_open p bytes → j ≡ is_open q bytes
      → second ≡ is_second → other ≡ cond is_second g j → other ≡ is_open (segment_at (K.layout h) (not second)) bytes
  segment_open_by p q g j second is_second other p_is q_is g_is j_is same is =
      is ∙ other_is (λ b. is_open (segment_at (K.layout h) b) bytes) g j is_second (open_is p _ g p_is g_is) (open_is q _ j q_is j_is)
      ∙ ap (λ b. is_open (segment_at (K.layout h) (not b)) bytes) (sym same)

  pub segment_number_by : (p q a b : ℕ) (m n : List ℕ) (second is_second : Bool) (other : ℕ) → p ≡ segment_at (K.layout h) false → q ≡ segment_at (K.layout h) true
      → m ≡ first_at p bytes → n ≡ first_at q bytes → a ≡ K.segment_number m → b ≡ K.segment_number n
      → second ≡ is_second → other ≡ cond is_second a b → other ≡ K.segment_number (first_at (segment_at (K.layout h) (not second)) bytes)
  segment_number_by p q a b m n second is_second other p_is q_is m_is n_is a_is b_is same is =
      is ∙ other_is (λ s. K.segment_number (first_at (segment_at (K.layout h) s) bytes)) a b is_second (first_number p _ a m p_is m_is a_is) (first_number q _ b n q_is n_is b_is)
      ∙ ap (λ s. K.segment_number (first_at (segment_at (K.layout h) (not s)) bytes)) (sym same)

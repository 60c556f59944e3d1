-- A slot more behind windows: it joins the last one, or begins another.
use Rattle.std.proofs.Common.{◌≡◌, ◌∙◌, if◌then◌else◌, Bool, true, false, List, [], ◌∷◌, ◌++◌, refl, ap, ap₂, sym, append_assoc, append-nil, subst}
use Rattle.std.specs.List.{filter}
use Rattle.std.proofs.lemmas.List.Elements.{filter-append}
use Rattle.pfx_replay_totals.specs.Choices.{is_asked}
use Rattle.pfx_replay_totals.specs.Slots.{Slot}
use Rattle.pfx_replay_totals.specs.Windows.{Window, alone, joins, windows, windows_behind, windows_from, with_slot}
use Rattle.pfx_replay_totals.specs.declared.choice.Choice.{Choice}

abbrev closed_behind : Choice → Window → List Slot → List Window
closed_behind c w [] = []
closed_behind c w (s ∷ slots) = if joins c w s then closed_behind c (with_slot w s) slots else w ∷ closed_behind c (alone s) slots

abbrev last_behind : Choice → Window → List Slot → Window
last_behind c w [] = w
last_behind c w (s ∷ slots) = if joins c w s then last_behind c (with_slot w s) slots else last_behind c (alone s) slots

-- the last window with a slot more, or that and the window of the slot
abbrev pub last_two : Choice → Window → Slot → List Window
last_two c w s = if joins c w s then with_slot w s ∷ [] else w ∷ alone s ∷ []

parts_by : (b : Bool) (xs ys us vs : List Window) (l m w : Window) → xs ≡ us ++ l ∷ [] → ys ≡ vs ++ m ∷ [] →
    (if b then xs else w ∷ ys) ≡ (if b then us else w ∷ vs) ++ (if b then l else m) ∷ []
parts_by true xs ys us vs l m w h k = h
parts_by false xs ys us vs l m w h k = ap (λ ws. w ∷ ws) k

parts : (c : Choice) (w : Window) (slots : List Slot) → windows_behind c w slots ≡ closed_behind c w slots ++ last_behind c w slots ∷ []
parts c w [] = refl
parts c w (s ∷ slots) = parts_by (joins c w s) _ _ _ _ _ _ w (parts c (with_slot w s) slots) (parts c (alone s) slots)

more_by : (c : Choice) (t : Slot) (b : Bool) (xs ys us vs : List Window) (l m w : Window) → xs ≡ us ++ last_two c l t → ys ≡ vs ++ last_two c m t →
    (if b then xs else w ∷ ys) ≡ (if b then us else w ∷ vs) ++ last_two c (if b then l else m) t
more_by c t true xs ys us vs l m w h k = h
more_by c t false xs ys us vs l m w h k = ap (λ ws. w ∷ ws) k

parts_more : (c : Choice) (w : Window) (slots : List Slot) (t : Slot) → windows_behind c w (slots ++ t ∷ []) ≡ closed_behind c w slots ++ last_two c (last_behind c w slots) t
parts_more c w [] t = refl
parts_more c w (s ∷ slots) t = more_by c t (joins c w s) _ _ _ _ _ _ w (parts_more c (with_slot w s) slots t) (parts_more c (alone s) slots t)

not_none : {X : Type 0} (xs : List X) (x : X) → xs ++ x ∷ [] ≡ [] → ⊥
not_none [] x e = cc
not_none (y ∷ xs) x e = cc

-- lists with an element at the end
ends : {X : Type 0} (xs ys : List X) (x y : X) → xs ++ x ∷ [] ≡ ys ++ y ∷ [] → (xs ≡ ys) × (x ≡ y)
ends [] [] x y e = (refl, cc)
ends [] (z ∷ ys) x y e = let n : ys ++ y ∷ [] ≡ [] = cc in absurd (not_none ys y n)
ends (z ∷ xs) [] x y e = let n : xs ++ x ∷ [] ≡ [] = cc in absurd (not_none xs x n)
ends (z ∷ xs) (v ∷ ys) x y e =
    let first : z ≡ v = cc in
    let rest : xs ++ x ∷ [] ≡ ys ++ y ∷ [] = cc in
    let h = ends xs ys x y rest in
    (ap₂ (λ a rest. a ∷ rest) first h.0, h.1)

behind_more : (c : Choice) (w : Window) (slots : List Slot) (t : Slot) (closed : List Window) (last : Window) → windows_behind c w slots ≡ closed ++ last ∷ [] →
    windows_behind c w (slots ++ t ∷ []) ≡ closed ++ last_two c last t
behind_more c w slots t closed last e =
    let h = ends (closed_behind c w slots) closed (last_behind c w slots) last (sym (parts c w slots) ∙ e) in
    parts_more c w slots t ∙ ap₂ (λ ws v. ws ++ last_two c v t) h.0 h.1

from_more : (c : Choice) (slots : List Slot) (t : Slot) (closed : List Window) (last : Window) → windows_from c slots ≡ closed ++ last ∷ [] →
    windows_from c (slots ++ t ∷ []) ≡ closed ++ last_two c last t
from_more c [] t closed last e = absurd (not_none closed last (sym e))
from_more c (s ∷ slots) t closed last e = behind_more c (alone s) slots t closed last e

from_first : (c : Choice) (slots : List Slot) (t : Slot) → windows_from c slots ≡ [] → windows_from c (slots ++ t ∷ []) ≡ alone t ∷ []
from_first c [] t e = refl
from_first c (s ∷ slots) t e = absurd (not_none (closed_behind c (alone s) slots) (last_behind c (alone s) slots) (sym (parts c (alone s) slots) ∙ e))

module _ (c : Choice) (seen : List Slot) (t : Slot) where
  filtered : {b : Bool} → is_asked c t.at ≡ b → filter (λ s. is_asked c s.at) (seen ++ t ∷ []) ≡ filter (λ s. is_asked c s.at) seen ++ (if b then t ∷ [] else [])
  filtered e = filter-append (λ s. is_asked c s.at) seen (t ∷ []) ∙ ap (λ (b : Bool). filter (λ s. is_asked c s.at) seen ++ (if b then t ∷ [] else [])) e

  pub unasked : is_asked c t.at ≡ false → windows c (seen ++ t ∷ []) ≡ windows c seen
  unasked e = ap (windows_from c) (filtered e ∙ append-nil (filter (λ s. is_asked c s.at) seen))

  pub asked_first : is_asked c t.at ≡ true → windows c seen ≡ [] → windows c (seen ++ t ∷ []) ≡ alone t ∷ []
  asked_first e none = ap (windows_from c) (filtered e) ∙ from_first c (filter (λ s. is_asked c s.at) seen) t none

  pub asked_more : (closed : List Window) (last : Window) → is_asked c t.at ≡ true → windows c seen ≡ closed ++ last ∷ [] → windows c (seen ++ t ∷ []) ≡ closed ++ last_two c last t
  asked_more closed last e are = ap (windows_from c) (filtered e) ∙ from_more c (filter (λ s. is_asked c s.at) seen) t closed last are

-- What holds of all windows and figures.
use Rattle.std.proofs.Common.{◌≡◌, ◌≤◌, ◌<◌, ◌∙◌, ℕ, ◌+◌, ◌&&◌, not, cond, Bool, true, false, List, [], ◌∷◌, ◌++◌, length, max, Option, Some, None, refl, ap, sym, subst, arith, append_assoc, append-nil, length-append, eqb-true, ltb-true}
use Rattle.std.specs.Prelude.{if◌then◌else◌, nat_lt, ◌==◌, ⊤}
use Rattle.std.specs.List.{All, count_by, filter, flat_map, fold}
use Rattle.std.proofs.lemmas.List.Elements.{All-cons, All-nil, All-push}
use Rattle.pfx_replay_totals.specs.Choices.{is_asked, is_below}
use Rattle.pfx_replay_totals.specs.Figures.{figures_of}
use Rattle.pfx_replay_totals.specs.Slots.{Slot, share_of}
use Rattle.pfx_replay_totals.specs.Windows.{Window, alone, end_of, joins, slots_of, windows, windows_behind, windows_from, with_slot}
use Rattle.pfx_replay_totals.specs.Laws.{IsOneSet, IsShort}
use Rattle.pfx_replay_totals.specs.declared.choice.Choice.{Choice}

split : (f g h : Slot → ℕ) → ((s : Slot) → f s ≡ g s + h s) → (a b c : ℕ) → a ≡ b + c → (xs : List Slot) →
    fold (λ n s. n + f s) a xs ≡ fold (λ n s. n + g s) b xs + fold (λ n s. n + h s) c xs
split f g h each a b c e [] = e
split f g h each a b c e (s ∷ xs) = split f g h each (a + f s) (b + g s) (c + h s) (omega (arith, e, each s)) xs

halves : (p q : Bool) → cond p 1 0 ≡ cond (p && q) 1 0 + cond (p && not q) 1 0
halves true true = refl
halves true false = refl
halves false q = refl

pub got_split : (w : Window) (x : ℕ) → (figures_of w x).got ≡ (figures_of w x).used + (figures_of w x).wasted
got_split w x =
    split (λ s. cond (share_of s x).got 1 0) (λ s. cond ((share_of s x).got && (share_of s x).busy) 1 0) (λ s. cond ((share_of s x).got && not (share_of s x).busy) 1 0)
    (λ s. halves (share_of s x).got (share_of s x).busy) 0 0 0 refl (slots_of w)

-- nothing is lost, and nothing comes twice
whole_by : (b : Bool) (w : Window) (s : Slot) (slots : List Slot) (xs ys : List Window) → flat_map slots_of xs ≡ slots_of (with_slot w s) ++ slots → flat_map slots_of ys ≡ s ∷ slots →
    flat_map slots_of (if b then xs else w ∷ ys) ≡ slots_of w ++ s ∷ slots
whole_by true w s slots xs ys h k = h ∙ ap (λ ss. w.first ∷ ss) (append_assoc w.others (s ∷ []) slots)
whole_by false w s slots xs ys h k = ap (λ ss. slots_of w ++ ss) k

whole_behind : (c : Choice) (w : Window) (slots : List Slot) → flat_map slots_of (windows_behind c w slots) ≡ slots_of w ++ slots
whole_behind c w [] = refl
whole_behind c w (s ∷ slots) = whole_by (joins c w s) w s slots _ _ (whole_behind c (with_slot w s) slots) (whole_behind c (alone s) slots)

whole_from : (c : Choice) (slots : List Slot) → flat_map slots_of (windows_from c slots) ≡ slots
whole_from c [] = refl
whole_from c (s ∷ slots) = whole_behind c (alone s) slots

pub whole : (c : Choice) (slots : List Slot) → flat_map slots_of (windows c slots) ≡ filter (λ s. is_asked c s.at) slots
whole c slots = whole_from c (filter (λ s. is_asked c s.at) slots)

-- what holds of a window of one slot, and is kept by each slot that joins, holds of all
module _ (c : Choice) (P : Window → Type 0) (one : (s : Slot) → P (alone s)) (more : (w : Window) (s : Slot) → P w → joins c w s ≡ true → P (with_slot w s)) where
  all_by : (b : Bool) (w : Window) (s : Slot) (xs ys : List Window) → joins c w s ≡ b → P w → (P (with_slot w s) → All P xs) → All P ys → All P (if b then xs else w ∷ ys)
  all_by true w s xs ys e p f k = f (more w s p e)
  all_by false w s xs ys e p f k = All-cons P w ys p k

  all_behind : (w : Window) (slots : List Slot) → P w → All P (windows_behind c w slots)
  all_behind w [] p = All-cons P w [] p (All-nil P)
  all_behind w (s ∷ slots) p = all_by (joins c w s) w s _ _ refl p (λ q. all_behind (with_slot w s) slots q) (all_behind (alone s) slots (one s))

  all_from : (slots : List Slot) → All P (windows_from c slots)
  all_from [] = All-nil P
  all_from (s ∷ slots) = all_behind (alone s) slots (one s)

both : (a b : Bool) → (a && b) ≡ true → (a ≡ true) × (b ≡ true)
both true b e = (refl, e)
both false b e = cc

joined : (c : Choice) (w : Window) (s : Slot) → joins c w s ≡ true → (s.since ≡ w.first.since) × (is_below (length (slots_of w)) c.every ≡ true)
joined c w s e =
    let h = both (s.at == end_of w) _ e in
    let k = both (s.since == w.first.since) _ h.1 in
    (eqb-true s.since w.first.since k.0, k.1)

pub one_set : (c : Choice) (slots : List Slot) → All IsOneSet (windows c slots)
one_set c slots = all_from c IsOneSet (λ s. All-nil (λ t. t.since ≡ s.since)) (λ w s p e. All-push (λ t. t.since ≡ w.first.since) w.others s p (joined c w s e).0) (filter (λ s. is_asked c s.at) slots)

longer : (limit : Option ℕ) (n : ℕ) → is_below n limit ≡ true → IsShort limit (n + 1)
longer None n e = tt
longer (Some limit) n e = omega (arith, ltb-true n limit e)

pub short : (c : Choice) (slots : List Slot) → All (λ w. IsShort c.every (length (slots_of w))) (windows c slots)
short c slots = all_from c (λ w. IsShort c.every (length (slots_of w))) (λ s. one_short c.every) (λ w s p e. subst (IsShort c.every) (sym (longest w s)) (longer c.every (length (slots_of w)) (joined c w s e).1)) (filter (λ s. is_asked c s.at) slots) where
  one_short : (limit : Option ℕ) → IsShort limit 1
  one_short None = tt
  one_short (Some limit) = omega arith

  longest : (w : Window) (s : Slot) → length (slots_of (with_slot w s)) ≡ length (slots_of w) + 1
  longest w s = omega (arith, length-append w.others (s ∷ []))

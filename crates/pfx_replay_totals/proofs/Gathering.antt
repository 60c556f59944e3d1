-- A slot more in a window, and the figures.
use Rattle.std.proofs.Common.{◌≡◌, ℕ, zero, suc, ◌+◌, ◌&&◌, ◌∙◌, not, Bool, true, false, cond, List, [], ◌∷◌, ◌++◌, length, map, refl, ap, ap₂, sym, arith, length-append}
use Rattle.std.specs.List.{count_by, fold, range_with_len}
use Rattle.std.proofs.lemmas.List.{map-append}
use Rattle.std.proofs.lemmas.List.Sums.{fold-append}
use Rattle.std.proofs.lemmas.List.FromFn.{map-range_with_len_more}
use Rattle.pfx_weights.specs.Rows.{one}
use Rattle.pfx_replay_totals.specs.Adding.{begun, more}
use Rattle.pfx_replay_totals.specs.Figures.{Figures, all_figures, figures_of, first_lag, greater, lags_of, lesser}
use Rattle.pfx_replay_totals.specs.Slots.{Slot, share_of}
use Rattle.pfx_replay_totals.specs.Windows.{Window, alone, end_of, slots_of, with_slot}
use Rattle.std.specs.Prelude.{ℤ}

abbrev made : ℕ → ℕ → ℕ → ℕ → ℕ → ℕ → ℕ → ℕ → ℤ → ℤ → ℤ → Figures
made from task e p to got used wasted least greatest last = record {
  from = from;
  to = to;
  task = task;
  e = e;
  p = p;
  got = got;
  used = used;
  wasted = wasted;
  least = least;
  greatest = greatest;
  last = last;
}

-- figures whose counts and lags are the same are the same
same : (from task e p : ℕ) {a b c d a' b' c' d' : ℕ} {l m n l' m' n' : ℤ} → a ≡ a' → b ≡ b' → c ≡ c' → d ≡ d' → l ≡ l' → m ≡ m' → n ≡ n' →
    made from task e p a b c d l m n ≡ made from task e p a' b' c' d' l' m' n'
same from task e p h1 h2 h3 h4 h5 h6 h7 = cc

one_is : (b : Bool) → one b ≡ cond b 1 0
one_is true = refl
one_is false = refl

one_alone : (b : Bool) → one b ≡ 0 + cond b 1 0
one_alone true = refl
one_alone false = refl

pub begun_is : (s : Slot) (x : ℕ) → begun s.at x (share_of s x) ≡ figures_of (alone s) x
begun_is s x =
    let got = (share_of s x).got in
    let busy = (share_of s x).busy in
    same s.at x (share_of s x).e (share_of s x).p refl (one_alone got) (one_alone (got && busy)) (one_alone (got && not busy)) refl refl refl

count_more : (p : Slot → Bool) (xs : List Slot) (s : Slot) → count_by p xs + one (p s) ≡ count_by p (xs ++ s ∷ [])
count_more p xs s = ap (λ n. count_by p xs + n) (one_is (p s)) ∙ sym (fold-append _ 0 xs (s ∷ []))

lag_more : (f : ℤ → ℤ → ℤ) (w : Window) (s : Slot) (x : ℕ) →
    f (fold f (first_lag w x) (lags_of w x)) (share_of s x).lag ≡ fold f (first_lag w x) (lags_of (with_slot w s) x)
lag_more f w s x =
    sym (ap (fold f (first_lag w x)) (map-append (λ s. (share_of s x).lag) w.others (s ∷ [])) ∙ fold-append f (first_lag w x) (lags_of w x) ((share_of s x).lag ∷ []))

pub end_more : (w : Window) (s : Slot) → end_of w + 1 ≡ end_of (with_slot w s)
end_more w s = omega (arith, length-append w.others (s ∷ []))

pub more_is : (w : Window) (s : Slot) (x : ℕ) → more (figures_of w x) (share_of s x) ≡ figures_of (with_slot w s) x
more_is w s x =
    same w.first.at x (share_of w.first x).e (share_of w.first x).p (end_more w s)
    (count_more (λ s. (share_of s x).got) (slots_of w) s)
    (count_more (λ s. (share_of s x).got && (share_of s x).busy) (slots_of w) s)
    (count_more (λ s. (share_of s x).got && not (share_of s x).busy) (slots_of w) s)
    (lag_more lesser w s x) (lag_more greater w s x) (lag_more (λ y z. z) w s x)

-- the figures of the tasks from x on, with each one's share of a slot more
abbrev pub mores : Slot → ℕ → List Figures → List Figures
mores s x [] = []
mores s x (f ∷ fs) = more f (share_of s x) ∷ mores s (x + 1) fs

pub mores_end : (s : Slot) (x : ℕ) (fs : List Figures) (f : Figures) → mores s x (fs ++ f ∷ []) ≡ mores s x fs ++ more f (share_of s (x + length fs)) ∷ []
mores_end s x [] f = ap (λ (y : ℕ). more f (share_of s y) ∷ []) (omega arith)
mores_end s x (g ∷ fs) f = ap (λ gs. more g (share_of s x) ∷ gs) (mores_end s (x + 1) fs f ∙ ap (λ (y : ℕ). mores s (x + 1) fs ++ more f (share_of s y) ∷ []) (omega arith))

mores_of : (w : Window) (s : Slot) (x n : ℕ) → mores s x (map (figures_of w) (range_with_len x n)) ≡ map (figures_of (with_slot w s)) (range_with_len x n)
mores_of w s x zero = refl
mores_of w s x (suc n) = ap₂ (λ f fs. f ∷ fs) (more_is w s x) (mores_of w s (x + 1) n)

pub all_more : (w : Window) (s : Slot) → mores s 0 (all_figures w) ≡ all_figures (with_slot w s)
all_more w s = mores_of w s 0 (length w.first.shares)

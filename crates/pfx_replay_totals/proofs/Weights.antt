-- The numbers of a ledger's tasks are in range.
use Rattle.std.proofs.Common.{◌≡◌, ℕ, ◌+◌, ◌<◌, ◌≤◌, ◌^◌, ◌∙◌, length, get_or, sym, subst, arith}
use Rattle.std.proofs.lemmas.List.{get_or_default}
use Rattle.std.specs.Prelude.{Bool, ℤ}
use Rattle.pfx_columns.specs.Ledgers.{Ledger, IsLedger, task, total}
use Rattle.pfx_columns.proofs.Shown.{filled_weight}
use Rattle.pfx_columns.proofs.Steps.{fair_below}
use Rattle.pfx_replay_totals.specs.declared.share.SlotShare.{SlotShare}

module _ (g : Ledger) (x : ℕ) (kept : IsLedger g) (real : x < g.set.real) where
  pub within : x < total g
  within = omega (arith, real, kept.set.front)

  pub weight_kept : (w : ℕ × ℕ) → w ≡ get_or g.set.weights x w → (w.0 < w.1) × (w.1 ≤ 2 ^ 20)
  weight_kept w is =
      let h = filled_weight g.set x kept.set within in
      subst (λ (v : ℕ × ℕ). (v.0 < v.1) × (v.1 ≤ 2 ^ 20)) (sym (is ∙ get_or_default g.set.weights x w (0, 0) within)) (h.0.1, h.1)

  pub got_few : (a : ℕ) → a ≡ get_or g.allocs x a → a < g.slot + 1
  got_few a is =
      let h = filled_weight g.set x kept.set within in
      let below = fair_below (task g x).e (task g x).p (task g x).alloc g.slot h.0.1 (kept.fair x within) in
      let same = is ∙ get_or_default g.allocs x a 0 (omega (arith, kept.length, within)) in
      omega (arith, below, same)

  pub weight_is : (w : ℕ × ℕ) → w ≡ get_or g.set.weights x w → w ≡ get_or g.set.weights x (0, 0)
  weight_is w is = is ∙ get_or_default g.set.weights x w (0, 0) within

  pub got_is : (a : ℕ) → a ≡ get_or g.allocs x a → a ≡ get_or g.allocs x 0
  got_is a is = is ∙ get_or_default g.allocs x a 0 (omega (arith, kept.length, within))

abbrev pub made : ℕ → ℕ → Bool → Bool → ℤ → SlotShare
made e p got busy lag = record { e = e; p = p; got = got; busy = busy; lag = lag }

pub same_share : {e p e' p' : ℕ} {got busy got' busy' : Bool} {lag lag' : ℤ} → e ≡ e' → p ≡ p' → got ≡ got' → busy ≡ busy' → lag ≡ lag' → made e p got busy lag ≡ made e' p' got' busy' lag'
same_share h1 h2 h3 h4 h5 = cc

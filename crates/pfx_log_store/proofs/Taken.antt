-- A frame that is taken, beside those that are copied.
use Rattle.std.proofs.Common.{◌≡◌, ◌⊎◌, ⊎_elim, ℕ, ◌+◌, ◌≤◌, sym, ap, arith, Bool, true, false, Result, Ok, Err, refl}
use Rattle.std.specs.Prelude.{OnOk, IsErrOf, ◌↔◌}
use Rattle.std.specs.Result.{is_ok}
use Rattle.std.proofs.lemmas.Bool.{cases_lt, true≢false}
use Rattle.pfx_store_file.specs.Fitting.{HasRoom}
use Rattle.pfx_store_file.specs.Tending.{TakesFrame}
use Rattle.pfx_store_file.specs.declared.faults.StoreFault.{StoreFault}
use Rattle.pfx_store_file.specs.declared.faults.StoreFault.TheVariants.{Broken}
use Rattle.pfx_store_file.specs.declared.places.Places.{Places}
use Rattle.pfx_log_store.specs.Fitting.{FitsIn}

-- of a call that went well
pub of_ok : {T E X : Type 0} (r : Result T E) → is_ok r ≡ true → OnOk r X → X
of_ok (Ok v) well x = x
of_ok (Err e) well x = absurd (true≢false (sym well))

pub was_whole : {T : Type 0} (r : Result T StoreFault) (was : Bool) → is_ok r ≡ true → IsErrOf r Broken ↔ (was ≡ true) → was ≡ false
was_whole r false well broken = refl
was_whole (Ok v) true well broken = absurd (let e = broken.1 refl in cc)
was_whole (Err e) true well broken = absurd (true≢false (sym well))

-- it fits in behind them, or comes first in the segment that was turned to
pub fits_more : (copied n : ℕ) (old new : Places) → HasRoom n old ⊎ (copied ≡ 0) → TakesFrame n old new → new.sizes ≡ old.sizes → FitsIn copied old → FitsIn (copied + n) new
fits_more copied n old new ready takes sizes fits = ⊎_elim there turned (cases_lt (old.gate + n) old.end)
  where
    long : new.sizes.segment ≡ old.sizes.segment
    long = ap (λ s. s.segment) sizes

    there : HasRoom n old → FitsIn (copied + n) new
    there room = (let m = takes.room room in omega (arith, m.gate, m.end, long, fits))

    turned : old.end ≤ old.gate + n → FitsIn (copied + n) new
    turned full =
        let none : ¬ HasRoom n old = λ room. omega (arith, full, room) in
        let empty : copied ≡ 0 = ⊎_elim (λ room. absurd (none room)) (λ e. e) ready in
        omega (arith, (takes.full none).gate, empty)

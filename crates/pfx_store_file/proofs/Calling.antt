-- How a call on a store's file answers.
use Rattle.std.proofs.Common.{◌≡◌, sym, ◌∙◌, refl, Bool, true, false, Result, Ok, Err}
use Rattle.std.specs.Prelude.{IsErrAnd}
use Rattle.std.proofs.lemmas.Bool.{false≢true}
use Rattle.pfx_disk.specs.Disk.{View, HasFailed}
use Rattle.pfx_store_file.specs.Calls.{Works}
use Rattle.pfx_store_file.specs.declared.faults.StoreFault.{StoreFault}
use Rattle.pfx_store_file.specs.declared.faults.StoreFault.TheVariants.{Device, Broken}

abbrev fault : {T : Type 0} → StoreFault → Result T StoreFault
fault e = Err e

other_fault : {T : Type 0} {C : Type 0} (e : StoreFault) (result : Result T StoreFault) → e ≡ Device → result ≡ Err e → result ≡ Err Broken → C
other_fault e result is here there = cc

-- the disk failed within a call on a file that wasn't broken
pub works_failed : {T : Type 0} (old new : View) (was : Bool) (result : Result T StoreFault) → was ≡ false → HasFailed old new → IsErrAnd result (λ e. e ≡ Device) → Works old new was true result
works_failed old new was (Ok t) whole failed device = absurd device
works_failed old new was (Err e) whole failed device = record {
  whole = λ is. absurd (false≢true is);
  device = λ _. failed;
  breaks = λ _. refl;
  broken = (λ is. other_fault e (Err e) device refl is, λ is. absurd (false≢true (sym whole ∙ is)));
}

handed_back : {F T : Type 0} (e x : StoreFault) (inner : Result F StoreFault) (f : StoreFault) → inner ≡ Err e → x ≡ e → fault {T = T} x ≡ fault f → inner ≡ Err f
handed_back e x inner f was same is = cc

handed_on : {F T : Type 0} (e x : StoreFault) (inner : Result F StoreFault) (f : StoreFault) → inner ≡ Err e → x ≡ e → inner ≡ Err f → fault {T = T} x ≡ fault f
handed_on e x inner f was same is = cc

-- the fault of a call within a call is handed on
pub works_handed : {F T : Type 0} (old new : View) (was is : Bool) (inner : Result F StoreFault) (result : Result T StoreFault) (e : StoreFault) → inner ≡ Err e → IsErrAnd result (λ x. x ≡ e) → Works old new was is inner → Works old new was is result
works_handed old new was is inner (Ok t) e of same works = absurd same
works_handed {T = T} old new was is inner (Err x) e of same works = record {
  whole = λ ok. absurd (false≢true ok);
  device = λ here. works.device (handed_back {T = T} e x inner Device of same here);
  breaks = λ here. works.breaks (handed_back {T = T} e x inner Device of same here);
  broken = (λ here. works.broken.0 (handed_back {T = T} e x inner Broken of same here), λ broken. handed_on {T = T} e x inner Broken of same (works.broken.1 broken));
}

pub fault_back : {F T : Type 0} (e : StoreFault) (inner : Result F StoreFault) (result : Result T StoreFault) (f : StoreFault) → inner ≡ Err e → IsErrAnd result (λ x. x ≡ e) → result ≡ Err f → inner ≡ Err f
fault_back e inner (Ok t) f was same is = absurd same
fault_back {T = T} e inner (Err x) f was same is = handed_back {T = T} e x inner f was same is

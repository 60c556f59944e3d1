-- How runs of calls that only read go on.
use Rattle.std.proofs.Common.{◌≡◌, inl, inr, ⊎_elim, ℕ, List, length, ◌∙◌, ap, sym, subst, arith, Result, Ok, Err}
use Rattle.std.specs.Prelude.{IsErrAnd}
use Rattle.pfx_disk.specs.Disk.{View, IsHonest, Leaves, Same, HasFailed, Only, Ticks}
use Rattle.pfx_disk.specs.declared.device.DeviceFailed.{DeviceFailed}
use Rattle.pfx_disk.proofs.Steps.{leaves_then, leaves_none}
use Rattle.pfx_segment.specs.Reading.{Reads}
use Rattle.pfx_segment.specs.declared.fault.ReadFault.{ReadFault}
use Rattle.pfx_store_image.proofs.Answers.{err_same, faulty}
use Rattle.pfx_store_recover.specs.Looking.{IsKept, Looks, OnlyReads, Reaches}
use Rattle.pfx_store_recover.specs.declared.faults.OpenFault.{OpenFault}
use Rattle.pfx_store_recover.specs.declared.faults.OpenFault.TheVariants.{Device}

pub looks_then : (a b c : View) → Looks a b → Looks b c → Looks a c
looks_then a b c first second = record {
  leaves = λ h. leaves_then Same Same Same a b c first.later (λ x y is. is) (λ x y z one two. two ∙ one) (first.leaves h) (second.leaves (first.leaves h).honest);
  honest = λ h. first.honest (second.honest h);
  later = omega (arith, first.later, second.later);
  no_fewer = omega (arith, first.no_fewer, second.no_fewer);
}

pub looks_none : (a : View) → Looks a a
looks_none a = record {
  leaves = λ h. leaves_none a h;
  honest = λ h. h;
  later = omega arith;
  no_fewer = omega arith;
}

pub kept_after : (bytes : List ℕ) (a b : View) → Looks a b → IsKept bytes a → IsKept bytes b
kept_after bytes a b looks kept =
    let left = looks.leaves kept.honest in
    record {
      honest = left.honest;
      contents = left.contents ∙ kept.contents;
      only = λ image is. let d = left.now image is in d.2 ∙ kept.only d.0 d.1;
    }

pub reaches_after : (n : ℕ) (a b : View) → Looks a b → Reaches n a → Reaches n b
reaches_after n a b looks reach h =
    let before = looks.honest h in
    omega (arith, reach before, ap length (looks.leaves before).contents)

pub failed_after : (a b c : View) → Looks a b → HasFailed b c → HasFailed a c
failed_after a b c looks failed = ⊎_elim (λ rise. inl (omega (arith, looks.no_fewer, rise))) (λ spent. inr spent) failed

-- one call of a disk
pub looks_of : {T : Type 0} (a b : View) (result : Result T DeviceFailed) → Ticks a b result → (IsHonest b → IsHonest a) → (IsHonest a → Leaves Same a b) → Looks a b
looks_of a b result time honest leaves = record {
  leaves = leaves;
  honest = honest;
  later = time.later;
  no_fewer = time.no_fewer;
}

-- calls that read a frame
pub looks_read : {T : Type 0} (calls : ℕ) (a b : View) (result : Result T ReadFault) → Reads calls a b result → Looks a b
looks_read calls a b result reads = record { leaves = reads.leaves; honest = reads.honest.1; later = reads.later; no_fewer = reads.no_fewer }

-- after a sync a disk keeps what a read gives
pub synced : (a b : View) → Leaves Same a b → Only a.contents b → IsKept a.contents b
synced a b left only = record { honest = left.honest; contents = left.contents; only = only }

-- a fault of calls within, which is the call's
pub reads_handed : {T U : Type 0} (a b : View) (e : OpenFault) (result : Result U OpenFault) → OnlyReads {T = T} a b (Err e) → IsErrAnd result (λ x. x ≡ e) → OnlyReads a b result
reads_handed a b e (Ok u) reads same = absurd same
reads_handed {T = T} {U = U} a b e (Err x) reads same = subst (λ y. OnlyReads {T = U} a b (Err y)) (sym same) (record {
  looks = reads.looks;
  device = λ is. reads.device (ap (λ y. faulty {A = T} y) (err_same {A = U} e Device is));
})

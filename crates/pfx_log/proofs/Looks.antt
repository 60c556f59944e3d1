-- How runs of calls that only read go on.
use Rattle.std.proofs.Common.{◌≡◌, inl, inr, ⊎_elim, ℕ, ◌<◌, List, length, get_or, take, drop, ◌∙◌, ap, arith, Result}
use Rattle.std.proofs.Math.Seq.{drop-cons}
use Rattle.pfx_disk.specs.Disk.{View, IsHonest, Leaves, Same, HasFailed, Ticks}
use Rattle.pfx_disk.specs.declared.device.DeviceFailed.{DeviceFailed}
use Rattle.pfx_disk.proofs.Steps.{leaves_then, leaves_none}
use Rattle.pfx_log.specs.Reading.{HasLen, Keeps, Looks, Reaches}

pub looks_then : (a b c : View) → Looks a b → Looks b c → Looks a c
looks_then a b c first second = record {
  leaves = λ h. leaves_then Same Same Same a b c first.later (λ x y is. is) (λ x y z one two. two ∙ one) (first.leaves h) (second.leaves (first.leaves h).honest);
  honest = λ h. first.honest (second.honest h);
  later = omega (arith, first.later, second.later);
  no_fewer = omega (arith, first.no_fewer, second.no_fewer);
}

pub looks_none : (a : View) → Looks a a
looks_none a = record {
  leaves = λ h. leaves_none a h;
  honest = λ h. h;
  later = omega arith;
  no_fewer = omega arith;
}

pub keeps_after : (bytes : List ℕ) (a b : View) → Looks a b → Keeps bytes a → Keeps bytes b
keeps_after bytes a b looks kept = record { honest = (looks.leaves kept.honest).honest; contents = (looks.leaves kept.honest).contents ∙ kept.contents }

pub reaches_after : (n : ℕ) (a b : View) → Looks a b → Reaches n a → Reaches n b
reaches_after n a b looks reach h = let before = looks.honest h in omega (arith, reach before, ap length (looks.leaves before).contents)

pub has_len_after : (n : ℕ) (a b : View) → Looks a b → HasLen n a → HasLen n b
has_len_after n a b looks long h = let before = looks.honest h in ap length (looks.leaves before).contents ∙ long before

pub failed_after : (a b c : View) → Looks a b → HasFailed b c → HasFailed a c
failed_after a b c looks failed = ⊎_elim (λ rise. inl (omega (arith, looks.no_fewer, rise))) (λ spent. inr spent) failed

-- one call of a disk
pub looks_of : {T : Type 0} (a b : View) (result : Result T DeviceFailed) → Ticks a b result → (IsHonest b → IsHonest a) → (IsHonest a → Leaves Same a b) → Looks a b
looks_of a b result time honest leaves = record { leaves = leaves; honest = honest; later = time.later; no_fewer = time.no_fewer }

-- the byte that was read
pub byte_is : (at : ℕ) (out image : List ℕ) → at < length image → out ≡ take 1 (drop at image) → get_or out 0 0 ≡ get_or image at 0
byte_is at out image inside is = ap (λ l. get_or l 0 0) (is ∙ ap (take 1) (drop-cons image at 0 inside))

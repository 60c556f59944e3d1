-- The kind Walk: a number is drawn at each step, and says which way to go.
use Rattle.std.specs.Prelude.{◌≡◌, ℕ, ◌+◌, ◌<◌, IsTrue, refl}
use Rattle.std.proofs.Common.{zero, suc, arith, ap}
use Rattle.std.proofs.Math.Bool.{Bool-set}
use Rattle.pfx_jobs.specs.Kind.{Kind, Laws}
use Rattle.pfx_jobs.specs.Coding.{Coding, kind_by}
use Rattle.pfx_jobs.proofs.Codings.{laws_by}
use Rattle.pfx_kinds_walk.specs.Walks.{WalkFields, walk_fits, drawn, moved, walk_bytes, walk_found}
use Rattle.pfx_kinds_walk.specs.WalkBytes.{walk_fits-step, walk_found-walk_bytes, length-walk_bytes}
use Rattle.pfx_kinds_walk.specs.declared.walk.Walk.{Walk}

-- one step: one less is left, a number is drawn and the place moves; a Walk that is done stays
abbrev pub walk_next : (left seed place : ℕ) → IsTrue (walk_fits left seed place) → Walk
walk_next zero seed place fits = record { left = zero; seed = seed; place = place; fits = fits }
walk_next (suc n) seed place fits = record { left = n; seed = drawn seed; place = moved place (drawn seed); fits = walk_fits-step n seed place fits }

abbrev pub walk_stepped : Walk → Walk
walk_stepped s = walk_next s.left s.seed s.place s.fits

abbrev pub walk_coding : Coding WalkFields Walk
walk_coding = record {
  fits = λ f. walk_fits f.left f.seed f.place;
  fields = λ s. record { left = s.left; seed = s.seed; place = s.place };
  made = λ f fits. record { left = f.left; seed = f.seed; place = f.place; fits = fits };
  spelled = walk_bytes;
  found = walk_found;
}

abbrev pub walk_kind : Kind Walk
walk_kind = kind_by walk_coding (λ s. s.left) walk_stepped

counts_down : (left seed place : ℕ) (fits : IsTrue (walk_fits left seed place)) → 0 < left → (walk_next left seed place fits).left + 1 ≡ left
counts_down zero seed place fits h = absurd (omega arith)
counts_down (suc n) seed place fits h = omega arith

made_again : (s : Walk) (fits : IsTrue (walk_coding.fits (walk_coding.fields s))) → walk_coding.made (walk_coding.fields s) fits ≡ s
made_again s fits = ap (λ h. walk_coding.made (walk_coding.fields s) h) (Bool-set _ _ fits s.fits)

pub walk_laws : Laws walk_kind
walk_laws = laws_by walk_coding (record {
  fields_fit = λ s. s.fits;
  made_again = made_again;
  made_of = λ f fits. refl;
  found_again = λ s. walk_found-walk_bytes s.left s.seed s.place s.fits;
  long = λ s. length-walk_bytes _;
}) (λ s. s.left) walk_stepped (λ s h. counts_down s.left s.seed s.place s.fits h)

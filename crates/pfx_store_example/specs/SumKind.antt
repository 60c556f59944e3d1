-- The kind Sum: at each step the next number is added.
use Rattle.std.specs.Prelude.{◌≡◌, ℕ, ◌+◌, ◌<◌, IsTrue, refl}
use Rattle.std.proofs.Common.{zero, suc, arith, ap}
use Rattle.std.proofs.Math.Bool.{Bool-set}
use Rattle.pfx_jobs.specs.Kind.{Kind, Laws}
use Rattle.pfx_jobs.specs.Coding.{Coding, kind_by}
use Rattle.pfx_jobs.proofs.Codings.{laws_by}
use Rattle.pfx_store_example.specs.Sums.{SumFields, sum_fits, summed, sum_bytes, sum_found, sum_fits-step, sum_found-sum_bytes, length-sum_bytes}
use Rattle.pfx_store_example.specs.declared.sum.Sum.{Sum}

-- one step: the number that comes next is added, and one less is left; a sum that is done stays
abbrev pub sum_next : (left total : ℕ) → IsTrue (sum_fits left total) → Sum
sum_next zero total fits = record { left = zero; total = total; fits = fits }
sum_next (suc n) total fits = record { left = n; total = summed total (suc n); fits = sum_fits-step n total fits }

abbrev pub sum_stepped : Sum → Sum
sum_stepped s = sum_next s.left s.total s.fits

abbrev pub sum_coding : Coding SumFields Sum
sum_coding = record {
  fits = λ f. sum_fits f.left f.total;
  fields = λ s. record { left = s.left; total = s.total };
  made = λ f fits. record { left = f.left; total = f.total; fits = fits };
  spelled = sum_bytes;
  found = sum_found;
}

abbrev pub sum_kind : Kind Sum
sum_kind = kind_by sum_coding (λ s. s.left) sum_stepped

counts_down : (left total : ℕ) (fits : IsTrue (sum_fits left total)) → 0 < left → (sum_next left total fits).left + 1 ≡ left
counts_down zero total fits h = absurd (omega arith)
counts_down (suc n) total fits h = omega arith

made_again : (s : Sum) (fits : IsTrue (sum_coding.fits (sum_coding.fields s))) → sum_coding.made (sum_coding.fields s) fits ≡ s
made_again s fits = ap (λ h. sum_coding.made (sum_coding.fields s) h) (Bool-set _ _ fits s.fits)

pub sum_laws : Laws sum_kind
sum_laws = laws_by sum_coding (record {
  fields_fit = λ s. s.fits;
  made_again = made_again;
  made_of = λ f fits. refl;
  found_again = λ s. sum_found-sum_bytes s.left s.total s.fits;
  long = λ s. length-sum_bytes _;
}) (λ s. s.left) sum_stepped (λ s h. counts_down s.left s.total s.fits h)

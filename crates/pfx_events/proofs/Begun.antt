-- Files that are recovered are those at which a run can begin.
use Rattle.std.specs.Prelude.{◌≡◌, ℕ, List, Some, Result, Ok, Err}
use Rattle.std.proofs.Common.{ap}
use Rattle.std.proofs.lemmas.Option.{same_Some, none-some}
use Rattle.pfx_store_file.specs.Files.{file_in}
use Rattle.pfx_store_format.specs.Format.{format}
use Rattle.pfx_store_header.specs.Headers.{Header}
use Rattle.pfx_jobs.specs.Kind.{Kind}
use Rattle.pfx_machine.specs.Plain.{Plain}
use Rattle.pfx_store_image.specs.Recovery.{Found, found, on_ok, recovered}
use Rattle.pfx_store_image.specs.Refusals.{Refusal}
use Rattle.pfx_store.specs.Files.{FileOf, file_found, recovered_file}

module _ {J : Type 0} (K : Kind J) (image : List ℕ) where
  begins_by : (s : Plain J) (r : Result (Found Header (Plain J)) Refusal) → on_ok r (λ f. Ok f.state) ≡ Ok s → (f : FileOf J) × (file_found K image r ≡ Some (s, f))
  begins_by s (Ok t) is = let same : t.state ≡ s = cc in (file_in (format K) image t.head t.parts, ap (λ z. Some (z, file_in (format K) image t.head t.parts)) same)
  begins_by s (Err e) is = absurd cc

  pub begins : (s : Plain J) → recovered (format K) image ≡ Ok s → (f : FileOf J) × (recovered_file K image ≡ Some (s, f))
  unfolding recovered
  begins s is = begins_by s (found (format K) image) is

  means_by : (s : Plain J) (f : FileOf J) (r : Result (Found Header (Plain J)) Refusal) → file_found K image r ≡ Some (s, f) → on_ok r (λ f. Ok f.state) ≡ Ok s
  means_by s f (Ok t) is = ap (λ (z : Plain J × FileOf J). Ok z.0) (same_Some _ _ is)
  means_by s f (Err e) is = absurd (none-some (s, f) is)

  pub means : (s : Plain J) (f : FileOf J) → recovered_file K image ≡ Some (s, f) → recovered (format K) image ≡ Ok s
  unfolding recovered
  means s f is = means_by s f (found (format K) image) is

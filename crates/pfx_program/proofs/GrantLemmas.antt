-- Answers that count in the weights in force.
use Rattle.std.proofs.Common.{◌≡◌, ◌<◌, ℕ, ◌==◌, ◌&&◌, ◌^◌, true, nat_le, Option, Some, None, sym, ap, ◌∙◌, arith}
use Rattle.std.proofs.lemmas.Bool.Decides.{nat_tests}
use Rattle.pfx_kinds.specs.OwnBytes.{own_fits-since}
use Rattle.pfx_kinds.specs.OwnKind.{own_from, own_from-is}
use Rattle.pfx_kinds.specs.Units.{unit_of, last_by, is_behind, is_taken}
use Rattle.pfx_kinds.specs.declared.any.AnyJob.{AnyJob}
use Rattle.pfx_kinds.specs.declared.any.AnyJob.TheVariants.{Own}
use Rattle.pfx_kinds.specs.declared.own.Own as own_type
use Rattle.pfx_kinds.specs.declared.units.Unit.{Unit}
use Rattle.pfx_machine.specs.Plain.{Plain}
use Rattle.pfx_program.specs.Grants.{counted, counted_at, counted_by, counted_from, is_next, is_taken_by, granted}
use Rattle.pfx_store_engine.specs.Promises.{IsPlace}
use Rattle.pfx_store_engine.specs.declared.place.RealTask.{RealTask}

unit_from : (from : ℕ) (job : own_type.Own) → from < 2 ^ 40 → unit_of (Own (own_from from job)) ≡ Some (record { since = from; number = job.answered })
unit_from from job early =
    let fits = own_fits-since job.answered job.since job.text_length job.text from job.fits early in
    ap (λ (j : own_type.Own). unit_of (Own j)) (sym (own_from-is from job fits))

pub counted_is : (s : Plain AnyJob) (x : ℕ) (place : Option (RealTask AnyJob)) (job : AnyJob) → IsPlace s x place → counted_by place job ≡ counted s x job
counted_is s x None job is = ap (λ (o : Option (Option AnyJob)). counted_at o s.from job) (sym is)
counted_is s x (Some place) job (here, allocs, from) =
    ap (λ n. counted_from n job) from ∙ ap (λ (o : Option (Option AnyJob)). counted_at o s.from job) (sym here)

same_number : (n : ℕ) → (n == n) ≡ true
same_number n = grind (arith, nat_tests)

pub next_is : (s : Plain AnyJob) (x : ℕ) (place : Option (RealTask AnyJob)) (job : own_type.Own) → IsPlace s x place → is_taken_by place job.answered ≡ is_next s x (counted_by place (Own job))
next_is s x None job is = ap (λ (o : Option (Option AnyJob)). is_taken unit_of s.from o (granted s x) (unit_of (Own job))) (sym is)
next_is s x (Some place) job (here, allocs, from) =
    let early : place.from < 2 ^ 40 = place.early in
    ap (λ b. b && nat_le job.answered place.allocation && is_behind place.from (last_by unit_of place.job) job.answered) (sym (same_number place.from))
    ∙ ap (λ n. is_taken unit_of place.from (Some place.job) n (Some (record { since = place.from; number = job.answered }))) allocs
    ∙ ap (λ (u : Option Unit). is_taken unit_of place.from (Some place.job) (granted s x) u) (sym (unit_from place.from job early))
    ∙ ap (λ n. is_taken unit_of n (Some place.job) (granted s x) (unit_of (Own (own_from place.from job)))) from
    ∙ ap (λ (o : Option (Option AnyJob)). is_taken unit_of s.from o (granted s x) (unit_of (Own (own_from place.from job)))) (sym here)

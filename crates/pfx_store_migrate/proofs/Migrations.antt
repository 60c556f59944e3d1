-- What a migrated store stands for.
use Rattle.std.specs.Prelude.{◌≡◌, ℕ, List, [], Ok, Err, Result, refl}
use Rattle.std.proofs.Common.{sym, ◌∙◌, ap, arith, inl, subst}
use Rattle.pfx_store_create.specs.Attempts.{IsNoneOrMade}
use Rattle.pfx_disk.specs.Disk.{View}
use Rattle.pfx_store_format.specs.Format.{format}
use Rattle.pfx_store_header.specs.Headers.{Header, IsSegmentSize, read_header, this_version}
use Rattle.pfx_store_header.proofs.Meanings.{closed_no_store}
use Rattle.pfx_jobs.specs.Kind.{Kind}
use Rattle.pfx_machine.specs.Plain.{Plain}
use Rattle.pfx_store_image.specs.Recovery.{found, found_of, from_head, on_ok, recovered}
use Rattle.pfx_store_image.specs.Refusals.{NotAStore}
use Rattle.pfx_store_image.specs.Store.{Parts}
use Rattle.pfx_store.specs.Working.{IsUnmade}
use Rattle.pfx_store.specs.declared.making.InitFault.{InitFault}
use Rattle.pfx_store.specs.declared.making.InitFault.TheVariants as init
use Rattle.pfx_store_version_one.specs.Format.{format_1}
use Rattle.pfx_store_migrate.specs.Migrating.{IsUnwritten}

pub found_recovered : {J : Type 0} (K : Kind J) (h : Header) (bytes : List ℕ) (p : Parts (Plain J)) (s : Plain J) → found (format_1 K) bytes ≡ Ok (found_of h p s) → recovered (format_1 K) bytes ≡ Ok s
unfolding recovered
found_recovered K h bytes p s is = ap (λ r. on_ok r (λ f. Ok f.state)) is

-- no bytes are no store's
none_stored : {J : Type 0} (K : Kind J) → recovered (format K) [] ≡ Err NotAStore
unfolding found recovered
none_stored K =
    let head : read_header this_version [] ≡ Err NotAStore = closed_no_store this_version [] (λ is. omega (arith, is)) in
    ap (λ r. on_ok (on_ok r (λ h. from_head (format K) h [])) (λ f. Ok f.state)) head

-- a disk that isn't asked anything has no store yet
pub unasked : {J : Type 0} (K : Kind J) (s : Plain J) (old new : View) → new ≡ old → IsNoneOrMade (format K) s old new
unasked K s old new same = subst (IsNoneOrMade (format K) s old) (sym same) (λ c before empty image since.
    inl (ap (recovered (format K)) (empty image since) ∙ none_stored K))

-- the segment of a header is within its limits, so its faults don't come
pub unwritten : {E : Type 0} (view : E → View) (m segment : ℕ) (new left : E) (fault : InitFault) → IsSegmentSize m segment → IsUnmade view m segment new (fault, left) → IsUnwritten view fault new left
unwritten view m segment new left (init.SegmentTooSmall least) size unmade = (let is = unmade.size.0 in let less = unmade.size.1 in let enough = size.0 in omega (arith, is, less, enough))
unwritten view m segment new left init.SegmentTooLarge size unmade = (let more = unmade.size in let most = size.1 in omega (arith, more, most))
unwritten view m segment new left init.NotEmpty size unmade = λ honest. unmade.not_empty honest refl
unwritten view m segment new left init.Device size unmade = unmade.device refl
unwritten view m segment new left init.NoMemory size unmade = unmade.unasked tt

-- what is recovered is one state
pub one_state : {A E : Type 0} (read : Result A E) (s t : A) → read ≡ Ok s → read ≡ Ok t → s ≡ t
one_state read s t first second = ap (λ r. elim r [ Ok a ↦ a | Err e ↦ s ]) (sym first ∙ second)

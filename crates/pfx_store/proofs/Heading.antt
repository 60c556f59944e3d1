-- What a header that was read says of its file.
use Rattle.std.specs.Prelude.{◌≡◌, ℕ, List, ◌++◌, length, min, take, drop, Result, Ok, Err, IfOk, IfErr, IsErrAnd}
use Rattle.std.proofs.Common.{sym, ◌∙◌, ap, arith, inl, inr, subst}
use Rattle.std.proofs.lemmas.Bool.{cases_lt}
use Rattle.std.proofs.lemmas.List.{length-take-le, take_all, take-append-le}
use Rattle.pfx_store_format.specs.Format.{format}
use Rattle.pfx_store_format.proofs.Keeping.{format_laws}
use Rattle.pfx_store_header.specs.Headers.{Header, read_header, this_version}
use Rattle.pfx_jobs.specs.Kind.{Kind, Laws}
use Rattle.pfx_machine.specs.Plain.{Plain}
use Rattle.pfx_store_recover.specs.Answers.{Gives, GivesHead, IsRead, IsRefusal, of_head, refusal_of}
use Rattle.pfx_store_recover.specs.declared.faults.HeadFault.{HeadFault}
use Rattle.pfx_store_recover.specs.declared.faults.HeadFault.TheVariants as head
use Rattle.pfx_store_recover.specs.declared.faults.OpenFault.{OpenFault}
use Rattle.pfx_store_recover.specs.declared.faults.OpenFault.TheVariants as fault
use Rattle.pfx_store_image.specs.Recovery.{Found, found, from_head, on_ok, recovered}
use Rattle.pfx_store_image.specs.Refusals.{Refusal}
use Rattle.pfx_store_image.proofs.Answers.{ok_same}
use Rattle.pfx_store_image.proofs.Stands.{found_stands}

-- as many bytes as there are, up to so many, are the first so many
take_min : (n most : ℕ) (xs : List ℕ) → n ≡ length xs → take (min n most) xs ≡ take most xs
take_min n most xs long = elim (cases_lt most n) [
  | inl less ↦ ap (λ k. take k xs) (omega (arith, less))
  | inr more ↦ take_all (min n most) xs (omega (arith, more, long)) ∙ sym (take_all most xs (omega (arith, more, long)))
]

-- what was read into bytes is the front
pub front_read : (contents out items now : List ℕ) (n size most : ℕ) → n ≡ length contents → size ≡ min n most → out ≡ take size contents → now ≡ take size (out ++ drop (length out) items) → now ≡ take most contents
front_read contents out items now n size most long is read held =
    let filled : length out ≡ size = ap length read ∙ length-take-le size contents (omega (arith, long, is)) in
    held ∙ (take-append-le size out (drop (length out) items) (omega (arith, filled)) ∙ (take_all size out (omega (arith, filled))
    ∙ (read ∙ (ap (λ k. take k contents) is ∙ take_min n most contents long))))

-- a fault of those who read a header
pub head_handed : {H : Type 0} (read : Result H Refusal) (e : HeadFault) (result : Result H OpenFault) → GivesHead read (Err e) → IsErrAnd result (λ x. x ≡ of_head e) → Gives IsRead read result
head_handed read e (Ok h) gives same = absurd same
head_handed {H} read (head.Refused e) (Err x) gives same = subst (λ y. Gives {T = H} IsRead read (Err y)) (sym same) gives
head_handed {H} read head.NoMemory (Err x) gives same = subst (λ y. Gives {T = H} IsRead read (Err y)) (sym same) tt

-- a file that is found has the header that is read
pub head_found : {J : Type 0} (K : Kind J) (L : Laws K) (bytes : List ℕ) (result : Result Header OpenFault) → Gives IsRead (read_header this_version bytes) result → IfOk result (λ h. (f : Found Header (Plain J)) → found (format K) bytes ≡ Ok f → f.head ≡ h)
head_found K L bytes (Ok h) read = λ f is. ok_same f.head h (sym (found_stands (format K) (format_laws K L) f bytes is).head ∙ read)
head_found K L bytes (Err e) read = tt

-- and what refuses the header refuses the file
refused : {J : Type 0} (K : Kind J) (bytes : List ℕ) (e : Refusal) → read_header this_version bytes ≡ Err e → recovered (format K) bytes ≡ Err e
unfolding found recovered
refused K bytes e is = ap (λ r. on_ok (on_ok r (λ h. from_head (format K) h bytes)) (λ f. Ok f.state)) is

pub refused_so : {J : Type 0} (K : Kind J) (bytes : List ℕ) (result : Result Header OpenFault) → Gives IsRead (read_header this_version bytes) result → IfErr result (λ e. IsRefusal e (λ refusal. recovered (format K) bytes ≡ Err refusal))
refused_so K bytes (Ok h) read = tt
refused_so K bytes (Err (fault.Refused e)) read = refused K bytes (refusal_of e) read
refused_so K bytes (Err fault.Device) read = tt
refused_so K bytes (Err fault.NoMemory) read = tt

-- What is read of a file that was opened.
use Rattle.std.specs.Prelude.{◌≡◌, ℕ, List, [], length, Option, Vec, Result, Ok, Err, IfOk, IfErr, IsErrAnd, MatchResult}
use Rattle.std.specs.declared.alloc.Global.{Global}
use Rattle.std.proofs.Common.{◌∙◌, ap, sym, subst, arith}
use Rattle.pfx_disk.specs.Disk.{View}
use Rattle.pfx_store_image.specs.Refusals.{Refusal}
use Rattle.pfx_store_recover.specs.Answers.{IsRefusal}
use Rattle.pfx_store_recover.specs.declared.faults.OpenFault.{OpenFault}
use Rattle.pfx_store_recover.specs.declared.faults.OpenFault.TheVariants.{Refused, Device, NoMemory}
use Rattle.pfx_replay.specs.Reading.{IsNoRefusal}
use Rattle.pfx_store_image.specs.Codec.{Codec}
use Rattle.pfx_store_image.specs.Store.{IsStore}
use Rattle.pfx_store_file.specs.Sizes.{HasSizes, total_len}
use Rattle.pfx_store_file.specs.declared.places.Places.{Places}
use Rattle.pfx_store_recover.specs.Finding.{IsOpened}

module _ {H S : Type 0} (K : Codec H S) (h : H) (bytes : List ℕ) (places : Places) (state : S) (middle : Option (Vec ℕ Global)) (disk : View) (opened : IsOpened K h bytes places state middle disk) where
  pub store_is : IsStore K h opened.parts state bytes
  store_is = ((opened.holds []).images bytes (subst (λ l. disk.now l) opened.kept.contents opened.kept.honest.here)).store

  pub len_is : HasSizes (K.layout h) places.sizes → total_len places.sizes ≡ length bytes
  len_is fits = omega (arith, store_is.long, fits.head, fits.body, fits.segment)

-- an answer, and the disk beside it
abbrev pub IsBeside : {V E D : Type 0} → Result V E → Result (V × D) (E × D) → Type 0
IsBeside answer result = MatchResult result (λ r. answer ≡ Ok r.0) (λ e. answer ≡ Err e.0)

module _ {V D : Type 0} (answer : Result V OpenFault) where
  pub ok_beside : (result : Result (V × D) (OpenFault × D)) → IsBeside answer result → (P : V → Type 0) → ((v : V) → answer ≡ Ok v → P v) → IfOk result (λ r. P r.0)
  ok_beside (Ok r) is P f = f r.0 is
  ok_beside (Err e) is P f = tt

  pub err_beside : (result : Result (V × D) (OpenFault × D)) → IsBeside answer result → (P : OpenFault → Type 0) → ((e : OpenFault) → answer ≡ Err e → P e) → IfErr result (λ e. P e.0)
  err_beside (Ok r) is P f = tt
  err_beside (Err e) is P f = f e.0 is

  module _ (disk : D) (P : D → Type 0) where
    pub disk_beside : (result : Result (V × D) (OpenFault × D)) → MatchResult result (λ r. r.1 ≡ disk) (λ e. e.1 ≡ disk) → P disk → MatchResult result (λ r. P r.1) (λ e. P e.1)
    disk_beside (Ok r) same h = subst P (sym same) h
    disk_beside (Err e) same h = subst P (sym same) h

    pub device_beside : (result : Result (V × D) (OpenFault × D)) → IsBeside answer result → MatchResult result (λ r. r.1 ≡ disk) (λ e. e.1 ≡ disk) → (answer ≡ Err Device → P disk) → IfErr result (λ e. e.0 ≡ Device → P e.1)
    device_beside (Ok r) is same f = tt
    device_beside (Err e) is same f = λ what. subst P (sym same) (f (is ∙ ap (λ x. Err x) what))

-- what is no refusal says nothing of one
pub no_refusal : (e : OpenFault) (P : Refusal → Type 0) → IsNoRefusal e → IsRefusal e P
no_refusal (Refused refusal) P none = absurd none
no_refusal Device P none = tt
no_refusal NoMemory P none = tt

-- a fault of a call within that is no refusal
pub handed_none : {V : Type 0} (P : V → Type 0) (e : OpenFault) (result : Result V OpenFault) → IsErrAnd result (λ x. x ≡ e) → IsNoRefusal e → MatchResult result P IsNoRefusal
handed_none P e (Ok v) same none = absurd same
handed_none P e (Err x) same none = subst IsNoRefusal (sym same) none

-- Records that the flusher takes together.
use Rattle.std.specs.Prelude.{All, IsTrue, if◌then◌else◌}
use Rattle.std.proofs.Common.{◌≡◌, ℕ, zero, suc, ◌<◌, ◌≤◌, List, [], ◌∷◌, ◌++◌, length, map, Bool, true, false, Option, Some, None, refl, sym, ap, ◌∙◌, arith, subst, inl, inr}
use Rattle.std.proofs.lemmas.Bool.{false≢true}
use Rattle.std.proofs.lemmas.Option.{none-some}
use Rattle.pfx_jobs.specs.Kind.{Kind}
use Rattle.pfx_machine.specs.Batches.{AreCommon, IsBatchable, IsCommon}
use Rattle.pfx_machine.specs.Outcome.{outcome}
use Rattle.pfx_machine.specs.Reweighing.{reweigh_fault}
use Rattle.pfx_machine.specs.Plain.{Plain}
use Rattle.pfx_machine.specs.declared.command.Command.{Command}
use Rattle.pfx_machine.specs.declared.faults.MachineFault.{MachineFault}
use Rattle.pfx_machine.specs.declared.command.Command.TheVariants.{Submit, Slot, Withdraw, Reweigh}
use Rattle.pfx_machine.proofs.Reweighs.{accepted_set}
use Rattle.pfx_weights.specs.Sets.{FilledSet}
use Rattle.pfx_record.specs.Batches.{all_fit}
use Rattle.pfx_record.specs.Records.{form_of, plain, record_fits, Recorded, submitted, ran, withdrawn, reweighed}
use Rattle.pfx_record.specs.declared.record.Record.{Record}
use Rattle.pfx_record.proofs.Rising.{of_both}
use Rattle.pfx_record_redo.specs.Applying.{after_record, applied, form_at, is_common, is_right}
use Rattle.pfx_record_redo.specs.Recording.{record_of, records_of}
use Rattle.pfx_record_redo.proofs.Commons.{common_fits}
use Rattle.pfx_record_redo.proofs.States.{common_behind, in_force, right_parts}
use Rattle.pfx_book.specs.Batching.{GoesFar, MayShare, StopsAt, real_for, width_behind}
use Rattle.pfx_book.proofs.Merges.{some_is}

module _ {J : Type 0} where
  -- records of which none is of new weights, with one more
  pub common_more : (xs : List (Record J)) (x : Record J) → All (λ entry. IsTrue (is_common (plain entry))) xs → IsTrue (is_common (plain x))
      → All (λ entry. IsTrue (is_common (plain entry))) (xs ++ x ∷ [])
  common_more [] x all one zero d l = one
  common_more [] x all one (suc k) d l = absurd (omega (arith, l))
  common_more (y ∷ xs) x all one zero d l = all 0 d (omega arith)
  common_more (y ∷ xs) x all one (suc k) d l = common_more xs x (λ i e b. all (suc i) e (omega (arith, b))) one k d (omega (arith, l))

  common_mapped : (xs : List (Record J)) → All (λ entry. IsTrue (is_common (plain entry))) xs → All (λ done. IsTrue (is_common done)) (map plain xs)
  common_mapped [] all k d l = absurd (omega (arith, l))
  common_mapped (x ∷ xs) all zero d l = all 0 x (omega arith)
  common_mapped (x ∷ xs) all (suc k) d l = common_mapped xs (λ i e b. all (suc i) e (omega (arith, b))) k d (omega (arith, l))

  share_all : (xs : List (Recorded J)) → All (λ done. IsTrue (is_common done)) xs → MayShare xs
  share_all [] all = tt
  share_all (x ∷ []) all = tt
  share_all (x ∷ y ∷ xs) all = all

  pub common_share : (xs : List (Record J)) → All (λ entry. IsTrue (is_common (plain entry))) xs → MayShare (map plain xs)
  common_share xs all = share_all (map plain xs) (common_mapped xs all)

  -- the last one of records that may be a batch
  last_of : (xs : List (Recorded J)) (x : Recorded J) → All (λ done. IsTrue (is_common done)) (xs ++ x ∷ []) → IsTrue (is_common x)
  last_of [] x all = all 0 x (omega arith)
  last_of (y ∷ xs) x all = last_of xs x (λ k d l. all (suc k) d (omega (arith, l)))

  share_last : (y : Recorded J) (xs : List (Recorded J)) (x : Recorded J) → MayShare ((y ∷ xs) ++ x ∷ []) → IsTrue (is_common x)
  share_last y [] x share = last_of (y ∷ []) x share
  share_last y (z ∷ xs) x share = last_of (y ∷ z ∷ xs) x share

  -- some records go as far as they may where the next one is of new weights
  pub stops_far : (xs rest : List (Recorded J)) → 0 < length xs → StopsAt rest → GoesFar xs rest
  stops_far [] rest some stops = absurd (omega (arith, some))
  stops_far (y ∷ xs) [] some stops = tt
  stops_far (y ∷ xs) (x ∷ rest) some stops = inr (λ share. false≢true (sym stops ∙ share_last y xs x share))

  -- and where they are of new weights alone
  pub alone_far : (x : Recorded J) (rest : List (Recorded J)) → is_common x ≡ false → GoesFar (x ∷ []) rest
  alone_far x [] new = tt
  alone_far x (y ∷ rest) new = inr (λ share. false≢true (sym new ∙ share 0 x (omega arith)))

  pub sixteen_far : (xs rest : List (Recorded J)) → 16 ≤ length xs → GoesFar xs rest
  sixteen_far xs [] long = tt
  sixteen_far xs (x ∷ rest) long = inl long

  -- the records of commands that may be a batch
  common_of : (K : Kind J) (s : Plain J) (c : Command J) → IsCommon c → IsTrue (is_common (record_of K s c))
  common_of K s (Submit task job) common = refl
  common_of K s (Withdraw task) common = refl
  common_of K s Slot common = refl
  common_of K s (Reweigh workers weights) common = absurd common

  all_common : (K : Kind J) (s : Plain J) (H : List (Command J)) → AreCommon H → All (λ done. IsTrue (is_common done)) (records_of K s H)
  all_common K s [] common k d l = absurd (omega (arith, l))
  all_common K s (c ∷ H) common zero d l = common_of K s c common.0
  all_common K s (c ∷ H) common (suc k) d l = all_common K (outcome K s (c ∷ [])) H common.1 k d (omega (arith, l))

  pub shareable : (K : Kind J) (s : Plain J) (H : List (Command J)) → IsBatchable H → MayShare (records_of K s H)
  shareable K s [] batch = tt
  shareable K s (c ∷ []) batch = tt
  shareable K s (c ∷ d ∷ H) batch = all_common K s (c ∷ d ∷ H) batch

  -- the commands of records that may be a batch
  of_common : (K : Kind J) (s : Plain J) (c : Command J) → IsTrue (is_common (record_of K s c)) → IsCommon c
  of_common K s (Submit task job) common = tt
  of_common K s (Withdraw task) common = tt
  of_common K s Slot common = tt
  of_common K s (Reweigh workers weights) common = absurd (false≢true common)

  are_common : (K : Kind J) (s : Plain J) (H : List (Command J)) → All (λ done. IsTrue (is_common done)) (records_of K s H) → AreCommon H
  are_common K s [] all = tt
  are_common K s (c ∷ H) all =
      (of_common K s c (all 0 (record_of K s c) (omega arith)), are_common K (outcome K s (c ∷ [])) H (λ k d l. all (suc k) d (omega (arith, l))))

  pub batchable : (K : Kind J) (s : Plain J) (H : List (Command J)) → MayShare (records_of K s H) → IsBatchable H
  batchable K s [] share = tt
  batchable K s (c ∷ []) share = tt
  batchable K s (c ∷ d ∷ H) share = are_common K s (c ∷ d ∷ H) share

  -- the workers behind a batch that isn't of new weights
  same_width : (w : ℕ) (x : Recorded J) (xs : List (Recorded J)) → IsTrue (is_common x) → width_behind w (x ∷ xs) ≡ w
  same_width w (submitted task job) xs common = refl
  same_width w (ran row) xs common = refl
  same_width w (withdrawn task) xs common = refl
  same_width w (reweighed workers weights) xs common = absurd (false≢true common)

  -- of records that lead on, the first is right, and the others lead on from behind it
  pub split_if : (b : Bool) (o : Option (Plain J)) (u : Plain J) → (if b then o else None) ≡ Some u → (b ≡ true) × (o ≡ Some u)
  split_if true o u e = (refl, e)
  split_if false o u e = absurd (none-some u e)

  pub only : (x : Recorded J) → IsTrue (is_common x) → All (λ done. IsTrue (is_common done)) (x ∷ [])
  only x here zero d l = here
  only x here (suc k) d l = absurd (omega (arith, l))

  module _ (K : Kind J) where
    -- records fit into a batch of the state's workers
    all_fit_common : (workers real count : ℕ) (s t : Plain J) (records : List (Recorded J)) → s.ledger.set.workers ≡ workers → All (λ done. IsTrue (is_common done)) records
        → applied K s records ≡ Some t → IsTrue (all_fit (form_of workers real count) records)
    all_fit_common workers real count s t [] same common h = refl
    all_fit_common workers real count s t (done ∷ records) same common h =
        let f = split_if (is_right K s done) (applied K (after_record s done) records) t h in
        let one = common 0 done (omega arith) in
        let next = ap (λ (g : FilledSet). g.workers) (in_force s done one).set ∙ same in
        of_both (record_fits (form_of workers real count) done) (all_fit (form_of workers real count) records)
        (common_fits (form_at s) (form_of workers real count) done one same (right_parts K s done f.0).form)
        (all_fit_common workers real count (after_record s done) t records next (λ k d l. common (suc k) d (omega (arith, l))) f.1)

    one_fits : (workers : ℕ) (s t : Plain J) (done : Recorded J) → s.ledger.set.workers ≡ workers → applied K s (done ∷ []) ≡ Some t
        → IsTrue (all_fit (form_of workers (real_for s.ledger.set.real (done ∷ [])) 1) (done ∷ []))
    one_fits workers s t (submitted task job) same h = all_fit_common workers 0 1 s t (submitted task job ∷ []) same (only (submitted task job) refl) h
    one_fits workers s t (ran row) same h = all_fit_common workers 0 1 s t (ran row ∷ []) same (only (ran row) refl) h
    one_fits workers s t (withdrawn task) same h = all_fit_common workers 0 1 s t (withdrawn task ∷ []) same (only (withdrawn task) refl) h
    one_fits workers s t (reweighed m weights) same h =
        let f = split_if (is_right K s (reweighed m weights)) (Some (after_record s (reweighed m weights))) t h in
        of_both (record_fits {J = J} (form_of workers s.ledger.set.real 1) (reweighed m weights)) true (subst (λ w. IsTrue (record_fits {J = J} (form_of w s.ledger.set.real 1) (reweighed m weights))) same (right_parts K s (reweighed m weights) f.0).form) refl

    pub shared_fit : (workers : ℕ) (s t : Plain J) (records : List (Recorded J)) → s.ledger.set.workers ≡ workers → MayShare records → applied K s records ≡ Some t
        → IsTrue (all_fit (form_of workers (real_for s.ledger.set.real records) (length records)) records)
    shared_fit workers s t [] same share h = refl
    shared_fit workers s t (x ∷ []) same share h = one_fits workers s t x same h
    shared_fit workers s t (x ∷ y ∷ records) same share h = all_fit_common workers (real_for s.ledger.set.real (x ∷ y ∷ records)) (length (x ∷ y ∷ records)) s t (x ∷ y ∷ records) same share h

    -- the workers behind records that may be a batch
    no_fault : (o : Option MachineFault) → IsTrue (elim o [ Some fault ↦ false | None ↦ true ]) → o ≡ None
    no_fault None h = refl
    no_fault (Some fault) h = absurd (false≢true h)

    common_width : (s t : Plain J) (x : Recorded J) (records : List (Recorded J)) → All (λ done. IsTrue (is_common done)) (x ∷ records) → applied K s (x ∷ records) ≡ Some t
        → t.ledger.set.workers ≡ width_behind s.ledger.set.workers (x ∷ records)
    common_width s t x records common h =
        ap (λ (g : FilledSet). g.workers) (common_behind K s t (x ∷ records) common h).set ∙ sym (same_width s.ledger.set.workers x records (common 0 x (omega arith)))

    one_width : (s t : Plain J) (x : Recorded J) → applied K s (x ∷ []) ≡ Some t → t.ledger.set.workers ≡ width_behind s.ledger.set.workers (x ∷ [])
    one_width s t (submitted task job) h = common_width s t (submitted task job) [] (only (submitted task job) refl) h
    one_width s t (ran row) h = common_width s t (ran row) [] (only (ran row) refl) h
    one_width s t (withdrawn task) h = common_width s t (withdrawn task) [] (only (withdrawn task) refl) h
    one_width s t (reweighed m weights) h =
        let f = split_if (is_right K s (reweighed m weights)) (Some (after_record s (reweighed m weights))) t h in
        let set = accepted_set s m weights (no_fault (reweigh_fault s m weights) (right_parts K s (reweighed m weights) f.0).apt) in
        ap (λ (u : Plain J). u.ledger.set.workers) (sym (some_is (after_record s (reweighed m weights)) t f.1)) ∙ ap (λ (g : FilledSet). g.workers) set.accepts.is

    pub width_is : (s t : Plain J) (records : List (Recorded J)) → MayShare records → applied K s records ≡ Some t → t.ledger.set.workers ≡ width_behind s.ledger.set.workers records
    width_is s t [] share h = ap (λ (u : Plain J). u.ledger.set.workers) (sym (some_is s t h))
    width_is s t (x ∷ []) share h = one_width s t x h
    width_is s t (x ∷ y ∷ records) share h = common_width s t x (y ∷ records) share h

-- What a keeper's call comes to, and memory that is refused before it.
use Rattle.std.specs.Prelude.{Option, None, Some, Result, Ok, Err, IfOk, IfErr, OnOk, OnErr, MatchResult, map}
use Rattle.std.proofs.Common.{◌≡◌, ℕ, ◌+◌, ◌≤◌, List, [], ◌∷◌, ◌++◌, length, take, Bool, true, false, refl, sym, ap, subst, ◌∙◌, arith, length-append}
use Rattle.std.proofs.lemmas.Bool.{false≢true}
use Rattle.std.proofs.lemmas.List.{take-append-le}
use Rattle.pfx_disk.specs.Disk.{View, IsHonest}
use Rattle.pfx_fault.specs.declared.fields.Cause.{Cause}
use Rattle.pfx_fault.specs.declared.fields.Cause.TheVariants.{Device, Memory, Log}
use Rattle.pfx_store_format.specs.Format.{format}
use Rattle.pfx_jobs.specs.Kind.{Kind}
use Rattle.pfx_machine.specs.Plain.{Plain}
use Rattle.pfx_record.specs.declared.batch.Batch.{Batch}
use Rattle.pfx_store_image.specs.Store.{Replays}
use Rattle.pfx_record.specs.Batches.{batch_bytes, batch_of}
use Rattle.pfx_record.specs.Records.{plain}
use Rattle.pfx_store.specs.Keepers.{Keeps}
use Rattle.pfx_store.specs.Marks.{AreKept, Covers, IsKept}
use Rattle.pfx_store.specs.Stores.{PlainStore}
use Rattle.pfx_store.specs.declared.appending.Mark.{Mark}
use Rattle.pfx_store_file.specs.Holding.{Survives}
use Rattle.pfx_record_redo.specs.Applying.{applied}
use Rattle.pfx_front.specs.Appending.{IsAppended, IsMissed}

abbrev is_memory : Cause → Bool
is_memory Memory = true
is_memory other = false

-- marks are kept if there may be a frame more
module _ {J : Type 0} (K : Kind J) (start : Plain J) (all : List (List ℕ)) (frame : List ℕ) (disk : View) where
  survives_longer : (n : ℕ) (image : List ℕ) → Survives (format K) start all n image → Survives (format K) start (all ++ frame ∷ []) n image
  survives_longer n image h = record {
    count = h.count;
    at_least = h.at_least;
    at_most = (let few = h.at_most in let long = length-append all (frame ∷ []) in omega (arith, few, long));
    state = h.state;
    replays = subst (λ (l : List (List ℕ)). Replays (format K) start l h.state) (sym (take-append-le h.count all (frame ∷ []) h.at_most)) h.replays;
    recovered = h.recovered;
  }

  kept_longer : (mark : Mark) → IsKept K start all mark disk → IsKept K start (all ++ frame ∷ []) mark disk
  kept_longer mark h = record {
    count = h.count;
    few = (let few = h.few in let long = length-append all (frame ∷ []) in omega (arith, few, long));
    state = h.state;
    leads = subst (λ (l : List (List ℕ)). Replays (format K) start l h.state) (sym (take-append-le h.count all (frame ∷ []) h.few)) h.leads;
    number = h.number;
    past = h.past;
    images = λ image since. survives_longer h.count image (h.images image since);
  }

  pub are_kept_longer : (marks : List Mark) → AreKept K start all marks disk → AreKept K start (all ++ frame ∷ []) marks disk
  are_kept_longer [] h = tt
  are_kept_longer (mark ∷ marks) h = (kept_longer mark h.0, are_kept_longer marks h.1)

pub memory_refused : {D J : Type 0} (view : D → View) (K : Kind J) (batch : Batch J) (old : PlainStore D J) (failed : Option Cause) → IsMissed view K batch Memory old old failed
memory_refused view K batch old failed = record {
  same = refl;
  device = λ is. absurd (false≢true (sym (ap is_memory is)));
  memory = λ is. refl;
  log = λ is. absurd (false≢true (sym (ap is_memory is)));
  honest = λ honest. honest;
  marks = λ honest start all noted covers. are_kept_longer K start all _ (view old.file.disk) noted covers.marks;
}

module _ {D J : Type 0} (view : D → View) (K : Kind J) (batch : Batch J) (old new : PlainStore D J) (was is : Option Cause) (result : Result Mark Cause)
    (h : Keeps view K (map plain batch.records.items) (batch_bytes K (batch_of batch.first batch.records.items)) old new was is result) where
  abbrev frame : List ℕ
  frame = batch_bytes K (batch_of batch.first batch.records.items)

  -- a keeper kept the batch
  kept : (mark : Mark) → result ≡ Ok mark → (is ≡ None → new.file.broken ≡ false) → IsAppended view K batch mark old new is
  kept mark done whole = record {
    goes_on = goes_on;
    moved = subst (λ r. OnOk r (applied K old.state (map plain batch.records.items) ≡ Some new.state)) done h.state.moved;
    whole = whole goes_on;
    number = (subst (λ r. IfOk r (λ (mark : Mark). (mark.number ≡ new.state.number) × (mark.clock ≡ (view new.file.disk).clock))) done h.mark).0;
    no_fewer = h.call.takes.no_fewer;
    honest = h.call.honest.1;
    marks = λ honest start all noted covers.
        subst (λ r. MatchResult r (λ (mark : Mark). Covers K start (all ++ frame ∷ []) (mark ∷ noted) new.file.broken new.state (view new.file.disk))
        (λ (cause : Cause). AreKept K start (all ++ frame ∷ []) noted (view new.file.disk))) done (h.marks honest start all noted covers);
  }
    where
      goes_on : is ≡ None
      goes_on = (subst (λ r. OnOk r ((was ≡ None) × (is ≡ None))) done h.call.whole).1

  -- a keeper in which nothing had failed didn't keep it
  missed : (cause : Cause) → result ≡ Err cause → was ≡ None → IsMissed view K batch cause old new is
  missed cause lost none = record {
    same = subst (λ r. OnErr r (new.state ≡ old.state)) lost h.state.same;
    device = λ same. h.call.device none (lost ∙ ap Err same);
    memory = λ same. absurd (h.call.no_memory (lost ∙ ap Err same));
    log = λ same. (
      h.call.log (lost ∙ ap Err same),
      subst (λ r. IfErr r (λ (cause : Cause). is ≡ Some cause)) (lost ∙ ap Err same) h.call.fails,
    );
    honest = h.call.honest.1;
    marks = λ honest start all noted covers.
        subst (λ r. MatchResult r (λ (mark : Mark). Covers K start (all ++ frame ∷ []) (mark ∷ noted) new.file.broken new.state (view new.file.disk))
        (λ (cause : Cause). AreKept K start (all ++ frame ∷ []) noted (view new.file.disk))) lost (h.marks honest start all noted covers);
  }

  -- whatever it answered
  pub kept_if : (is ≡ None → new.file.broken ≡ false) → IfOk result (λ mark. IsAppended view K batch mark old new is)
  kept_if whole = by result refl
    where
      by : (r : Result Mark Cause) → result ≡ r → IfOk r (λ mark. IsAppended view K batch mark old new is)
      by (Ok mark) done = kept mark done whole
      by (Err cause) lost = tt

  pub missed_if : was ≡ None → IfErr result (λ cause. IsMissed view K batch cause old new is)
  missed_if none = by result refl
    where
      by : (r : Result Mark Cause) → result ≡ r → IfErr r (λ cause. IsMissed view K batch cause old new is)
      by (Ok mark) done = tt
      by (Err cause) lost = missed cause lost none

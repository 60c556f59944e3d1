-- What each test of a header leads to.
use Rattle.std.specs.Prelude.{◌≡◌, ℕ, ◌+◌, ◌*◌, ◌<◌, ◌≤◌, Bool, true, false, List, length, Option, Some, None, Result, Ok, Err}
use Rattle.std.proofs.Common.{sym, ◌∙◌, ap, subst, arith}
use Rattle.std.proofs.lemmas.Bool.{cond-true, cond-false, le-leb, lt-leb, false_from_ne_true, eq-eqb, ne_eqb}
use Rattle.pfx_store_image.specs.Refusals.{Refusal, NotAStore, WrongVersion}
use Rattle.pfx_weights.specs.Sets.{FilledSet}
use Rattle.pfx_weights.specs.Tests.{set_of}
use Rattle.pfx_store_header.specs.declared.faults.SegmentSizeFault.{SegmentSizeFault}
use Rattle.pfx_store_header.specs.declared.faults.SegmentSizeFault.TheVariants.{SegmentTooSmall, SegmentTooLarge}
use Rattle.pfx_store_header.specs.declared.faults.HeaderFault.{HeaderFault}
use Rattle.pfx_store_header.specs.Headers.{Header, IsSegmentSize, version_at, workers_at, real_at, segment_at, tasks_at, damaged, is_segment_size, sized, read_tasks, are_counts, read_counts, read_version, is_store, read_header}
use Rattle.pfx_store_header.specs.Answers.{Reads, Sizes}
use Rattle.pfx_store_header.proofs.Meanings.{size_to, size_from}

pub sized_none : (n : ℕ) (o : Option FilledSet) → o ≡ None → sized n o ≡ Err damaged
unfolding sized
sized_none n o is = ap (sized n) is

pub sized_some : (n : ℕ) (o : Option FilledSet) (s : FilledSet) → o ≡ Some s → IsSegmentSize s.workers n → sized n o ≡ Ok (record { set = s; segment = n })
unfolding sized
sized_some n o s is size = ap (sized n) is ∙ cond-true _ _ _ (size_to s.workers n size)

no_size : (m n : ℕ) (f : SegmentSizeFault) → Sizes m n (Err f) → is_segment_size m n ≡ false
no_size m n (SegmentTooSmall least) h =
    false_from_ne_true (is_segment_size m n) (λ (is : is_segment_size m n ≡ true). let size = size_from m n is in let low = size.0 in let a = h.0 in let b = h.1 in omega arith)
no_size m n SegmentTooLarge h =
    false_from_ne_true (is_segment_size m n) (λ (is : is_segment_size m n ≡ true). let size = size_from m n is in let high = size.1 in omega arith)

pub sized_out : (n : ℕ) (o : Option FilledSet) (s : FilledSet) (f : SegmentSizeFault) → o ≡ Some s → Sizes s.workers n (Err f) → sized n o ≡ Err damaged
unfolding sized
sized_out n o s f is h = ap (sized n) is ∙ cond-false _ _ _ (no_size s.workers n f h)

pub tasks_short : (bytes : List ℕ) (n : ℕ) → n ≡ real_at bytes → length bytes < 17 + 8 * n → read_tasks bytes ≡ Err NotAStore
unfolding read_tasks
tasks_short bytes n is short = cond-false _ _ _ (lt-leb (17 + 8 * real_at bytes) (length bytes) (omega arith))

pub tasks_long : (bytes : List ℕ) (n : ℕ) → n ≡ real_at bytes → 17 + 8 * n ≤ length bytes → read_tasks bytes ≡ sized (segment_at bytes) (set_of (workers_at bytes) (tasks_at bytes))
unfolding read_tasks
tasks_long bytes n is long = cond-true _ _ _ (le-leb (17 + 8 * real_at bytes) (length bytes) (omega arith))

pub no_store : (v : ℕ) (bytes : List ℕ) (b : Bool) → b ≡ is_store bytes → b ≡ false → read_header v bytes ≡ Err NotAStore
unfolding read_header
no_store v bytes b is h = cond-false _ _ _ (sym is ∙ h)

store : (v : ℕ) (bytes : List ℕ) (b : Bool) → b ≡ is_store bytes → b ≡ true → read_header v bytes ≡ read_version v bytes
unfolding read_header
store v bytes b is h = cond-true _ _ _ (sym is ∙ h)

version_same : (v : ℕ) (bytes : List ℕ) → version_at bytes ≡ v → read_version v bytes ≡ read_counts bytes
unfolding read_version
version_same v bytes h = cond-true _ _ _ (eq-eqb _ _ h)

version_other : (v : ℕ) (bytes : List ℕ) → (version_at bytes ≡ v → ⊥) → read_version v bytes ≡ Err (WrongVersion (version_at bytes))
unfolding read_version
version_other v bytes h = cond-false _ _ _ (ne_eqb _ _ h)

pub other_version : (v : ℕ) (bytes : List ℕ) (b : Bool) → b ≡ is_store bytes → b ≡ true → (version_at bytes ≡ v → ⊥) → read_header v bytes ≡ Err (WrongVersion (version_at bytes))
other_version v bytes b is h other = store v bytes b is h ∙ version_other v bytes other

pub this_version : (v : ℕ) (bytes : List ℕ) (b : Bool) → b ≡ is_store bytes → b ≡ true → version_at bytes ≡ v → read_header v bytes ≡ read_counts bytes
this_version v bytes b is h one = store v bytes b is h ∙ version_same v bytes one

pub counts_in : (bytes : List ℕ) (n : ℕ) (b : Bool) → n ≡ real_at bytes → b ≡ are_counts (workers_at bytes) n → b ≡ true → read_counts bytes ≡ read_tasks bytes
unfolding read_counts
counts_in bytes n b real is h = cond-true _ _ _ (ap (are_counts (workers_at bytes)) (sym real) ∙ (sym is ∙ h))

pub counts_out : (bytes : List ℕ) (n : ℕ) (b : Bool) → n ≡ real_at bytes → b ≡ are_counts (workers_at bytes) n → b ≡ false → read_counts bytes ≡ Err damaged
unfolding read_counts
counts_out bytes n b real is h = cond-false _ _ _ (ap (are_counts (workers_at bytes)) (sym real) ∙ (sym is ∙ h))

-- what is answered for one is answered for the other
pub reads_same : (read other : Result Header Refusal) (r : Result (FilledSet × ℕ) HeaderFault) → read ≡ other → Reads other r → Reads read r
reads_same read other r is h = subst (λ x. Reads x r) (sym is) h

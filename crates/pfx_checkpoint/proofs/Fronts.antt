-- How long the parts of a state's bytes are, and where they stand.
use Rattle.std.specs.Prelude.{◌≡◌, ℕ, zero, suc, ◌+◌, ◌*◌, ◌-◌, ◌<◌, ◌≤◌, List, [], ◌∷◌, ◌++◌, length, take, slice_index_or, slice_get, Option, Some, None, refl}
use Rattle.std.proofs.Common.{sym, ◌∙◌, ap, arith, append_assoc, append-nil, length-append, inl, inr}
use Rattle.std.proofs.lemmas.Bool.{cond-true, cond-false, cases_lt, lt-ltb, le-ltb}
use Rattle.std.proofs.lemmas.Option.{slice_get_past, none-some}
use Rattle.byteorder.specs.Endian.{little_bytes}
use Rattle.byteorder.specs.Numbers.{length-bytes_low_first}
use Rattle.pfx_jobs.specs.Kind.{Kind, Laws}
use Rattle.pfx_machine.specs.Plain.{Plain}
use Rattle.pfx_checkpoint.specs.Spelling.{job_bytes, task_bytes, front_bytes, place_of}

pub place_in : (n x : ℕ) → x ≤ n → place_of n x ≡ 16 + 137 * x
place_in n x h = elim (cases_lt x n) [
  | inl less ↦ cond-true _ _ _ (lt-ltb x n less)
  | inr more ↦ cond-false _ _ _ (le-ltb x n more) ∙ omega arith
]

pub place_out : (n x : ℕ) → n ≤ x → place_of n x ≡ 16 + 137 * n + 8 * (x - n)
place_out n x h = cond-false _ _ _ (le-ltb x n h)

pub place_next_in : (n x : ℕ) → x < n → place_of n (x + 1) ≡ place_of n x + 8 + 129
place_next_in n x h = place_in n (x + 1) (omega arith) ∙ (let at = place_in n x (omega arith) in omega arith)

pub place_next_out : (n x : ℕ) → n ≤ x → place_of n (x + 1) ≡ place_of n x + 8
place_next_out n x h = place_out n (x + 1) (omega arith) ∙ (let at = place_out n x h in omega arith)

pub length-eight : (x : ℕ) → length (little_bytes 8 x) ≡ 8
length-eight x = length-bytes_low_first 0 8 x

pub length-job : {J : Type 0} (K : Kind J) (L : Laws K) (o : Option J) → length (job_bytes K (Some o)) ≡ 129
length-job K L None = refl
length-job K L (Some s) = ap suc (L.long s)

past : {A : Type 0} (xs : List A) (k : ℕ) → slice_get xs k ≡ None → length xs ≤ k
past [] k e = omega arith
past (y ∷ ys) zero e = absurd (none-some y (sym e))
past (y ∷ ys) (suc k) e = (let rest = past ys k e in omega arith)

length-task_in : {J : Type 0} (K : Kind J) (L : Laws K) (s : Plain J) (x : ℕ) (o : Option (Option J)) → slice_get s.jobs x ≡ o → x < length s.jobs → length (task_bytes K s x) ≡ 137
length-task_in K L s x None is h = absurd (let end = past s.jobs x is in omega arith)
length-task_in K L s x (Some o) is h =
    let job : length (job_bytes K (slice_get s.jobs x)) ≡ 129 = ap (λ p. length (job_bytes K p)) is ∙ length-job K L o in
    let number = length-eight (slice_index_or s.ledger.allocs x 0) in
    omega (arith, length-append (little_bytes 8 (slice_index_or s.ledger.allocs x 0)) (job_bytes K (slice_get s.jobs x)))

length-task_out : {J : Type 0} (K : Kind J) (s : Plain J) (x : ℕ) → length s.jobs ≤ x → length (task_bytes K s x) ≡ 8
length-task_out K s x h =
    let job : length (job_bytes K (slice_get s.jobs x)) ≡ 0 = ap (λ p. length (job_bytes K p)) (slice_get_past s.jobs x h) in
    let number = length-eight (slice_index_or s.ledger.allocs x 0) in
    omega (arith, length-append (little_bytes 8 (slice_index_or s.ledger.allocs x 0)) (job_bytes K (slice_get s.jobs x)))

pub length-front : {J : Type 0} (K : Kind J) (L : Laws K) (s : Plain J) (x : ℕ) → length (front_bytes K s x) ≡ place_of (length s.jobs) x
length-front K L s zero =
    let number = length-eight s.number in
    let slot = length-eight s.ledger.slot in
    omega (arith, length-append (little_bytes 8 s.number) (little_bytes 8 s.ledger.slot)) ∙ sym (place_in (length s.jobs) 0 (omega arith))
length-front K L s (suc x) =
    let before = length-front K L s x in
    let n = length s.jobs in
    let next : suc x ≡ x + 1 = omega arith in
    let all = length-append (front_bytes K s x) (task_bytes K s x) in
    elim (cases_lt x n) [
      | inl less ↦ (let task = length-task_in K L s x (slice_get s.jobs x) refl less in let at = place_next_in n x less in all ∙ (omega arith ∙ ap (place_of n) (sym next)))
      | inr more ↦ (let task = length-task_out K s x more in let at = place_next_out n x more in all ∙ (omega arith ∙ ap (place_of n) (sym next)))
    ]

-- what stands behind the first x tasks
pub front_split : {J : Type 0} (K : Kind J) (s : Plain J) (x k : ℕ) → (rest : List ℕ) × (front_bytes K s (x + 1 + k) ≡ front_bytes K s x ++ (task_bytes K s x ++ rest))
front_split K s x zero =
    let next : x + 1 + 0 ≡ suc x = omega arith in
    ([], ap (front_bytes K s) next ∙ ap (λ t. front_bytes K s x ++ t) (sym (append-nil (task_bytes K s x))))
front_split K s x (suc k) =
    let next : x + 1 + suc k ≡ suc (x + 1 + k) = omega arith in
    let before = front_split K s x k in
    let more = task_bytes K s (x + 1 + k) in (
      before.0 ++ more,
      ap (front_bytes K s) next
          ∙ (ap (λ t. t ++ more) before.1
          ∙ (append_assoc (front_bytes K s x) (task_bytes K s x ++ before.0) more
          ∙ ap (λ t. front_bytes K s x ++ t) (append_assoc (task_bytes K s x) before.0 more))),
    )

pub front_begins : {J : Type 0} (K : Kind J) (s : Plain J) (x : ℕ) → (rest : List ℕ) × (front_bytes K s x ≡ little_bytes 8 s.number ++ (little_bytes 8 s.ledger.slot ++ rest))
front_begins K s zero = ([], ap (λ t. little_bytes 8 s.number ++ t) (sym (append-nil (little_bytes 8 s.ledger.slot))))
front_begins K s (suc x) =
    let before = front_begins K s x in
    let more = task_bytes K s x in (
      before.0 ++ more,
      ap (λ t. t ++ more) before.1
          ∙ (append_assoc (little_bytes 8 s.number) (little_bytes 8 s.ledger.slot ++ before.0) more
          ∙ ap (λ t. little_bytes 8 s.number ++ t) (append_assoc (little_bytes 8 s.ledger.slot) before.0 more)),
    )

-- one task written after those before it

pub task_put_in : {J : Type 0} (K : Kind J) (s : Plain J) (x at next : ℕ) (old numbered all : List ℕ) (o : Option J) → slice_get s.jobs x ≡ Some o →
    take at old ≡ front_bytes K s x → take (at + 8) numbered ≡ take at old ++ little_bytes 8 (slice_index_or s.ledger.allocs x 0) →
    take (at + 8 + 129) all ≡ take (at + 8) numbered ++ job_bytes K (Some o) → next ≡ at + 8 + 129 → take next all ≡ front_bytes K s (x + 1)
task_put_in K s x at next old numbered all o is before number job end =
    let a = little_bytes 8 (slice_index_or s.ledger.allocs x 0) in
    let after : x + 1 ≡ suc x = omega arith in
    ap (λ n. take n all) end
    ∙ (job
    ∙ (ap (λ t. t ++ job_bytes K (Some o)) (number ∙ ap (λ t. t ++ a) before)
    ∙ (append_assoc (front_bytes K s x) a (job_bytes K (Some o))
    ∙ (ap (λ p. front_bytes K s x ++ (a ++ job_bytes K p)) (sym is)
    ∙ ap (front_bytes K s) (sym after)))))

pub task_put_out : {J : Type 0} (K : Kind J) (s : Plain J) (x at next : ℕ) (old numbered : List ℕ) → length s.jobs ≤ x →
    take at old ≡ front_bytes K s x → take (at + 8) numbered ≡ take at old ++ little_bytes 8 (slice_index_or s.ledger.allocs x 0) →
    next ≡ at + 8 → take next numbered ≡ front_bytes K s (x + 1)
task_put_out K s x at next old numbered past before number end =
    let a = little_bytes 8 (slice_index_or s.ledger.allocs x 0) in
    let after : x + 1 ≡ suc x = omega arith in
    ap (λ n. take n numbered) end
    ∙ (number
    ∙ (ap (λ t. t ++ a) before
    ∙ (ap (λ t. front_bytes K s x ++ t) (sym (append-nil a) ∙ ap (λ p. a ++ job_bytes K p) (sym (slice_get_past s.jobs x past)))
    ∙ ap (front_bytes K s) (sym after))))

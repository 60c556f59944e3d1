use Rattle.std.proofs.Common.{◌≡◌, ◌+◌, ◌<◌, ◌≤◌, ◌++◌, length, take, sym, ◌∙◌, ap, arith, get_or}
use Rattle.std.specs.Prelude.{slice_get, slice_index_or, Some}
use Rattle.std.proofs.lemmas.Option.{slice_get-get_or}
use Rattle.byteorder.specs.Endian.{little_bytes}
use Rattle.pfx_columns.specs.Ledgers.{Ledger}
use Rattle.pfx_checkpoint.specs.Spelling.{place_of}
use Rattle.pfx_checkpoint.proofs.Fronts.{task_put_in, task_put_out, place_next_in, place_next_out}
use Rattle.pfx_checkpoint.proofs.freezing.put_task.Goals as goal

pub returns-then-task-real-clause-front : goal.returns-then-task-real-clause-front
returns-then-task-real-clause-front g c =
    let s = c.args.state.now in
    let x = c.args.task in
    let at = c.place_of-at.result in
    let old = c.args.bytes.now in
    let real : c.real.result ≡ s.ledger.set.real = c.real.ensures ∙ ap (λ (l : Ledger). l.set.real) c.columns-2.ensures in
    let real_2 : c.real-2.result ≡ s.ledger.set.real = c.real-2.ensures ∙ ap (λ (l : Ledger). l.set.real) c.columns-4.ensures in
    let at_is : at ≡ place_of s.ledger.set.real x = c.place_of-at.ensures ∙ ap (λ n. place_of n x) real in
    let alloc_is : c.alloc.result ≡ slice_index_or s.ledger.allocs x 0 = c.alloc.ensures ∙ ap (λ (l : Ledger). slice_index_or l.allocs x 0) c.columns-3.ensures in
    let jobs : length s.jobs ≡ s.ledger.set.real = c.number-number.ensures.state.jobs in
    let inside : x < s.ledger.set.real = omega (arith, c.if-task-real.true) in
    let within : x < length s.jobs = omega arith in
    let o = c.index-jobs-task.result in
    let is : slice_get s.jobs x ≡ Some o = slice_get-get_or s.jobs x o within ∙ ap Some (sym (c.index-jobs-task.is ∙ ap (λ xs. get_or xs x o) c.jobs.ensures)) in
    let end : place_of s.ledger.set.real (x + 1) ≡ at + 8 + 129 = place_next_in s.ledger.set.real x inside ∙ ap (λ n. n + 8 + 129) (sym at_is) in
    task_put_in g.J.Job.kind s x at (place_of s.ledger.set.real (x + 1)) old c.put_number.new.bytes c.put_job.new.bytes o is
    (ap (λ n. take n old) at_is ∙ c.requires.front) (c.put_number.ensures.front ∙ ap (λ a. take at old ++ little_bytes 8 a) alloc_is) c.put_job.ensures.front end

pub returns-else-task-real-clause-front : goal.returns-else-task-real-clause-front
returns-else-task-real-clause-front g c =
    let s = c.args.state.now in
    let x = c.args.task in
    let at = c.place_of-at.result in
    let old = c.args.bytes.now in
    let real : c.real.result ≡ s.ledger.set.real = c.real.ensures ∙ ap (λ (l : Ledger). l.set.real) c.columns-2.ensures in
    let real_2 : c.real-2.result ≡ s.ledger.set.real = c.real-2.ensures ∙ ap (λ (l : Ledger). l.set.real) c.columns-4.ensures in
    let at_is : at ≡ place_of s.ledger.set.real x = c.place_of-at.ensures ∙ ap (λ n. place_of n x) real in
    let alloc_is : c.alloc.result ≡ slice_index_or s.ledger.allocs x 0 = c.alloc.ensures ∙ ap (λ (l : Ledger). slice_index_or l.allocs x 0) c.columns-3.ensures in
    let jobs : length s.jobs ≡ s.ledger.set.real = c.number-number.ensures.state.jobs in
    let past : s.ledger.set.real ≤ x = omega (arith, c.if-task-real.false) in
    let end : place_of s.ledger.set.real (x + 1) ≡ at + 8 = place_next_out s.ledger.set.real x past ∙ ap (λ n. n + 8) (sym at_is) in
    task_put_out g.J.Job.kind s x at (place_of s.ledger.set.real (x + 1)) old c.put_number.new.bytes (omega arith)
    (ap (λ n. take n old) at_is ∙ c.requires.front) (c.put_number.ensures.front ∙ ap (λ a. take at old ++ little_bytes 8 a) alloc_is) end

use Rattle.std.proofs.Common.{◌≡◌, ◌∙◌, sym, ap, ap₂, arith, false}
use Rattle.std.proofs.lemmas.Bool.{false≢true}
use Rattle.pfx_record.specs.Batches.{counts_fit}
use Rattle.pfx_record.proofs.Heads.{head_from, same_numbers}
use Rattle.pfx_record.proofs.read.read_head.Goals as goal

pub returns-then-bytes-head-clause-none : goal.returns-then-bytes-head-clause-none
returns-then-bytes-head-clause-none c len first count head =
    let same = same_numbers c.args.workers c.args.bytes.now c.head_of-head.result.len c.head_of-head.result.first c.head_of-head.result.count len first count (omega arith) (omega arith) (omega arith) c.head_of-head.ensures.len_at c.head_of-head.ensures.first_at c.head_of-head.ensures.count_at head in
    omega (arith, same.lens, head.whole)

pub returns-then-not-counts_fit-clause-none : goal.returns-then-not-counts_fit-clause-none
returns-then-not-counts_fit-clause-none c len first count head =
    let same = same_numbers c.args.workers c.args.bytes.now c.head_of-head.result.len c.head_of-head.result.first c.head_of-head.result.count len first count (omega arith) (omega arith) (omega arith) c.head_of-head.ensures.len_at c.head_of-head.ensures.first_at c.head_of-head.ensures.count_at head in
    let not : counts_fit c.args.workers c.head_of-head.result.first c.from.result ≡ false = sym c.counts_fit.ensures ∙ c.if-not-counts_fit.true in
    let there : counts_fit c.args.workers first count ≡ counts_fit c.args.workers c.head_of-head.result.first c.from.result = ap₂ (counts_fit c.args.workers) same.firsts (same.counts ∙ sym c.from.ensures) in
    false≢true (sym not ∙ sym there ∙ head.counts)

pub returns-clause-found : goal.returns-clause-found
returns-clause-found c = record {
  short = omega arith;
  begins = head_from c.args.bytes.now c.head_of-head.result.len c.head_of-head.result.first c.head_of-head.result.count (omega arith) (record {
    gate = c.if-bytes.false;
    len_at = c.head_of-head.ensures.len_at;
    first_at = c.head_of-head.ensures.first_at;
    count_at = c.head_of-head.ensures.count_at;
  });
  counts = ap (counts_fit c.args.workers c.head_of-head.result.first) (sym c.from.ensures) ∙ sym c.counts_fit.ensures ∙ c.if-not-counts_fit.false;
  whole = omega arith;
}

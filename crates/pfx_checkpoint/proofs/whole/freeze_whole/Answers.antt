use Rattle.std.proofs.Common.{rules, ◌≡◌, ◌≤◌, ◌+◌, ◌*◌, ◌-◌, ◌++◌, ℕ, length, take, drop, replicate, sym, ◌∙◌, ap, arith}
use Rattle.std.proofs.lemmas.List.{length-drop, length-take-le}
use Rattle.pfx_columns.specs.Ledgers.{Ledger}
use Rattle.pfx_machine.specs.Plain.{IsState}
use Rattle.pfx_checkpoint.specs.Spelling.{state_bytes, state_len}
use Rattle.pfx_checkpoint.specs.Whole.{head_bytes, spare, whole_bytes}
use Rattle.pfx_checkpoint.proofs.WholeBytes.{all_over, over_long}
use Rattle.pfx_checkpoint.proofs.Wholes.{alone_long, head_long, len_is}
use Rattle.pfx_checkpoint.proofs.whole.freeze_whole.Goals as goal

pub returns : goal.returns
unfolding whole_bytes
returns g c =
    let K = g.J.Job.kind in
    let L = g.met.J.Job.laws in
    let s = c.args.state.now in
    let h : IsState s = c.number-number.ensures.state in
    let r = c.real.result in
    let real : r ≡ s.ledger.set.real = c.real.ensures ∙ ap (λ (l : Ledger). l.set.real) c.columns-2.ensures in
    let old = c.args.bytes.now in
    let body = c.freeze.new.bytes in
    let head = c.put_head.new.head in
    let zeros = c.fill.new.self in
    let tasks = 25 + 8 * r in
    let at = tasks - 16 in
    let end = at + c.frozen_len.result in
    let k = end - at in
    let rest = drop k (drop at old) in
    let all = head ++ drop tasks (take at old ++ (body ++ rest)) in
    let spelled : body ≡ state_bytes K s = c.freeze.ensures in
    let headed : head ≡ head_bytes s = c.put_head.ensures in
    let len : c.frozen_len.result ≡ state_len s.ledger.set = c.frozen_len.ensures in
    let body_long : length body ≡ c.frozen_len.result = ap length spelled ∙ (alone_long K L s h ∙ sym len) in
    let head_is : length head ≡ tasks = ap length headed ∙ (head_long K L s h ∙ ap (λ (n : ℕ). 25 + 8 * n) (sym real)) in
    let parts = len_is K L s h in
    let front = h.ledger.set.front in
    let few = h.ledger.set.few in
    let one : length body ≡ k = omega (arith, body_long) in
    let inside : at + k ≤ length old = omega (arith, c.requires, real, len, parts, front, few) in
    let less : tasks ≤ at + k = omega (arith, len, parts) in
    let long : length all ≡ length old = over_long old body head at k tasks one inside less head_is in
    let n = length all - end in
    let left = length-drop end all in
    let mid : length (take n (drop end all)) ≡ n = length-take-le n (drop end all) (omega (arith, left)) in
    let count : n ≡ spare s.ledger.set = omega (arith, long, c.requires, real, len, parts, front, few) in
    let filled : zeros ≡ replicate (spare s.ledger.set) 0 = c.fill.ensures.after (λ y is. search rules) ∙ ap (λ (m : ℕ). replicate m 0) (mid ∙ count) in
    all_over old body head zeros at tasks end n (omega (arith, inside)) (omega arith) (omega (arith, body_long)) (omega (arith, body_long, len, parts)) head_is rest (omega (arith, long))
    ∙ (λ i. headed i ++ (drop 16 (spelled i) ++ filled i))

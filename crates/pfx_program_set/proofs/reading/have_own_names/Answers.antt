use Rattle.std.proofs.Common.{arith, ◌≡◌, ◌+◌, get_or, sym, ◌∙◌, true, false, not, string_bytes, drop}
use Rattle.std.proofs.lemmas.Grind.{common_steps}
use Rattle.std.specs.List.{list_all}
use Rattle.std.specs.Str.{bytes_eq}
use Rattle.pfx_program_set.proofs.SetLemmas.{are_distinct-drop}
use Rattle.pfx_program_set.proofs.reading.have_own_names.Goals as goal

pub returns-then-not-is_unused : goal.returns-then-not-is_unused
returns-then-not-is_unused c =
    let step = are_distinct-drop c.args.tasks.now c.loop-i.i c.index-tasks-i.result (omega arith) in
    let name = c.as_str.ensures.value in
    let said : list_all (λ u. not (bytes_eq (string_bytes (get_or c.args.tasks.now c.loop-i.i c.index-tasks-i.result).name) (string_bytes u.name))) (drop (c.loop-i.i + 1) c.args.tasks.now) ≡ false = grind (arith, common_steps) in
    sym (c.loop-i.invariant ∙ rw said at step)

pub loop-i-preserved : goal.loop-i-preserved
loop-i-preserved c =
    let step = are_distinct-drop c.args.tasks.now c.loop-i.i c.index-tasks-i.result (omega arith) in
    let name = c.as_str.ensures.value in
    let said : list_all (λ u. not (bytes_eq (string_bytes (get_or c.args.tasks.now c.loop-i.i c.index-tasks-i.result).name) (string_bytes u.name))) (drop (c.loop-i.i + 1) c.args.tasks.now) ≡ true = grind (arith, common_steps) in
    c.loop-i.invariant ∙ rw said at step

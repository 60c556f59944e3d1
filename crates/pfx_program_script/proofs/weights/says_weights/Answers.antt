use Rattle.std.proofs.Common.{rules, ◌≡◌, ◌==◌, length, is_none, is_some, false, sym, ap, lit<}
use Rattle.std.specs.List.{slice_split}
use Rattle.std.proofs.lemmas.List.{length_push}
use Rattle.std.proofs.lemmas.Iterator.Splits.{YieldsList-from_str_split}
use Rattle.std.proofs.lemmas.Iterator.Consumers.{YieldsList-turn, YieldsList-end}
use Rattle.pfx_program_script.proofs.WeightLemmas.{is_no_weight, reads_one, reads_no_weight, reads_all}
use Rattle.pfx_program_script.proofs.weights.says_weights.Goals as goal

pub loop-part-preserved : goal.loop-part-preserved
loop-part-preserved c =
    let text = c.args.text.now in
    let parts = slice_split (λ b. b == 32) text in
    let given = YieldsList-from_str_split 32 text (lit< tt) (search rules) (search rules) (search rules) in
    let at = YieldsList-turn given c.loop-part.yielded _ c.loop-part.yielded_by _ _ c.in-Some.part c.in-Some.is c.next.ensures.steps in
    let there : is_none c.weight_in.result ≡ false = search rules in
    rw (length_push c.loop-part.yielded c.in-Some.part) (reads_one parts (length c.loop-part.yielded) c.in-Some.part.now c.weight_in.result c.loop-part.invariant at (sym c.weight_in.ensures) there)

pub returns-then-is_none : goal.returns-then-is_none
returns-then-is_none c =
    let text = c.args.text.now in
    let parts = slice_split (λ b. b == 32) text in
    let given = YieldsList-from_str_split 32 text (lit< tt) (search rules) (search rules) (search rules) in
    let at = YieldsList-turn given c.loop-part.yielded _ c.loop-part.yielded_by _ _ c.in-Some.part c.in-Some.is c.next.ensures.steps in
    let none = is_no_weight c.in-Some.part.now c.weight_in.result (sym c.weight_in.ensures) (search rules) in
    sym (ap is_some (reads_no_weight parts (length c.loop-part.yielded) c.loop-part.invariant.0 c.in-Some.part.now c.loop-part.invariant.1 at none))

pub returns : goal.returns
returns c =
    let text = c.args.text.now in
    let parts = slice_split (λ b. b == 32) text in
    let given = YieldsList-from_str_split 32 text (lit< tt) (search rules) (search rules) (search rules) in
    let at = YieldsList-end given c.loop-part.yielded _ c.loop-part.yielded_by _ _ c.in-None.is c.next.ensures.steps in
    sym (ap is_some (reads_all parts (length c.loop-part.yielded) c.loop-part.invariant.0 c.loop-part.invariant.1 at.1))

use Rattle.std.proofs.Common.{rules, ◌≡◌, ◌==◌, ◌++◌, ◌∷◌, [], length, Some, None, sym, lit<}
use Rattle.std.specs.List.{slice_split}
use Rattle.std.proofs.lemmas.List.{length_push}
use Rattle.std.proofs.lemmas.Iterator.Splits.{YieldsList-from_str_split}
use Rattle.std.proofs.lemmas.Iterator.Consumers.{YieldsList-turn, YieldsList-end}
use Rattle.pfx_program_script.specs.Weights.{weight_in}
use Rattle.pfx_program_script.proofs.WeightLemmas.{reads_more, reads_no_weight, reads_all}
use Rattle.pfx_program_script.proofs.weights.weights_in.Goals as goal

pub loop-part-preserved : goal.loop-part-preserved
loop-part-preserved c =
    let text = c.args.text.now in
    let parts = slice_split (λ b. b == 32) text in
    let given = YieldsList-from_str_split 32 text (lit< tt) (search rules) (search rules) (search rules) in
    let at = YieldsList-turn given c.loop-part.yielded _ c.loop-part.yielded_by _ _ c.in-Some.part c.in-Some.is c.next.ensures.steps in
    let weight = c.in-Some-weight_in.weight in
    let is : weight_in c.in-Some.part.now ≡ Some weight = sym c.in-Some-weight_in.ensures in
    let held : c.push.new.self.items ≡ c.loop-part.weights.items ++ weight ∷ [] = c.in_ok-push-in-Some-weight_in.ensures.items in
    rw (length_push c.loop-part.yielded c.in-Some.part, held) (reads_more parts (length c.loop-part.yielded) c.loop-part.weights.items c.in-Some.part.now weight c.loop-part.invariant at is)

pub returns-in-None-weight_in : goal.returns-in-None-weight_in
returns-in-None-weight_in c =
    let text = c.args.text.now in
    let parts = slice_split (λ b. b == 32) text in
    let given = YieldsList-from_str_split 32 text (lit< tt) (search rules) (search rules) (search rules) in
    let at = YieldsList-turn given c.loop-part.yielded _ c.loop-part.yielded_by _ _ c.in-Some.part c.in-Some.is c.next.ensures.steps in
    let is : weight_in c.in-Some.part.now ≡ None = sym c.in-None-weight_in.ensures in
    sym (reads_no_weight parts (length c.loop-part.yielded) c.loop-part.weights.items c.in-Some.part.now c.loop-part.invariant at is)

pub returns : goal.returns
returns c =
    let text = c.args.text.now in
    let parts = slice_split (λ b. b == 32) text in
    let given = YieldsList-from_str_split 32 text (lit< tt) (search rules) (search rules) (search rules) in
    let at = YieldsList-end given c.loop-part.yielded _ c.loop-part.yielded_by _ _ c.in-None.is c.next.ensures.steps in
    sym (reads_all parts (length c.loop-part.yielded) c.loop-part.weights.items c.loop-part.invariant at.1)

use Rattle.std.proofs.Common.{◌≡◌, ◌+◌, ◌++◌, ◌∷◌, [], ◌∙◌, ap, ap₂, arith, take, length, append_assoc}
use Rattle.std.specs.Prelude.{List, ℕ, slice_set}
use Rattle.std.proofs.lemmas.List.{take_more_set, length-set}
use Rattle.std.proofs.lemmas.Slice.{take-put_mid}
use Rattle.pfx_checkpoint.proofs.freezing.put_flagged.Goals as goal

pub returns-clause-front : goal.returns-clause-front
returns-clause-front c =
    let xs = slice_set c.args.bytes.now c.args.at c.args.flag in
    let same : c.copy_from_slice.new.self ≡ c.args.spelled.now = c.copy_from_slice.ensures.after in
    let long : length c.copy_from_slice.new.self ≡ 128 = ap length same ∙ c.told-spelled in
    let all = length-set c.args.bytes.now c.args.at c.args.flag in
    take-put_mid (c.args.at + 1) _ xs c.copy_from_slice.new.self (c.args.at + 129) (omega arith) (omega (arith, c.requires))
    ∙ (ap₂ (λ (us vs : List ℕ). us ++ vs) (take_more_set c.args.bytes.now c.args.at c.args.flag (omega (arith, c.requires))) same
    ∙ append_assoc (take c.args.at c.args.bytes.now) (c.args.flag ∷ []) c.args.spelled.now)

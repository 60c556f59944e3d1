use Rattle.std.proofs.Common.{◌≡◌, ◌∙◌, Some, map, sym, subst}
use Rattle.std.proofs.lemmas.Option.{none-some}
use Rattle.pfx_record.specs.Records.{plain}
use Rattle.pfx_record_redo.specs.Applying.{applied}
use Rattle.pfx_replay.proofs.file.numbers_before.Goals as goal

pub returns-then-branch : goal.returns-then-branch
returns-then-branch g c = (
  c.in_ok-numbers.ensures,
  (c.apply_all.new.state, subst (λ s. applied g.J.Job.kind s (map plain c.args.records.now) ≡ Some c.apply_all.new.state) (sym c.in_ok-numbers.ensures) (c.in_ok-apply_all.ensures.taken c.if-branch.true)),
)

pub returns-else-branch : goal.returns-else-branch
returns-else-branch g c t led = none-some t (sym (c.in_ok-apply_all.ensures.wrong c.if-branch.false) ∙ led)

use Rattle.std.proofs.Common.{◌≡◌, ◌==◌, length, true, arith, sym, ◌∙◌}
use Rattle.std.proofs.lemmas.Bool.Decides.{nat_tests}
use Rattle.pfx_program_script.proofs.Passing.{takes_none_of, at_end}
use Rattle.pfx_program_script.specs.Heard.{heard_left}
use Rattle.pfx_program_script.specs.Whole.{whole_left}
use Rattle.pfx_program_script.proofs.whole.WholeRead.read.Goals.{then-is_empty-via-then-is_empty, then-is_empty-via-else-is_empty+then-is_over}
use Rattle.pfx_program_script.proofs.whole.WholeRead.read.Goals as goal

pub returns-then-is_empty-clause-bytes : goal.returns-then-is_empty-clause-bytes
returns-then-is_empty-clause-bytes g c =
    elim c.then-is_empty.branch [
      | then-is_empty-via-then-is_empty w ↦ (takes_none_of (whole_left g.R.Read.remaining c.args.self.now), λ none some. let e : (length c.args.bytes.now == 0) ≡ true = sym c.is_empty.ensures ∙ w.if-is_empty.true in absurd (grind (arith, nat_tests)))
      | then-is_empty-via-else-is_empty+then-is_over w ↦
          (takes_none_of (whole_left g.R.Read.remaining c.args.self.now), λ none some. at_end c.args.self.now.spot (heard_left g.R.Read.remaining c.args.self.now.input) (sym w.is_over.ensures ∙ w.if-is_over.true))
    ]

use Rattle.std.proofs.Common.{◌≡◌, ◌∙◌, Some, ap, subst}
use Rattle.std.specs.Prelude.{option_map}
use Rattle.clap.specs.Matches.{found_of}
use Rattle.clap.specs.Walk.{all_of, rows_of, texts}
use Rattle.clap.proofs.WalkLemmas.{raw_values-rows}
use Rattle.pfx_program_args.proofs.arguments.texts_under.Goals as goal

pub returns-in_ok-from_slice-in-Some : goal.returns-in_ok-from_slice-in-Some
returns-in_ok-from_slice-in-Some c =
    let whole = c.get_strs.ensures ∙ raw_values-rows (found_of c.args.matches.now) c.args.name.now in
    ap (λ items. Some (texts items)) c.in_ok-from_slice-in-Some.ensures.items
    ∙ subst (λ found. option_map (λ s. texts s.now) found ≡ all_of c.args.name.now (rows_of (found_of c.args.matches.now))) c.in-Some.is whole

pub returns-in-None : goal.returns-in-None
returns-in-None c =
    let whole = c.get_strs.ensures ∙ raw_values-rows (found_of c.args.matches.now) c.args.name.now in
    subst (λ found. option_map (λ s. texts s.now) found ≡ all_of c.args.name.now (rows_of (found_of c.args.matches.now))) c.in-None.is whole

use Rattle.std.proofs.Common.{◌≡◌, None, Err, rules, ◌∙◌}
use Rattle.toml.specs.View.{table_view}
use Rattle.pfx_program_set.specs.SetFile.{set_in}
use Rattle.pfx_program_set.proofs.SetLemmas.{set_of_bytes-document, set_of_bytes-none, read_fails}
use Rattle.pfx_program_set.proofs.reading.read_set.Goals as goal

pub returns-in-Err-2-clause-err : goal.returns-in-Err-2-clause-err
returns-in-Err-2-clause-err c = set_of_bytes-none c.args.bytes.now (c.in-Err-2.ensures.refused (search rules))

pub returns-in_default-clause-err : goal.returns-in_default-clause-err
unfolding set_in
returns-in_default-clause-err c =
    let said = set_of_bytes-document c.args.bytes.now (table_view c.in-Ok.table) c.in-Ok.ensures.ok.0 c.in-Ok.ensures.ok.1 in
    let none : set_in (table_view c.in-Ok.table) ≡ None = search rules in
    said ∙ none

pub returns-in_default-segment_under-clause-err : goal.returns-in_default-segment_under-clause-err
unfolding set_in
returns-in_default-segment_under-clause-err c =
    let said = set_of_bytes-document c.args.bytes.now (table_view c.in-Ok.table) c.in-Ok.ensures.ok.0 c.in-Ok.ensures.ok.1 in
    let none : set_in (table_view c.in-Ok.table) ≡ None = search rules in
    said ∙ none

pub returns-in_err-tasks-clause-err : goal.returns-in_err-tasks-clause-err
unfolding set_in
returns-in_err-tasks-clause-err c =
    let said = set_of_bytes-document c.args.bytes.now (table_view c.in-Ok.table) c.in-Ok.ensures.ok.0 c.in-Ok.ensures.ok.1 in
    let same : c.from_residual.result ≡ Err c.in_err-tasks.field-0.0 = search rules in
    rw same (read_fails c.args.bytes.now c.in_err-tasks.field-0.0 c.in_err-tasks.ensures.faults
    (λ bad. let none : set_in (table_view c.in-Ok.table) ≡ None = search rules in said ∙ none))

pub returns-clause-ok : goal.returns-clause-ok
unfolding set_in
returns-clause-ok c =
    set_of_bytes-document c.args.bytes.now (table_view c.in-Ok.table) c.in-Ok.ensures.ok.0 c.in-Ok.ensures.ok.1 ∙ search rules

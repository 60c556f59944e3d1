use Rattle.std.proofs.Common.{◌∙◌, ◌<◌, ◌++◌, ◌∷◌, [], refl, ap, ap₂, length, string_bytes, arith}
use Rattle.std.specs.Fmt.{decimal}
use Rattle.pfx_program.specs.Leaving.{ledger_text}
use Rattle.pfx_program.proofs.LeavingLemmas.{numbers_more, numbers_over}
use Rattle.pfx_program.proofs.leaving.ledger_text.Goals as goal

pub loop-x-preserved : goal.loop-x-preserved
unfolding lib.Utf8.encode
loop-x-preserved c =
    let columns = c.args.columns.now in
    let whole = c.total-x-end.ensures.ledger.length in
    let below : c.loop-x.x < length columns.allocs = omega (arith, whole) in
    let number = c.as_str.ensures.value ∙ (c.in_ok-number.ensures.ok ∙ ap decimal c.alloc.ensures) in
    let is = c.in_ok-push_str-2.ensures.bytes ∙ ap₂ (◌++◌) c.in_ok-push_str.ensures.bytes number in
    ((44 ∷ [], (refl, refl)), numbers_more columns.allocs c.loop-x.x c.loop-x.sign.now (string_bytes c.loop-x.text) (string_bytes c.push_str-in-loop-x.new.self) (ledger_text columns) below c.loop-x.invariant.1 is)

pub returns : goal.returns
returns c =
    let whole = c.total-x-end.ensures.ledger.length in
    numbers_over c.args.columns.now.allocs c.loop-x.x c.loop-x.sign.now (string_bytes c.loop-x.text) (ledger_text c.args.columns.now) (omega (arith, whole)) c.loop-x.invariant.1

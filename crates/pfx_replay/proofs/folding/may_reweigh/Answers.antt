use Rattle.std.proofs.Common.{◌≡◌, ◌≢◌, ◌≤◌, ◌∙◌, length, sym, subst, IsTrue, rules}
use Rattle.std.proofs.lemmas.Bool.{false≢true, leb-true, le-leb}
use Rattle.std.specs.Prelude.{◌↔◌}
use Rattle.pfx_columns.specs.Levels.{IsLevel}
use Rattle.pfx_machine.specs.Reweighing.{least_for}
use Rattle.pfx_weights.specs.declared.faults.SetFault.TheVariants.{NoMemory}
use Rattle.pfx_replay.specs.Shown.{ledger_of}
use Rattle.pfx_replay.proofs.Reweighs.{count_refused, level_refused, room_decides, set_refused}
use Rattle.pfx_replay.proofs.folding.may_reweigh.Goals as goal

pub returns-then-weights-state : goal.returns-then-weights-state
returns-then-weights-state g c =
    let s = c.args.state.now in
    let other : length c.args.weights.now ≢ s.ledger.real = search rules in
    ((λ never. cc), λ none. absurd (count_refused (ledger_of s.ledger) s.segment c.args.workers c.args.weights.now other none))

pub returns-then-not-is_level : goal.returns-then-not-is_level
returns-then-not-is_level g c =
    let s = c.args.state.now in
    let count : length c.args.weights.now ≡ s.ledger.real = search rules in
    let other : IsLevel (ledger_of s.ledger) → ⊥ = λ level. (let yes = c.is_level.ensures.1 level in search rules) in
    ((λ never. cc), λ none. absurd (level_refused (ledger_of s.ledger) s.segment c.args.workers c.args.weights.now count other none))

pub returns-in-Ok : goal.returns-in-Ok
returns-in-Ok g c =
    let s = c.args.state.now in
    let yes : IsTrue c.is_level.result = search rules in
    room_decides (ledger_of s.ledger) s.segment c.args.workers c.args.weights.now c.in-Ok.set _ c.in-Ok.ensures c.if-weights-state.false (c.is_level.ensures.0 yes)
    (λ may. subst (λ k. k ≤ s.segment) c.least_for.ensures (leb-true _ _ may), λ room. le-leb _ _ (subst (λ k. k ≤ s.segment) (sym c.least_for.ensures) room))

pub returns-else-is_memory : goal.returns-else-is_memory
returns-else-is_memory g c =
    let s = c.args.state.now in
    let yes : IsTrue c.is_level.result = search rules in
    let why : c.in-Err.fault ≢ NoMemory = λ is. false≢true (sym c.if-is_memory.false ∙ c.is_memory.ensures.1 is) in
    ((λ never. cc), λ none. absurd (set_refused (ledger_of s.ledger) s.segment c.args.workers c.args.weights.now c.in-Err.fault c.if-weights-state.false (c.is_level.ensures.0 yes) why c.in-Err.ensures none))

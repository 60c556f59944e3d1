use Rattle.std.proofs.Common.{◌≡◌, ◌≤◌, ◌<◌, ◌+◌, ◌^◌, ◌∙◌, ℕ, ap, ap₂, arith, rules, to_z, of_z, w64}
use Rattle.std.proofs.lemmas.Int.{to_z-of_z}
use Rattle.std.specs.Prelude.{slice_get}
use Rattle.pfx_columns.specs.Lags.{lag_of}
use Rattle.pfx_columns.specs.Ledgers.{task}
use Rattle.pfx_machine.specs.Jobs.{is_busy}
use Rattle.pfx_weights.specs.Rows.{one}
use Rattle.pfx_replay.specs.Shown.{ledger_of}
use Rattle.pfx_replay_totals.proofs.Weights.{got_few, got_is, same_share, weight_is, weight_kept}
use Rattle.pfx_replay_totals.proofs.states.share_in.Goals as goal

pub overflow_add-index : goal.overflow_add-index
overflow_add-index g c =
    let l = c.args.state.now.ledger in
    let a = got_few (ledger_of l) c.args.task l.kept c.requires c.index-2.result.now c.index-2.ensures in
    omega (arith, a, c.one.ensures.few, l.kept.slot)

pub lag_of-requires : goal.lag_of-requires
lag_of-requires g c =
    let l = c.args.state.now.ledger in
    let w = weight_kept (ledger_of l) c.args.task l.kept c.requires c.index.result.now c.index.ensures in
    let a = got_few (ledger_of l) c.args.task l.kept c.requires c.index-2.result.now c.index-2.ensures in
    record { weight = (omega (arith, w.0, w.1), w.1); got = omega (arith, a, c.one.ensures.few, l.kept.slot); slot = omega (arith, l.kept.slot) }

pub returns-clause-share : goal.returns-clause-share
returns-clause-share g c =
    let l = c.args.state.now.ledger in
    let x = c.args.task in
    let w = weight_is (ledger_of l) x l.kept c.requires c.index.result.now c.index.ensures in
    let a = got_is (ledger_of l) x l.kept c.requires c.index-2.result.now c.index-2.ensures in
    let got = ap₂ (λ m n. m + n) a (c.one.ensures.count ∙ ap one c.is_in-got.ensures) in
    let lag = to_z-of_z w64 c.lag_of.result (search rules) ∙ c.lag_of.ensures ∙ ap (λ (v : ℕ × ℕ). lag_of v.0 v.1 (c.index-2.result.now + c.one.result) (l.slot + 1)) w
    ∙ ap (λ n. lag_of (task (ledger_of l) x).e (task (ledger_of l) x).p n (l.slot + 1)) got in
    same_share (ap (λ (v : ℕ × ℕ). v.0) w) (ap (λ (v : ℕ × ℕ). v.1) w) c.is_in-got.ensures
    (c.is_busy.ensures ∙ ap (λ jobs. is_busy g.J.Job.kind (slice_get jobs x)) c.deref.ensures.value) lag

pub returns-clause-kept : goal.returns-clause-kept
returns-clause-kept g c =
    let l = c.args.state.now.ledger in
    let w = weight_kept (ledger_of l) c.args.task l.kept c.requires c.index.result.now c.index.ensures in
    record { below = w.0; limit = w.1 }

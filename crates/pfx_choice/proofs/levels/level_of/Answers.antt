use Rattle.std.proofs.Common.{ap, sym, arith}
use Rattle.std.specs.declared.cmp.Ordering.TheVariants.{Greater}
use Rattle.pfx_symbols.specs.Ranks.{substring}
use Rattle.pfx_columns.specs.Ledgers.{rank}
use Rattle.pfx_choice.specs.Levels.{level_number}
use Rattle.pfx_choice.proofs.Best.{rank_in}
use Rattle.pfx_choice.proofs.KindKeys.{less_gap, less_key, same_key}
use Rattle.pfx_choice.proofs.Levelling.{turned}
use Rattle.pfx_choice.proofs.levels.level_of.Goals as goal

pub returns-then-kind-other-2 : goal.returns-then-kind-other-2
returns-then-kind-other-2 c =
    let g = c.args.ledger.now in
    let h = c.total-total.ensures.ledger in
    let a = rank g c.args.x in
    let b = rank g c.args.q in
    sym (ap level_number (less_gap a b c.args.kind.now.gap c.args.other.now.gap (rank_in g c.args.x h c.requires.tasks.0) (rank_in g c.args.q h c.requires.tasks.1) c.requires.kind.gap c.requires.other.gap c.if-kind-other-2.true))

pub returns-else-kind-other-2 : goal.returns-else-kind-other-2
returns-else-kind-other-2 c =
    let g = c.args.ledger.now in
    let h = c.total-total.ensures.ledger in
    let a = rank g c.args.x in
    let b = rank g c.args.q in
    let longer = less_gap b a c.args.other.now.gap c.args.kind.now.gap (rank_in g c.args.q h c.requires.tasks.1) (rank_in g c.args.x h c.requires.tasks.0) c.requires.other.gap c.requires.kind.gap (omega (arith, c.if-kind-other.true, c.if-kind-other-2.false)) in
    sym (ap level_number (turned (substring b) (substring a) Greater longer))

pub returns-then-kind-other-4 : goal.returns-then-kind-other-4
returns-then-kind-other-4 c =
    let g = c.args.ledger.now in
    let h = c.total-total.ensures.ledger in
    let a = rank g c.args.x in
    let b = rank g c.args.q in
    let i = c.args.kind.now in
    let j = c.args.other.now in
    sym (ap level_number (less_key a b i.gap j.gap i.key j.key (rank_in g c.args.x h c.requires.tasks.0) (rank_in g c.args.q h c.requires.tasks.1) c.requires.kind.key c.requires.other.key c.if-kind-other.false c.if-kind-other-4.true))

pub returns-else-kind-other-4 : goal.returns-else-kind-other-4
returns-else-kind-other-4 c =
    let g = c.args.ledger.now in
    let h = c.total-total.ensures.ledger in
    let a = rank g c.args.x in
    let b = rank g c.args.q in
    let i = c.args.kind.now in
    let j = c.args.other.now in
    let greater = less_key b a j.gap i.gap j.key i.key (rank_in g c.args.q h c.requires.tasks.1) (rank_in g c.args.x h c.requires.tasks.0) c.requires.other.key c.requires.kind.key (sym c.if-kind-other.false) (omega (arith, c.if-kind-other-3.true, c.if-kind-other-4.false)) in
    sym (ap level_number (turned (substring b) (substring a) Greater greater))

pub returns-then-other : goal.returns-then-other
returns-then-other c =
    let g = c.args.ledger.now in
    let h = c.total-total.ensures.ledger in
    let a = rank g c.args.x in
    let b = rank g c.args.q in
    let i = c.args.kind.now in
    let j = c.args.other.now in
    sym (ap level_number (same_key a b i.gap j.gap i.key j.key (rank_in g c.args.x h c.requires.tasks.0) (rank_in g c.args.q h c.requires.tasks.1) c.requires.kind.key c.requires.other.key c.if-kind-other.false c.if-kind-other-3.false c.if-kind.true c.if-other.true))

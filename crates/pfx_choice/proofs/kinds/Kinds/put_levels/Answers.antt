use Rattle.std.proofs.Common.{◌≡◌, ◌<◌, ℕ, List, drop, length, slice_index_or, arith, ap, sym, ◌∙◌, refl, subst}
use Rattle.std.proofs.lemmas.List.{get_or_read, take_at}
use Rattle.pfx_columns.specs.Ledgers.{Ledger, IsLedger, total}
use Rattle.pfx_choice.specs.Kinds.{AreKindsIn}
use Rattle.pfx_choice.specs.declared.kind.Kind.{Kind}
use Rattle.pfx_choice.specs.Renewed.{AreRenewed}
use Rattle.pfx_choice.specs.Levels.{AreTold, AreShared}
use Rattle.pfx_choice.proofs.Levelling.{one_kind, shared_level}
use Rattle.pfx_choice.proofs.kinds.Kinds.put_levels.Goals as goal

pub returns-then-n-eq1 : goal.returns-then-n-eq1
returns-then-n-eq1 c =
    let fr = c.args.self.now.fractions in
    let one : length fr.firsts.items ≡ 1 = omega (arith, c.len-n.ensures, c.if-n-eq1.true, fr.firsts.ok.0) in
    let first = c.from.ensures ∙ get_or_read fr.firsts.items 0 c.index.result.now (omega (arith, one)) c.index.ensures 0 in
    one_kind c.args.ledger.now c.from.result fr.firsts.items fr.of_tasks.items c.args.classes.now c.total-total.ensures.ledger (c.if-not-are_of.ensures refl) one first c.requires

pub count_marked-requires : goal.count_marked-requires
count_marked-requires c = (let n = c.requires.all in omega (arith, n, c.total-total.ensures.ledger.set.number))

-- the same of vectors' items as they are behind slices
shared_behind : (g : Ledger) (q p : ℕ) (firsts kinds levels f k l : List ℕ) → IsLedger g → AreKindsIn g firsts kinds → f ≡ firsts → k ≡ kinds → q ≡ slice_index_or firsts p 0 → AreTold g (slice_index_or f p 0) f levels → l ≡ levels → AreShared g q k l
shared_behind g q p firsts kinds levels f k l h of f_is k_is q_is told l_is =
    let P : List ℕ → Type 0 = λ z. AreTold g (slice_index_or z p 0) z levels in
    let here = shared_level g (slice_index_or firsts p 0) firsts kinds levels h of (subst P f_is told) in
    subst (λ z. AreShared g q k z) (sym l_is) (subst (λ z. AreShared g q z levels) (sym k_is) (subst (λ z. AreShared g z kinds levels) (sym q_is) here))

pub level_classes-requires-clause-levels : goal.level_classes-requires-clause-levels
level_classes-requires-clause-levels c =
    let fr = c.args.self.now.fractions in
    let low = c.if-pivot-n.false in
    let first = c.from-q.ensures ∙ get_or_read fr.firsts.items c.guess-pivot.result c.index-2.result.now (omega (arith, low, c.len-n.ensures, fr.firsts.ok.0)) c.index-2.ensures 0 in
    shared_behind c.args.ledger.now c.from-q.result c.guess-pivot.result fr.firsts.items fr.of_tasks.items c.tell_levels.new.levels c.deref-5.result.now c.deref-7.result.now c.deref-6.result.now
    c.total-total.ensures.ledger (c.if-not-are_of.ensures refl) c.deref-5.ensures.value c.deref-7.ensures.value first c.tell_levels.ensures
    (let v = c.deref-6.ensures.value in
    let all = c.args.self.now.levels in
    let levels = c.tell_levels.new.levels in
    let size = ap length c.deref_mut-5.ensures.value in
    v ∙ take_at levels (drop (length levels) all.items) all.len (omega (arith, c.tell_levels.auto.levels, size, all.ok.0)))

-- first tasks and kinds as they are behind slices
firsts_behind : (g : Ledger) (firsts kinds f : List ℕ) → AreKindsIn g firsts kinds → f ≡ firsts → (k : ℕ) → k < length f → slice_index_or f k 0 < total g
firsts_behind g firsts kinds f of is = subst (λ l. (k : ℕ) → k < length l → slice_index_or l k 0 < total g) (sym is) of.first

kinds_behind : (g : Ledger) (firsts kinds f : List ℕ) (n : ℕ) → AreKindsIn g firsts kinds → f ≡ kinds → n ≡ length firsts → (x : ℕ) → x < length f → slice_index_or f x 0 < n
kinds_behind g firsts kinds f n of is n_is = subst (λ l. (x : ℕ) → x < length l → slice_index_or l x 0 < n) (sym is) (λ x l. (let w = of.within x (omega (arith, l, of.long)) in omega (arith, w, n_is)))

renewed_behind : (g : Ledger) (firsts f : List ℕ) (kinds k : List Kind) → f ≡ firsts → k ≡ kinds → AreRenewed g firsts kinds → AreRenewed g f k
renewed_behind g firsts f kinds k f_is k_is h = subst (λ z. AreRenewed g f z) (sym k_is) (subst (λ z. AreRenewed g z kinds) (sym f_is) h)

pub count_kinds-requires-clause-kinds : goal.count_kinds-requires-clause-kinds
count_kinds-requires-clause-kinds c =
    let own = c.args.self.now in
    let fr = own.fractions in
    let size = ap length c.deref_mut.ensures.value in
    kinds_behind c.args.ledger.now fr.firsts.items fr.of_tasks.items c.deref.result.now (length c.deref_mut.result.now) (c.if-not-are_of.ensures refl) c.deref.ensures.value
    (omega (arith, size, own.counts.ok.0, c.len-else-len-n.ensures, c.if-len-n-2.false, c.len-n.ensures, fr.firsts.ok.0))

pub count_kinds-requires-clause-classes : goal.count_kinds-requires-clause-classes
count_kinds-requires-clause-classes c = (let of = c.if-not-are_of.ensures refl in ap length c.deref.ensures.value ∙ of.long ∙ sym c.requires.all)

pub renew-requires-clause-kinds : goal.renew-requires-clause-kinds
renew-requires-clause-kinds c =
    let own = c.args.self.now in
    let size = ap length c.deref_mut-2.ensures.value in
    let firsts = ap length c.deref-2.ensures.value in
    omega (arith, size, firsts, own.kinds.ok.0, c.len-else-len-n-2.ensures, c.if-len-n-3.false, c.len-n.ensures, own.fractions.firsts.ok.0)

pub renew-requires-clause-firsts : goal.renew-requires-clause-firsts
renew-requires-clause-firsts c = (let fr = c.args.self.now.fractions in firsts_behind c.args.ledger.now fr.firsts.items fr.of_tasks.items c.deref-2.result.now (c.if-not-are_of.ensures refl) c.deref-2.ensures.value)

pub tell_levels-requires-clause-firsts : goal.tell_levels-requires-clause-firsts
tell_levels-requires-clause-firsts c = (let fr = c.args.self.now.fractions in firsts_behind c.args.ledger.now fr.firsts.items fr.of_tasks.items c.deref-5.result.now (c.if-not-are_of.ensures refl) c.deref-5.ensures.value)

pub tell_levels-requires-clause-kinds : goal.tell_levels-requires-clause-kinds
tell_levels-requires-clause-kinds c =
    let own = c.args.self.now in
    let new = c.renew.new.kinds in
    let size = ap length c.deref_mut-2.ensures.value in
    let v = c.deref-4.ensures.value in
    renewed_behind c.args.ledger.now c.deref-2.result.now c.deref-5.result.now new c.deref-4.result.now (c.deref-5.ensures.value ∙ sym c.deref-2.ensures.value)
    (v ∙ take_at new (drop (length new) own.kinds.items) own.kinds.len (omega (arith, c.renew.auto.kinds, size, own.kinds.ok.0))) c.renew.ensures

pub tell_levels-requires-clause-levels : goal.tell_levels-requires-clause-levels
tell_levels-requires-clause-levels c =
    let own = c.args.self.now in
    let size = ap length c.deref_mut-5.ensures.value in
    let firsts = ap length c.deref-5.ensures.value in
    omega (arith, size, firsts, own.levels.ok.0, c.len.ensures, c.if-len-n.false, c.len-n.ensures, own.fractions.firsts.ok.0)

pub tell_levels-requires-clause-pivot : goal.tell_levels-requires-clause-pivot
tell_levels-requires-clause-pivot c =
    let low = c.if-pivot-n.false in
    let firsts = ap length c.deref-5.ensures.value in
    omega (arith, low, firsts, c.len-n.ensures, c.args.self.now.fractions.firsts.ok.0)

pub level_classes-requires-clause-classes : goal.level_classes-requires-clause-classes
level_classes-requires-clause-classes c = c.requires

pub returns : goal.returns
returns c =
    let fr = c.args.self.now.fractions in
    let low = c.if-pivot-n.false in
    let inside : c.guess-pivot.result < length fr.firsts.items = omega (arith, low, c.len-n.ensures, fr.firsts.ok.0) in
    let first = c.from-q.ensures ∙ get_or_read fr.firsts.items c.guess-pivot.result c.index-2.result.now inside c.index-2.ensures 0 in
    let of = c.if-not-are_of.ensures refl in
    let within = of.first c.guess-pivot.result inside in
    (omega (arith, within, first), c.level_classes.ensures)

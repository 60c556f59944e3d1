use Rattle.std.proofs.Common.{◌≡◌, ℕ, List, ◌<◌, ◌≤◌, ◌+◌, length, map, refl, sym, ap, ◌∙◌, subst, arith, rules}
use Rattle.pfx_book.specs.declared.note.Note.{Note}
use Rattle.pfx_book.specs.Merging.{lists_from}
use Rattle.pfx_book.specs.Notes.{answers_of}
use Rattle.pfx_book.specs.Register.{Register}
use Rattle.pfx_book.specs.Merging.{IsMerge}
use Rattle.pfx_book.proofs.Gathering.{all_long, gathered_more, gathered_all, pass_here}
use Rattle.pfx_book.proofs.book.Book.gathered.Goals as goal

pub loop-i-preserved : goal.loop-i-preserved
loop-i-preserved g c =
    let i = c.loop-i.invariant in
    let s = c.look-same.ensures.same in
    let below : c.loop-i.i < length c.loop-i.passes.items = search rules in
    let f = λ (p : ℕ × List (Note g.row.J.Denot)). answers_of p.1 in
    let m = gathered_more f c.loop-i.passes.items c.loop-i.i (c.loop-i.i + 1) c.index_mut.result.now _ c.look-same.new.pass c.loop-i.self.history refl below c.index_mut.ensures.value s.1 (c.look-same.ensures.its (search rules)) i.3 in (
      s.0 ∙ i.0,
      m.0 ∙ i.1,
      (let l = ap length m.0 in omega (arith, below, l)),
      m.1 ∙ ap (λ (v : Register g.row.J.Denot). lists_from 1 (c.loop-i.i + 1) v.history) (sym s.0),
    )

pub returns-clause-merge : goal.returns-clause-merge
returns-clause-merge g c = λ _.
    let s = c.self.inside in
    let K = g.J.Job.kind in
    let B = g.B.Named.start in
    let h = c.self.invariant.0 in
    let i = c.loop-i.invariant in
    let f = λ (p : ℕ × List (Note g.row.J.Denot)). answers_of p.1 in
    let far : length c.loop-i.passes.items ≤ c.loop-i.i = search rules in
    let count : s.passes ≡ length c.loop-i.passes.items = search rules in
    let seen = ap (λ (v : Register g.row.J.Denot). v.history) c.self.view_is in
    let merge = gathered_all f c.loop-i.passes.items c.loop-i.i s.passes c.loop-i.self.history h.all count i.2 far i.3 (sym seen ∙ h.entries) h.is_told.tagged in
    subst (λ (q : List (ℕ × List (Note g.row.J.Denot)) × List (ℕ × Note g.row.J.Denot)). IsMerge (map f q.0) q.1) (λ j. (i.1 j, ap (λ (v : Register g.row.J.Denot). v.history) i.0 j)) merge

pub returns-then-not-same-clause-all : goal.returns-then-not-same-clause-all
returns-then-not-same-clause-all g c = λ all.
    let i = c.loop-i.invariant in
    let below : c.loop-i.i < length c.loop-i.passes.items = search rules in
    let seen = ap (λ (l : List (ℕ × List (Note g.row.J.Denot))). map (λ p. p.0) l) i.1 ∙ all in
    absurd (c.if-not-same.ensures.other refl (pass_here c.loop-i.passes.items c.loop-i.i c.args.self.now.passes c.index_mut.result.now _ seen below c.index_mut.ensures.value))

pub returns-then-self-len-clause-all : goal.returns-then-self-len-clause-all
returns-then-self-len-clause-all g c = λ all.
    let i = c.loop-i.invariant in
    let long = all_long c.loop-i.passes.items c.args.self.now.passes (ap (λ (l : List (ℕ × List (Note g.row.J.Denot))). map (λ p. p.0) l) i.1 ∙ all) in
    let count = ap (λ (v : Register g.row.J.Denot). v.passes) (c.self.view_is ∙ i.0) ∙ sym long in
    absurd (search (rules, count))

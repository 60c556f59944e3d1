use Rattle.std.proofs.Common.{◌≡◌, ℕ, ◌-◌, ◌*◌, ◌==◌, if◌then◌else◌, ap, sym, ◌∙◌}
use Rattle.std.proofs.lemmas.Bool.{eq-eqb, ne_eqb}
use Rattle.pfx_symbols.specs.Keys.{start, width, above, back_from, first_key, gaps_key}
use Rattle.pfx_symbols.specs.Ranges.{placed, HasGaps}
use Rattle.pfx_symbols.proofs.KeyOrder.{IsInner, if_true, if_false, turned, further, first_within, gaps_fit}
use Rattle.pfx_symbols.proofs.keys.by_gaps.Goals as goal

inner : (e p v : ℕ) → HasGaps e p v → IsInner e p v
inner e p v h = record { weight = record { some = h.string.some; less = h.string.less; limit = h.string.limit }; low = h.low; high = h.high }

pub returns-then-a-eq2 : goal.returns-then-a-eq2
returns-then-a-eq2 c =
    let e = c.args.e in
    let p = c.args.p in
    let v = c.args.v in
    let a = c.steps-a.result in
    let size = c.args.range.size in
    let w = width (a - 1) size in
    let t = turned e p v c.requires.string.string (inner e p v c.requires) c.requires.string.spelled in
    let short : w - 1 ≡ c.shorter.result.size = ap (λ n. n - 1) (sym c.part-part.ensures.size) ∙ sym c.shorter.ensures.size in
    record {
      string = record { some = t.weight.some; less = t.weight.less; limit = t.weight.limit; phase = t.low; string = _; spelled = t.string };
      same = λ k.
          (let fits = first_within (gaps_key k) (gaps_fit k) c.shorter.result.size (p - e) p (p - v) _ t.weight t.low t.string in
          ap (λ n. placed c.args.range (above (start (n - 1) size) (if n == 2 then back_from (width (n - 1) size - 1) (first_key (gaps_key k) (width (n - 1) size - 1) (p - e) p (p - v)) else first_key (gaps_key k) (width (n - 1) size) (e * n - p) e v))) (sym c.steps-a.ensures.value)
          ∙ ap (λ x. placed c.args.range (above (start (a - 1) size) x)) (if_true (a == 2) _ _ (eq-eqb a 2 c.if-a-eq2.true))
          ∙ c.part-part.ensures.same (back_from (w - 1) (first_key (gaps_key k) (w - 1) (p - e) p (p - v)))
          ∙ ap (λ n. placed c.part-part.result (back_from n (first_key (gaps_key k) n (p - e) p (p - v)))) short
          ∙ c.shorter.ensures.same (back_from c.shorter.result.size (first_key (gaps_key k) c.shorter.result.size (p - e) p (p - v)))
          ∙ c.turned.ensures.same (first_key (gaps_key k) c.shorter.result.size (p - e) p (p - v)) fits.most
          ∙ ap (λ n. placed c.turned.result (first_key (gaps_key k) n (p - e) p (p - v))) (sym c.turned.ensures.size));
    }

pub returns-else-a-eq2 : goal.returns-else-a-eq2
returns-else-a-eq2 c =
    let e = c.args.e in
    let p = c.args.p in
    let v = c.args.v in
    let a = c.steps-a.result in
    let size = c.args.range.size in
    let g = further e p v a c.requires.string.string (inner e p v c.requires) (record { reach = c.steps-a.ensures.reach; least = c.steps-a.ensures.least }) c.requires.string.spelled in
    record {
      string = record { some = g.weight.some; less = g.weight.less; limit = g.weight.limit; phase = c.requires.high; string = g.gaps.gaps; spelled = g.gaps.spelled };
      same = λ k.
          ap (λ n. placed c.args.range (above (start (n - 1) size) (if n == 2 then back_from (width (n - 1) size - 1) (first_key (gaps_key k) (width (n - 1) size - 1) (p - e) p (p - v)) else first_key (gaps_key k) (width (n - 1) size) (e * n - p) e v))) (sym c.steps-a.ensures.value)
          ∙ ap (λ x. placed c.args.range (above (start (a - 1) size) x)) (if_false (a == 2) _ _ (ne_eqb a 2 c.if-a-eq2.false))
          ∙ c.part-part.ensures.same (first_key (gaps_key k) (width (a - 1) size) (e * a - p) e v)
          ∙ ap (λ n. placed c.part-part.result (first_key (gaps_key k) n (e * a - p) e v)) (sym c.part-part.ensures.size);
    }

use Rattle.std.proofs.Common.{◌≡◌, ◌+◌, ◌-◌, ◌*◌, ◌==◌, ◌<◌, nat_lt, if◌then◌else◌, arith, ap, sym, ◌∙◌}
use Rattle.std.proofs.lemmas.Bool.{ne_eqb}
use Rattle.pfx_symbols.specs.Keys.{start, width, above, gaps_key}
use Rattle.pfx_symbols.specs.Ranges.{placed}
use Rattle.pfx_symbols.proofs.Rounds.{first_plus}
use Rattle.pfx_symbols.proofs.KeyOrder.{if_false}
use Rattle.pfx_symbols.proofs.keys.by_first.Goals as goal

pub returns-else-v-eq0 : goal.returns-else-v-eq0
returns-else-v-eq0 c =
    let e = c.args.e in
    let p = c.args.p in
    let r = c.args.r in
    let i = c.steps-i.result in
    let v = r + e * i - p in
    let size = c.args.range.size in
    let part = c.part-part.result in
    let rest = c.shorter-else-v-eq0.result in
    let some : 0 < v = omega (arith, c.if-v-eq0.false) in
    let high : v < e = omega (arith, c.steps-i.ensures.least, c.requires.phase, c.requires.some) in
    let a = first_plus e p r i v c.requires.string c.requires.less c.requires.phase some high (omega (arith, c.if-v-eq0.false)) c.requires.spelled in
    let long : width i size - 1 ≡ rest.size = ap (λ n. n - 1) (sym c.part-part.ensures.size) ∙ sym c.shorter-else-v-eq0.ensures.size in (
      record {
        string = record { some = c.requires.some; less = c.requires.less; limit = c.requires.limit; phase = omega (arith, high, c.requires.less); string = a.rest; spelled = a.spelled };
        low = some;
        high = high;
      },
      (λ k.
          ap (λ n. placed c.args.range (above (start n size) (if r + e * n == p then record { number = width n size - 1; whole = nat_lt 0 (width n size) } else gaps_key k (width n size - 1) e p (r + e * n - p)))) (sym c.steps-i.ensures.value)
          ∙ ap (λ x. placed c.args.range (above (start i size) x)) (if_false (r + e * i == p) _ _ (ne_eqb (r + e * i) p (λ is. omega (arith, is, some))))
          ∙ c.part-part.ensures.same (gaps_key k (width i size - 1) e p v)
          ∙ ap (λ n. placed part (gaps_key k n e p v)) long
          ∙ c.shorter-else-v-eq0.ensures.same (gaps_key k rest.size e p v)),
    )

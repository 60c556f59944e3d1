use Rattle.std.proofs.Common.{◌≡◌, ◌+◌, ◌-◌}
use Rattle.std.specs.Cmp.Lexicographic.{slice_cmp}
use Rattle.pfx_symbols.specs.Symbols.{symbol_cmp, symbols_from}
use Rattle.pfx_replay.proofs.symbols.compare.Given as goal

abbrev pub invariant-loop-i : goal.invariant-loop-i
invariant-loop-i l =
    slice_cmp symbol_cmp (symbols_from l.p l.e l.p (l.t + 1)) (symbols_from l.q l.f l.q (l.t + 1))
    ≡ slice_cmp symbol_cmp (symbols_from (l.p - l.i) l.e l.p (l.t + 1 + l.i)) (symbols_from (l.q - l.i) l.f l.q (l.t + 1 + l.i))

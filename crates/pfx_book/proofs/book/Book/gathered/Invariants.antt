use Rattle.std.proofs.Common.{◌≡◌, ◌≤◌, ◌-◌, length, take, map}
use Rattle.pfx_book.specs.Merging.{lists_from}
use Rattle.pfx_book.specs.Notes.{answers_of}
use Rattle.pfx_book.proofs.book.Book.gathered.Given as goal

abbrev pub invariant-loop-i : goal.invariant-loop-i
invariant-loop-i g l =
    (l.self ≡ l.initial.self) × (l.passes.items ≡ l.initial.passes.items) × (l.i ≤ length l.passes.items)
    × (take l.i (map (λ p. answers_of p.1) l.passes.items) ≡ lists_from 1 l.i l.self.history)

abbrev pub decreases-loop-i : goal.decreases-loop-i
decreases-loop-i g l = length l.passes.items - l.i

use Rattle.std.proofs.Common.{◌≡◌, map}
use Rattle.pfx_machine.specs.Slots.{deal}
use Rattle.pfx_crew.proofs.Works.{AllServed}
use Rattle.pfx_crew.proofs.work.worker.Given as goal

abbrev pub invariant-loop : goal.invariant-loop
invariant-loop g l =
    AllServed
    (map (λ q. deal q.number q.slot q.task q.before) (g.K.Desk.took l.fn.seat))
    (map (λ q. deal q.number q.slot q.task q.before) (g.K.Desk.took l.seat))
    (map (λ d. deal d.number d.slot d.task d.before) (g.K.Desk.handed l.fn.seat))
    (map (λ d. deal d.number d.slot d.task d.before) (g.K.Desk.handed l.seat))
    × (g.K.Desk.dealt l.seat ≡ g.K.Desk.dealt l.fn.seat)
    × (g.K.Desk.collected l.seat ≡ g.K.Desk.collected l.fn.seat)

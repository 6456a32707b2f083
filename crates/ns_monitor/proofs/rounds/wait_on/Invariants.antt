use Rattle.std.proofs.Common.{None, ◌≡◌}
use Rattle.ns_monitor.proofs.Prelude.{HasMadeSteps, InQueuing, InWait, IsAtPlace, Load, row_in, the}
use Rattle.ns_monitor.proofs.rounds.wait_on.Given as goal

abbrev pub invariant-loop : goal.invariant-loop
invariant-loop g l =
    (goal.iterator-loop g).can_next l.iterator' × (goal.iterator-loop g).is_finite l.iterator'
    × HasMadeSteps None l.fn.seat l.seat × g.W.Watch.since l.fn.watch l.watch × IsAtPlace g.C.Condition.means (InWait l.wait (InQueuing l.again Load)) l.seat.me × (l.row ≡ row_in (the l.seat.me.0).at.held)

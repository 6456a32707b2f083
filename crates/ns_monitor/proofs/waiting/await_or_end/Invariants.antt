use Rattle.std.proofs.Common.{None}
use Rattle.ns_monitor.proofs.Prelude.{HasMadeSteps, AwaitWakeInWait, InWait, IsAtPlace}
use Rattle.ns_monitor.proofs.waiting.await_or_end.Given as goal

abbrev pub invariant-loop : goal.invariant-loop
invariant-loop g l =
    (goal.iterator-loop g).can_next l.iterator' × (goal.iterator-loop g).is_finite l.iterator'
    × HasMadeSteps None l.fn.seat l.seat × g.W.Watch.since l.fn.watch l.watch × IsAtPlace g.C.Condition.means (InWait l.fn.wait AwaitWakeInWait) l.seat.me

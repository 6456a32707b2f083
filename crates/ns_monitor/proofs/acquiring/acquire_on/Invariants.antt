use Rattle.std.proofs.Common.{None}
use Rattle.ns_monitor.proofs.Prelude.{HasMadeSteps, AcquiresBy}
use Rattle.ns_monitor.proofs.acquiring.acquire_on.Given as goal

abbrev pub invariant-loop : goal.invariant-loop
invariant-loop g l =
    (goal.iterator-loop g).can_next l.iterator' × (goal.iterator-loop g).is_finite l.iterator'
    × HasMadeSteps None l.fn.seat l.seat × AcquiresBy g.C.Condition.means l.aim l.arrival l.word l.seat.me

use Rattle.std.proofs.Common.{None}
use Rattle.ns_monitor.proofs.Prelude.{HasMadeSteps, IsAtPlace, Sleeps, Walk}
use Rattle.ns_monitor.proofs.loops.await_flag.Given as goal

abbrev pub invariant-loop : goal.invariant-loop
invariant-loop g l =
    (goal.iterator-loop g).can_next l.iterator' × (goal.iterator-loop g).is_finite l.iterator'
    × HasMadeSteps None l.fn.seat l.seat × ((walk : Walk g.row.C.Denot) → Sleeps g.row.N walk → IsAtPlace g.C.Condition.means walk l.fn.seat.me → IsAtPlace g.C.Condition.means walk l.seat.me)

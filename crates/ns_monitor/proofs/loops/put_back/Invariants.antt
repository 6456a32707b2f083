use Rattle.std.proofs.Common.{None, ◌≡◌}
use Rattle.ns_monitor.proofs.Prelude.{HasMadeSteps, HasKeptItsQueues, IsAtPlace, IsPackable, PutsBack, Walk, returning_at, returning_of}
use Rattle.ns_monitor.proofs.loops.put_back.Given as goal

abbrev pub invariant-loop : goal.invariant-loop
invariant-loop g l =
    (goal.iterator-loop g).can_next l.iterator' × (goal.iterator-loop g).is_finite l.iterator' × IsPackable l.word
    × HasMadeSteps None l.fn.seat l.seat × HasKeptItsQueues l.fn.seat.me l.seat.me × ((walk : Walk g.row.C.Denot) → PutsBack walk → l.fn.returning ≡ returning_of walk → IsAtPlace g.C.Condition.means (returning_at walk l.fn.first) l.fn.seat.me → IsAtPlace g.C.Condition.means (returning_at walk l.word) l.seat.me)

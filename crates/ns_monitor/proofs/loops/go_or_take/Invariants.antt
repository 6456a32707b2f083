use Rattle.std.proofs.Common.{None, ◌≡◌}
use Rattle.ns_monitor.proofs.Prelude.{HasMadeSteps, HasReached, IsPackable, Saw, asked_of, got_of, the}
use Rattle.ns_monitor.proofs.loops.go_or_take.Given as goal

abbrev pub invariant-loop : goal.invariant-loop
invariant-loop g l =
    (goal.iterator-loop g).can_next l.iterator' × (goal.iterator-loop g).is_finite l.iterator' × IsPackable l.word
    × HasMadeSteps None l.fn.seat l.seat × ((the l.seat.me.0).at.held ≡ (the l.fn.seat.me.0).at.held)
    × HasReached g.C.Condition.means (asked_of l.fn._walk) (got_of g.row.N l.fn._walk (Saw l.word)) l.seat.me

use Rattle.std.proofs.Common.{None, drop, ◌≡◌}
use Rattle.ns_monitor.proofs.Prelude.{HasMadeSteps, HasReached, HasSeenTrue, Paid, Pays, Walk, asked_of, got_of, has_some, the}
use Rattle.ns_monitor.proofs.loops.pay.Given as goal

abbrev pub invariant-loop-wake : goal.invariant-loop-wake
invariant-loop-wake g l =
    ((the l.seat.me.0).at.owed ≡ drop l.wake-index l.wake-items) × HasMadeSteps None l.fn.seat l.seat
    × ((walk : Walk g.row.C.Denot) → Pays g.row.N walk → HasReached g.C.Condition.means (asked_of walk) (got_of g.row.N walk (Paid (has_some (the l.fn.seat.me.0).at.owed))) l.fn.seat.me → HasReached g.C.Condition.means (asked_of walk) (got_of g.row.N walk (Paid (has_some (the l.seat.me.0).at.owed))) l.seat.me)
    × (HasSeenTrue g.C.Condition.means l.fn.seat.me → HasSeenTrue g.C.Condition.means l.seat.me)

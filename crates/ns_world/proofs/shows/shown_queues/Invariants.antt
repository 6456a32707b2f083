use Rattle.std.proofs.Common.{drop, ◌≡◌}
use Rattle.ns_world.proofs.Prelude.{lists_by}
use Rattle.ns_world.proofs.shows.shown_queues.Given as goal

-- none of those before has the queues
abbrev pub invariant-loop-seat : goal.invariant-loop-seat
invariant-loop-seat g l =
    lists_by g.C.Condition.means l.row l.queues (drop l.seat-index l.seats)
    ≡ lists_by g.C.Condition.means l.row l.queues l.seats

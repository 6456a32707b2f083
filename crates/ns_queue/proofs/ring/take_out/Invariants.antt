use Rattle.std.proofs.Common.{drop, length, ◌≡◌, ◌≤◌}
use Rattle.ns_queue.proofs.Prelude.{without_all}
use Rattle.ns_queue.proofs.ring.take_out.Given as goal

-- those from here on are out
abbrev pub invariant-loop-left : goal.invariant-loop-left
invariant-loop-left g l = record { out : l.ring ≡ without_all (drop l.left l.seats) l.initial.ring; within : l.left ≤ length l.seats }

-- those that are still to go
abbrev pub decreases-loop-left : goal.decreases-loop-left
decreases-loop-left g l = l.left

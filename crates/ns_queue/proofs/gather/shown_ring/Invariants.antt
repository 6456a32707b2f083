use Rattle.std.proofs.Common.{length, map, ◌≡◌}
use Rattle.ns_queue.proofs.Prelude.{ahead, from, shown_of}
use Rattle.ns_queue.proofs.gather.shown_ring.Given as goal

-- those so far
abbrev pub invariant-loop-waiter : goal.invariant-loop-waiter
invariant-loop-waiter g l = l.all.items ≡ map shown_of (ahead l.at l.ring)

-- those that are left
abbrev pub decreases-loop-waiter : goal.decreases-loop-waiter
decreases-loop-waiter g l = length (from l.at l.ring)

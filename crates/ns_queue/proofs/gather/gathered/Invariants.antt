use Rattle.std.proofs.Common.{length, ◌≡◌}
use Rattle.ns_queue.proofs.Prelude.{ahead, from}
use Rattle.ns_queue.proofs.gather.gathered.Given as goal

-- those so far
abbrev pub invariant-loop-waiter : goal.invariant-loop-waiter
invariant-loop-waiter g l = l.all.items ≡ ahead l.at l.ring

-- those that are left
abbrev pub decreases-loop-waiter : goal.decreases-loop-waiter
decreases-loop-waiter g l = length (from l.at l.ring)

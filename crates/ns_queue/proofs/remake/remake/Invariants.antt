use Rattle.ns_queue.proofs.Prelude.{MadeUpTo, from, length}
use Rattle.ns_queue.proofs.remake.remake.Given as goal

-- the links are made up to here
abbrev pub invariant-loop-waiter : goal.invariant-loop-waiter
invariant-loop-waiter g l = MadeUpTo g.C.Condition.means.same l.heads l.lasts l.head l.before l.at l.ring

-- those that are left
abbrev pub decreases-loop-waiter : goal.decreases-loop-waiter
decreases-loop-waiter g l = length (from l.at l.ring)

use Rattle.ns_queue.proofs.Prelude.{from, length}
use Rattle.ns_queue.proofs.Running.{Sought}
use Rattle.ns_queue.proofs.lock_list.LockList.seek.Given as goal

-- those passed are not taken, and the rest begins with a run
abbrev pub invariant-loop-waiter : goal.invariant-loop-waiter
invariant-loop-waiter g l = Sought g.C.Condition.means.same (λ c. g.C.Condition.means.holds c l.row) l.self-inside.heads l.self-inside.lasts l.seat l.tests l.self-inside.ring

-- those that are left
abbrev pub decreases-loop-waiter : goal.decreases-loop-waiter
decreases-loop-waiter g l = length (from l.seat l.self-inside.ring)

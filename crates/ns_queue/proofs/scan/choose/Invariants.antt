use Rattle.ns_queue.proofs.Prelude.{from, length, option_copied}
use Rattle.ns_queue.proofs.Reading.{Reads}
use Rattle.ns_queue.proofs.scan.choose.Given as goal

-- those taken and the tests so far, and the rest
abbrev pub invariant-loop-waiter : goal.invariant-loop-waiter
invariant-loop-waiter g l = Reads g.C.Condition.means.same (λ c. g.C.Condition.means.holds c l.row) (option_copied l.first) l.truth l.at l.tests l.woken.items l.ring

-- those that are left
abbrev pub decreases-loop-waiter : goal.decreases-loop-waiter
decreases-loop-waiter g l = length (from l.at l.ring)

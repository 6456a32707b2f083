use Rattle.std.proofs.Common.{take, ◌≡◌}
use Rattle.ns_queue.proofs.Prelude.{times_in}
use Rattle.ns_queue.proofs.queues.stands_in.Given as goal

-- so far the seat doesn't stand there
abbrev pub invariant-loop-waiter : goal.invariant-loop-waiter
invariant-loop-waiter g l = times_in l.seat (take l.waiter-index l.waiters) ≡ 0

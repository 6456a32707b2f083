use Rattle.std.proofs.Common.{take, ◌++◌, ◌≡◌}
use Rattle.ns_queue.proofs.Prelude.{Lock, with_waiters}
use Rattle.ns_queue.proofs.queues.Queues.append.Given as goal

-- those so far stand at the back
abbrev pub invariant-loop-waiter : goal.invariant-loop-waiter
invariant-loop-waiter g l = l.self ≡ with_waiters l.initial.self Lock (l.initial.self.lock ++ take l.waiter-index l.waiters)

use Rattle.std.proofs.Common.{map, take, ◌≡◌}
use Rattle.ns_queue.proofs.Prelude.{shown_of}
use Rattle.ns_queue.proofs.queues.shown_slice.Given as goal

abbrev pub invariant-loop-waiter : goal.invariant-loop-waiter
invariant-loop-waiter g l = l.all.items ≡ map shown_of (take l.waiter-index l.waiters)

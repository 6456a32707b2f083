use Rattle.std.proofs.Common.{◌≡◌}
use Rattle.ns_queue.proofs.Prelude.{with_each}
use Rattle.ns_queue.proofs.queues.Queues.push_any.Given as goal

-- the lists of the variables so far have the waiter
abbrev pub invariant-loop-k : goal.invariant-loop-k
invariant-loop-k g l = l.self ≡ with_each l.k l.cvs l.waiter l.initial.self

use Rattle.std.proofs.Common.{drop, ◌≡◌}
use Rattle.ns_gate.proofs.Prelude.{without_each}
use Rattle.ns_gate.proofs.waking.take_back.Given as goal

-- without those behind, the lists are without all of them
abbrev pub invariant-loop-waiter : goal.invariant-loop-waiter
invariant-loop-waiter g l = without_each (drop l.waiter-index l.taken) l.queues ≡ without_each l.taken l.initial.queues

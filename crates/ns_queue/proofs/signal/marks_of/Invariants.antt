use Rattle.std.proofs.Common.{drop, length, ◌++◌, ◌≡◌}
use Rattle.ns_queue.proofs.Prelude.{Anybody, signal_marks}
use Rattle.ns_queue.proofs.signal.marks_of.Given as goal

-- the marks so far, and the rest
abbrev pub invariant-loop-waiter : goal.invariant-loop-waiter
invariant-loop-waiter g l = record { so_far : l.marks.items ++ signal_marks l.wanted (drop l.waiter-index l.waiters) ≡ signal_marks Anybody l.waiters; many : length l.marks.items ≡ l.waiter-index }

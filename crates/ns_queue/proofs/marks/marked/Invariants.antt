use Rattle.std.proofs.Common.{drop, length, ◌++◌, ◌≡◌, ◌≤◌}
use Rattle.ns_queue.proofs.Prelude.{marked}
use Rattle.ns_queue.proofs.marks.marked.Given as goal

-- those so far, and the rest
abbrev pub invariant-loop-i : goal.invariant-loop-i
invariant-loop-i g l = record { so_far : l.taken.items ++ marked (drop l.i l.marks) (drop l.i l.waiters) ≡ marked l.marks l.waiters; few : length l.taken.items ≤ l.i }

use Rattle.ns_queue.proofs.Prelude.{FiltersInPlace, is_in, not}
use Rattle.ns_queue.proofs.queues.keep_outside.Given as goal

-- those outside the set so far stand in front
abbrev pub invariant-loop-i : goal.invariant-loop-i
invariant-loop-i g l = FiltersInPlace (λ w. not (is_in l.set w.seat)) l.initial.waiters l.waiters l.kept l.i

use Rattle.std.proofs.Common.{take, ◌≡◌, ◌≤◌}
use Rattle.ns_outcomes.proofs.Prelude.{going}
use Rattle.ns_outcomes.proofs.choosing.nth_going.Given as goal

abbrev pub invariant-loop-thread : goal.invariant-loop-thread
invariant-loop-thread l = (l.before ≡ going (take l.thread l.standings)) × (l.before ≤ l.nth)

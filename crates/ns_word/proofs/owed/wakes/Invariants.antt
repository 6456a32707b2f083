use Rattle.std.proofs.Common.{take, ◌≡◌}
use Rattle.ns_word.proofs.Prelude.{wakes_of}
use Rattle.ns_word.proofs.owed.wakes.Given as goal

-- the wakes so far
abbrev pub invariant-loop-waiter : goal.invariant-loop-waiter
invariant-loop-waiter g l = l.owed.items ≡ wakes_of l.k (take l.waiter-index l.taken)

use Rattle.std.proofs.Common.{nat_lt, take, ℕ, ◌≡◌}
use Rattle.ns_queue.proofs.Prelude.{is_in, times_in}
use Rattle.ns_queue.proofs.signal.taken_set.Given as goal

-- the seats so far
abbrev pub invariant-loop-waiter : goal.invariant-loop-waiter
invariant-loop-waiter g l = (n : ℕ) → is_in l.set n ≡ nat_lt 0 (times_in n (take l.waiter-index l.taken))

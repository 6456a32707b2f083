use Rattle.std.proofs.Common.{map, take, ◌≡◌}
use Rattle.ns_queue.proofs.Prelude.{sum_by, times_in}
use Rattle.ns_queue.proofs.queues.stands_in_any.Given as goal

-- so far the seat stands in none
abbrev pub invariant-loop-list : goal.invariant-loop-list
invariant-loop-list g l = sum_by (times_in l.seat) (take l.list-index (map (λ v. v.items) l.lists)) ≡ 0

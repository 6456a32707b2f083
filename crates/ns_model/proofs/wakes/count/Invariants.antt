use Rattle.std.proofs.Common.{◌≡◌}
use Rattle.ns_model.proofs.Prelude.{count_seats, is_counted, standing_after}
use Rattle.ns_model.proofs.wakes.count.Given as goal

-- the count of the seats so far
abbrev pub invariant-loop-seat : goal.invariant-loop-seat
invariant-loop-seat g l = l.count ≡ count_seats l.seat (is_counted l.who l.k l.woken) (standing_after l.past).phases

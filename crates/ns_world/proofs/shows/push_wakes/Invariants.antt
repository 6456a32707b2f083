use Rattle.std.proofs.Common.{map, take, ◌++◌, ◌≡◌}
use Rattle.ns_world.proofs.shows.push_wakes.Given as goal

abbrev pub invariant-loop-wake : goal.invariant-loop-wake
invariant-loop-wake l = l.all.items ≡ l.fn.all.items ++ map (λ wake. (l.seat, wake.seat)) (take l.wake-index l.owed)

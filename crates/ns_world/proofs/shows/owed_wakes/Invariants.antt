use Rattle.std.proofs.Common.{take, ◌≡◌}
use Rattle.ns_world.proofs.Prelude.{wakes_owed}
use Rattle.ns_world.proofs.shows.owed_wakes.Given as goal

abbrev pub invariant-loop-seat : goal.invariant-loop-seat
invariant-loop-seat g l = l.all.items ≡ wakes_owed (take l.seat-index l.seats)

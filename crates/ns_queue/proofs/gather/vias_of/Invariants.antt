use Rattle.std.proofs.Common.{map, take, ◌≡◌}
use Rattle.ns_queue.proofs.Prelude.{seated, via_in}
use Rattle.ns_queue.proofs.gather.vias_of.Given as goal

abbrev pub invariant-loop-seat : goal.invariant-loop-seat
invariant-loop-seat g l = l.vias.items ≡ map (λ seat. via_in (seated seat l.ring)) (take l.seat-index l.seats)

use Rattle.ns_queue.proofs.Prelude.{arith}
use Rattle.ns_queue.proofs.Ringed.{links_are, place_low}
use Rattle.ns_queue.proofs.ring.Ring.prev.Goals as goal

pub bounds-self-inside-seat : goal.bounds-self-inside-seat
bounds-self-inside-seat g c = let low = place_low _ _ _ _ _ c.args.seat c.self.invariant (rw (← c.self.view_is) at c.requires) in omega (arith, low)

pub returns : goal.returns
returns g c = rw (← c.self.view_is) (links_are _ _ _ _ _ c.args.seat c.self.invariant (rw (← c.self.view_is) at c.requires)).1

use Rattle.ns_queue.proofs.Bases.{first_hop, row_of}
use Rattle.ns_queue.proofs.ring.Ring.front.Goals as goal

pub returns : goal.returns
returns g c = rw (← c.self.view_is) (record { place = first_hop _ _ _ 64 64 c.self.invariant.ring.hops; orderly = row_of _ _ _ _ _ c.self.invariant })

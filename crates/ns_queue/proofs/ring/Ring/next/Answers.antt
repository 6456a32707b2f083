use Rattle.ns_queue.proofs.Prelude.{arith}
use Rattle.ns_queue.proofs.Bases.{links_are, place_low, row_of, smaller, standing}
use Rattle.ns_queue.proofs.ring.Ring.next.Goals as goal

pub bounds-self-inside-seat : goal.bounds-self-inside-seat
bounds-self-inside-seat g c = let low = place_low _ _ _ _ _ c.args.seat c.self.invariant (rw (← c.self.view_is) at c.requires) in omega (arith, low)

pub returns : goal.returns
returns g c =
    let stands = rw (← c.self.view_is) at c.requires in
    let here = standing c.args.seat _ stands in
    let place = (links_are _ _ _ _ _ c.args.seat c.self.invariant stands).0 in
    rw (← c.self.view_is) (record { place = place; fewer = smaller c.args.seat _ here.w _ (row_of _ _ _ _ _ c.self.invariant) here.is place })

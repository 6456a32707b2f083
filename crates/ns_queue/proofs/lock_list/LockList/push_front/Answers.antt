use Rattle.ns_queue.proofs.Prelude.{[], place_fits, seat_place}
use Rattle.ns_queue.proofs.Making.{fronted}
use Rattle.ns_queue.proofs.Ringed.{row_more}
use Rattle.ns_queue.proofs.lock_list.LockList.push_front.Goals as goal

pub remake-requires : goal.remake-requires
remake-requires g c =
    let row = row_more [] c.self.inside.ring c.args.waiter c.front-first.ensures.orderly c.requires.below (rw (← c.self.view_is) at c.requires.free) in
    (g.met.C.Queueable.parts_fit.ring, rw c.push_front.ensures (fronted g.C.Condition.means.same c.self.inside.heads c.self.inside.lasts c.front-first.result c.self.inside.ring c.args.waiter row c.front-first.ensures.place c.self.invariant))

pub overflow_cast-self : goal.overflow_cast-self
overflow_cast-self g c = place_fits c.args.waiter.seat (seat_place c.args.waiter.seat c.requires.below)

pub bounds-self-inside-seat : goal.bounds-self-inside-seat
bounds-self-inside-seat g c = seat_place c.args.waiter.seat c.requires.below

pub invariant_of-self : goal.invariant_of-self
invariant_of-self g c = c.remake.ensures

pub returns : goal.returns
returns g c = rw (← c.self.view_is) c.push_front.ensures

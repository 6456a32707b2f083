use Rattle.ns_queue.proofs.Making.{goes_low, pushed}
use Rattle.ns_queue.proofs.Ringed.{row_back}
use Rattle.ns_queue.proofs.Prelude.{place_fits, seat_place}
use Rattle.ns_queue.proofs.lock_list.LockList.push_back.Goals as goal

pub bounds-self-inside-head : goal.bounds-self-inside-head
bounds-self-inside-head g c =
    goes_low g.C.Condition.means.same c.self.inside.ring c.args.waiter c.head_for-head.result (rw (← c.self.view_is) at c.head_for-head.ensures.orderly) c.requires.below (rw (← c.self.view_is) at c.head_for-head.ensures.head)

pub invariant_of-self : goal.invariant_of-self
invariant_of-self g c =
    let row = row_back c.self.inside.ring c.args.waiter (rw (← c.self.view_is) at c.head_for-head.ensures.orderly) c.requires.below (rw (← c.self.view_is) at c.requires.free) in
    rw c.push_back.ensures (pushed g.C.Condition.means.same c.self.inside.heads c.self.inside.lasts c.head_for-head.result c.self.inside.ring c.args.waiter row (rw (← c.self.view_is) at c.head_for-head.ensures.head) c.self.invariant)

pub overflow_cast-self : goal.overflow_cast-self
overflow_cast-self g c = place_fits c.args.waiter.seat (seat_place c.args.waiter.seat c.requires.below)

pub bounds-self-inside-seat : goal.bounds-self-inside-seat
bounds-self-inside-seat g c = seat_place c.args.waiter.seat c.requires.below

pub overflow_cast-self-2 : goal.overflow_cast-self-2
overflow_cast-self-2 g c = place_fits c.head_for-head.result (goes_low g.C.Condition.means.same c.self.inside.ring c.args.waiter c.head_for-head.result (rw (← c.self.view_is) at c.head_for-head.ensures.orderly) c.requires.below (rw (← c.self.view_is) at c.head_for-head.ensures.head))

pub returns : goal.returns
returns g c = rw (← c.self.view_is) c.push_back.ensures

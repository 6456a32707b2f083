use Rattle.ns_queue.proofs.Prelude.{option_copied, place_fits}
use Rattle.ns_queue.proofs.Making.{back_place, head_told}
use Rattle.ns_queue.proofs.lock_list.LockList.head_for.Goals as goal

pub bounds-self-inside-back : goal.bounds-self-inside-back
bounds-self-inside-back g c = back_place c.self.inside.ring c.back.result c.back.ensures.orderly c.back.ensures.place

pub returns-then-joins : goal.returns-then-joins
returns-then-joins g c =
    let told = head_told g.C.Condition.means.same c.self.inside.heads c.self.inside.lasts c.back.result c.self.inside.ring c.args.waiter.now c.joins.result (option_copied c.get.result) c.back.ensures.place c.back.ensures.orderly c.self.invariant c.joins.ensures c.get.ensures.waiter in
    rw (← c.self.view_is) (record { head = rw c.if-joins.true at told; orderly = c.back.ensures.orderly })

pub returns-else-joins : goal.returns-else-joins
returns-else-joins g c =
    let told = head_told g.C.Condition.means.same c.self.inside.heads c.self.inside.lasts c.back.result c.self.inside.ring c.args.waiter.now c.joins.result (option_copied c.get.result) c.back.ensures.place c.back.ensures.orderly c.self.invariant c.joins.ensures c.get.ensures.waiter in
    rw (← c.self.view_is) (record { head = rw c.if-joins.false at told; orderly = c.back.ensures.orderly })

pub overflow_cast-head : goal.overflow_cast-head
overflow_cast-head g c = place_fits c.back.result (back_place c.self.inside.ring c.back.result c.back.ensures.orderly c.back.ensures.place)

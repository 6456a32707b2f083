use Rattle.std.proofs.Common.{arith, ◌<◌}
use Rattle.ns_queue.proofs.Bases.{free_beside, lock_more, times_in_push}
use Rattle.ns_queue.proofs.queues.Queues.push_back.Goals as goal

pub push_back-requires : goal.push_back-requires
push_back-requires g c = let free = rw (← c.self.view_is) at c.requires.free in (g.met.C.Queueable.parts_fit.lock, (c.requires.below, omega (arith, free)))

pub invariant_of-self : goal.invariant_of-self
invariant_of-self g c = lock_more _ _ _ c.args.waiter c.self.invariant c.requires.below (rw (← c.self.view_is) at c.requires.free) (λ seat. rw c.push_back.ensures (times_in_push c.self.inside.lock c.args.waiter seat))

pub push_to-requires : goal.push_to-requires
push_to-requires g c =
    let low : c.in-Cv.k < 4 = rw c.in-Cv.is at c.requires.list in
    (g.met.C.Queueable.parts_fit.queues, (low, (c.requires.below, free_beside c.args.self.now c.args.waiter.seat c.in-Cv.k c.requires.free)))

use Rattle.ns_queue.proofs.Prelude.{arith}
use Rattle.ns_queue.proofs.Bases.{lock_more, times_in-cons}
use Rattle.ns_queue.proofs.queues.Queues.push_front.Goals as goal

pub push_front-requires : goal.push_front-requires
push_front-requires g c = let free = rw (← c.self.view_is) at c.requires.free in (g.met.C.Queueable.parts_fit.lock, (c.requires.below, omega (arith, free)))

pub invariant_of-self : goal.invariant_of-self
invariant_of-self g c = lock_more _ _ _ c.args.waiter c.self.invariant c.requires.below (rw (← c.self.view_is) at c.requires.free) (λ seat. rw c.push_front.ensures (omega (arith, times_in-cons seat c.args.waiter c.self.inside.lock)))

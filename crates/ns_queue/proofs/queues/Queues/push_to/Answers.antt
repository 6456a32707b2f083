use Rattle.ns_queue.proofs.Inside.{list_has_room, list_pushed, list_at, list_put}
use Rattle.ns_queue.proofs.Prelude.{offset_fits}
use Rattle.ns_queue.proofs.queues.Queues.push_to.Goals as goal

pub offset_bounds-self-inside-k : goal.offset_bounds-self-inside-k
offset_bounds-self-inside-k g c = offset_fits c.args.k _ c.requires.variable g.met.C.Queueable.list_fits

pub push-requires : goal.push-requires
push-requires g c = (g.met.C.Queueable.parts_fit.list, list_has_room _ _ _ _ c.args.waiter c.self.invariant c.requires.variable c.requires.below (rw (← c.self.view_is) at c.requires.free))

pub invariant_of-self : goal.invariant_of-self
invariant_of-self g c = list_pushed _ _ _ _ _ c.args.waiter c.self.invariant c.requires.variable c.requires.below (rw (← c.self.view_is) at c.requires.free) c.push.ensures.items

pub returns : goal.returns
returns g c = rw (← c.self.view_is, list_at _ _ c.args.k c.index-self-k.result c.self.invariant c.requires.variable, ← c.push.ensures.items) (list_put _ _ c.args.k _)

use Rattle.std.proofs.Common.{refl}
use Rattle.ns_queue.proofs.Outside.{all_below, orderly_outside}
use Rattle.ns_queue.proofs.queues.Queues.drop_from_variables.Goals as goal

pub drop_from_all-requires : goal.drop_from_all-requires
drop_from_all-requires g c = (g.met.C.Queueable.parts_fit.list, all_below c.self.inside.lock c.self.inside.cvs c.self.invariant)

pub invariant_of-self : goal.invariant_of-self
invariant_of-self g c = orderly_outside c.self.inside.lock c.self.inside.cvs _ c.args.set c.self.invariant c.drop_from_all.ensures

pub returns : goal.returns
returns g c = rw (← c.self.view_is, c.drop_from_all.ensures) refl

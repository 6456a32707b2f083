use Rattle.ns_queue.proofs.Making.{anew}
use Rattle.ns_queue.proofs.lock_list.LockList.remove_all.Goals as goal

pub remake-requires : goal.remake-requires
remake-requires g c = (g.met.C.Queueable.parts_fit.ring, anew g.C.Condition.means.same c.self.inside.lasts c.front-first.result c.take_out.new.ring c.front-first.ensures.orderly c.front-first.ensures.place c.self.invariant.lasts_all)

pub invariant_of-self : goal.invariant_of-self
invariant_of-self g c = c.remake.ensures

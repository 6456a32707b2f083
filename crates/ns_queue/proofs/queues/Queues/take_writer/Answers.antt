use Rattle.ns_queue.proofs.Prelude.{refl}
use Rattle.ns_queue.proofs.Inside.{lock_lessened}
use Rattle.ns_queue.proofs.Leaving.{times_left_by_writer}
use Rattle.ns_queue.proofs.queues.Queues.take_writer.Goals as goal

pub invariant_of-self : goal.invariant_of-self
invariant_of-self g c = lock_lessened _ _ _ c.self.invariant (λ seat. rw c.take_writer.ensures.left (times_left_by_writer (λ d. g.C.Condition.means.holds d c.args.row.now) c.self.inside.lock seat))

pub returns : goal.returns
returns g c = rw (← c.self.view_is) (record { told = c.take_writer.ensures.told; left = rw c.take_writer.ensures.left refl })

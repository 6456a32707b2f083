use Rattle.ns_queue.proofs.Prelude.{ltb_from_iff}
use Rattle.ns_queue.proofs.queues.Queues.stands_at_variables.Goals as goal

pub returns : goal.returns
returns g c = rw (← c.self.view_is) (ltb_from_iff c.stands_in_any.ensures)

use Rattle.ns_queue.proofs.queues.Queues.bits.Goals as goal

pub returns : goal.returns
returns g c = rw (← c.self.view_is) c.bits.ensures

use Rattle.ns_queue.proofs.lock_list.LockList.shown.Goals as goal

pub returns : goal.returns
returns g c = record { shown = rw (← c.self.view_is) c.shown_ring.ensures }

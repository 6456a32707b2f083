use Rattle.ns_queue.proofs.lock_list.LockList.waiters.Goals as goal

pub returns : goal.returns
returns g c = rw (← c.self.view_is) c.gathered.ensures

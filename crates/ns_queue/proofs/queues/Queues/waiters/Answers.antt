use Rattle.ns_queue.proofs.queues.Queues.waiters.Goals as goal

pub returns-in-Lock : goal.returns-in-Lock
returns-in-Lock g c = rw c.in-Lock.is (rw (← c.self.view_is) c.waiters.ensures)

pub returns-in-Cv : goal.returns-in-Cv
returns-in-Cv g c = rw c.in-Cv.is c.copied_list.ensures.list

use Rattle.ns_queue.proofs.queues.Queues.scan.Goals as goal

pub scan_from-requires : goal.scan_from-requires
scan_from-requires g c = (g.met.C.Queueable.parts_fit.queues, (g.met.C.Queueable.parts_fit.row, rw (← c.self.view_is) c.seek-sought.ensures))

pub returns : goal.returns
returns g c = c.scan_from.ensures

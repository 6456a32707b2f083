use Rattle.ns_queue.proofs.Prelude.{refl}
use Rattle.ns_queue.proofs.Inside.{lock_lessened}
use Rattle.ns_queue.proofs.Leaving.{times_left}
use Rattle.ns_queue.proofs.queues.Queues.scan_from.Goals as goal

pub invariant_of-self : goal.invariant_of-self
invariant_of-self g c = lock_lessened _ _ _ c.self.invariant (λ seat. rw c.scan_from.ensures.left (times_left (λ d. g.C.Condition.means.holds d c.args.row.now) c.self.inside.lock seat))

pub scan_from-requires : goal.scan_from-requires
scan_from-requires g c = (g.met.C.Queueable.parts_fit.lock, (g.met.C.Queueable.parts_fit.row, rw (← c.self.view_is) at c.requires))

pub returns : goal.returns
returns g c =
    let e = c.scan_from.ensures in
    rw (← c.self.view_is) (record { woken = e.woken; vias = e.vias; left = rw e.left refl; tests = e.tests; at_most_runs = e.at_most_runs })

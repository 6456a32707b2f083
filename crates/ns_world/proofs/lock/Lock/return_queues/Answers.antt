use Rattle.ns_world.proofs.Prelude.{[], append-nil, refl, sym}
use Rattle.ns_world.proofs.lock.Lock.return_queues.Goals as goal

pub return_queued-requires : goal.return_queued-requires
return_queued-requires g c = (g.met.C.Seated.lock_fits, (g.met.C.Seated.seat_fits, rw c.in-QueueSelf.is at c.requires))

pub return_left-requires : goal.return_left-requires
return_left-requires g c = (g.met.C.Seated.lock_fits, g.met.C.Seated.seat_fits)

pub return_waking-requires : goal.return_waking-requires
return_waking-requires g c = let fits = rw c.in-WakeWaiters.is at c.requires in (g.met.C.Seated.lock_fits, (g.met.C.Seated.seat_fits, fits.1))

pub returns-in-QueueSelf : goal.returns-in-QueueSelf
returns-in-QueueSelf g c = rw c.in-QueueSelf.is c.return_queued.ensures

pub returns-in-LeaveSelf : goal.returns-in-LeaveSelf
returns-in-LeaveSelf g c = rw c.in-LeaveSelf.is c.return_left.ensures

pub returns-in-WakeWaiters : goal.returns-in-WakeWaiters
returns-in-WakeWaiters g c = rw c.in-WakeWaiters.is c.return_waking.ensures

pub returns-in-Nothing : goal.returns-in-Nothing
returns-in-Nothing g c = rw c.in-Nothing.is record { commits = []; effect = (refl, refl, rw (c.returned-self.ensures, c.bits.ensures) refl, refl); grows = sym (append-nil c.args.self.now.history.items); stays = refl }

pub bits-requires : goal.bits-requires
bits-requires g c = g.met.C.Queueable.parts_fit.queues

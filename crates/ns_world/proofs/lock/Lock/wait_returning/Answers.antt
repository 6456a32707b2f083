use Rattle.ns_queue.specs.Sizes.{row_small}
use Rattle.ns_world.proofs.Prelude.{CanWait, as_many, err_from_is_err_and, refl}
use Rattle.ns_world.proofs.Exchanged.{can_in_range, can_some, waited}
use Rattle.ns_world.proofs.lock.Lock.wait_returning.Goals as goal

pub leave-requires : goal.leave-requires
leave-requires g c = (g.met.C.Seated.seat_fits, (g.met.C.Seated.event_fits, can_some (CanWait g.C.Condition.means c.args.wait c.args.again) (λ no. no) c.args.seat.now.held c.requires.0))

pub returns-in_err-leave : goal.returns-in_err-leave
returns-in_err-leave g c =
    let p = err_from_is_err_and c.from_residual.result c.from_residual.ensures.1 in
    let err = c.in_err-leave.ensures in
    rw p.1 record { commits = (err.0, refl); lock = refl; history = err.2; seat = err.1 }

pub returns : goal.returns
returns g c =
    let scan = c.scan_and_queue-scan in let done = c.release_scanned.ensures in
    rw (done.found, done.lock, done.seat, c.of.ensures, c.in_ok-leave.ensures.1)
    (waited g.C.Condition.means c.args.self.now c.args.seat.now _ scan.result.woken.items scan.result.vias.items scan.result.tests scan.ensures.woken scan.ensures.vias scan.ensures.tests c.args.wait c.args.again c.requires.0 c.in_ok-leave.ensures.0 (rw c.in_ok-leave.ensures.1 at scan.ensures.lists) refl)

pub scan_and_queue-scan-requires : goal.scan_and_queue-scan-requires
scan_and_queue-scan-requires g c =
    let in_range = can_in_range g.C.Condition.means c.args.wait c.args.again c.args.seat.now.held c.requires.0 in
    (g.met.C.Queueable.parts_fit.queues, (row_small g.met.C.Condition.has_cells.1, (in_range, rw c.in_ok-leave.ensures.1 (c.requires.2, c.requires.3))))

pub release_scanned-requires : goal.release_scanned-requires
release_scanned-requires g c = (g.met.C.Seated.lock_fits, (g.met.C.Seated.seat_fits, as_many _ _ _ c.scan_and_queue-scan.ensures.woken c.scan_and_queue-scan.ensures.vias))

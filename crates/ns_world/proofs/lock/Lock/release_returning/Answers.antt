use Rattle.ns_queue.specs.Sizes.{row_small}
use Rattle.ns_world.proofs.Prelude.{CanLeave, as_many, err_from_is_err_and, refl}
use Rattle.ns_world.proofs.Exchanged.{can_some, scanned}
use Rattle.ns_world.proofs.lock.Lock.release_returning.Goals as goal

pub commit-requires : goal.commit-requires
commit-requires g c = (g.met.C.Seated.seat_fits, (g.met.C.Seated.event_fits, can_some (CanLeave g.C.Condition.means c.args.releasing) (λ no. no) c.args.seat.now.held c.requires.0))

pub returns-in_err-commit : goal.returns-in_err-commit
returns-in_err-commit g c =
    let p = err_from_is_err_and c.from_residual.result c.from_residual.ensures.1 in
    rw p.1 record { commits = refl; lock = refl; history = c.in_err-commit.ensures.1; seat = c.in_err-commit.ensures.0 }

pub returns : goal.returns
returns g c =
    let scan = c.scan-scan in let done = c.release_scanned.ensures in
    rw (done.found, done.lock, done.seat, c.in_ok-commit.ensures.1)
    (scanned g.C.Condition.means c.args.self.now c.args.seat.now _ scan.result.woken.items scan.result.vias.items scan.result.tests scan.ensures.woken scan.ensures.vias scan.ensures.tests c.args.releasing c.requires.0 c.in_ok-commit.ensures.0 scan.ensures.left refl)

pub scan-scan-requires : goal.scan-scan-requires
scan-scan-requires g c = (g.met.C.Queueable.parts_fit.queues, row_small g.met.C.Condition.has_cells.1)

pub release_scanned-requires : goal.release_scanned-requires
release_scanned-requires g c = (g.met.C.Seated.lock_fits, (g.met.C.Seated.seat_fits, as_many _ _ _ c.scan-scan.ensures.woken c.scan-scan.ensures.vias))

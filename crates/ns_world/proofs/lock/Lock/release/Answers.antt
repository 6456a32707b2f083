use Rattle.ns_world.proofs.Prelude.{CanLeave, err_from_is_err_and, refl}
use Rattle.ns_world.proofs.Exchanged.{can_some, released}
use Rattle.ns_world.proofs.lock.Lock.release.Goals as goal

pub commit-requires : goal.commit-requires
commit-requires g c = (g.met.C.Seated.seat_fits, (g.met.C.Seated.event_fits, can_some (CanLeave g.C.Condition.means c.args.releasing) (λ no. no) c.args.seat.now.held c.requires))

pub returns : goal.returns
returns g c = rw c.in_ok-commit.ensures.1 (released g.C.Condition.means c.args.self.now c.args.seat.now c.args.releasing _ c.requires c.in_ok-commit.ensures.0 (rw c.released-self.ensures refl))

pub returns-in_err-commit : goal.returns-in_err-commit
returns-in_err-commit g c =
    let p = err_from_is_err_and c.from_residual.result c.from_residual.ensures.1 in
    rw p.1 record { commits = refl; lock = refl; history = c.in_err-commit.ensures.1; seat = c.in_err-commit.ensures.0 }

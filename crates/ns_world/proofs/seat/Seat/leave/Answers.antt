use Rattle.ns_world.proofs.Prelude.{refl}
use Rattle.ns_world.proofs.Exchanged.{none_more, on_both}
use Rattle.ns_world.proofs.seat.Seat.leave.Goals as goal

pub returns-then-again : goal.returns-then-again
returns-then-again g c = (rw c.if-again.true (none_more c.args.self.now.held c.args.history.now.items), refl)

pub returns : goal.returns
returns g c = rw (c.if-again.false, ← c.exit_for.ensures) (on_both c.commit.result (λ done p. p) (λ p. (refl, p.0, p.1)) c.commit.ensures)

pub commit-requires : goal.commit-requires
commit-requires g c = (g.met.C.Seated.seat_fits, (g.met.C.Seated.event_fits, c.requires))

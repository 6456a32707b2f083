use Rattle.ns_world.proofs.Prelude.{false≢true, refl}
use Rattle.ns_world.proofs.seat.Seat.commit.Goals as goal

pub entry-requires : goal.entry-requires
entry-requires g c = g.met.C.Seated.held_fits

pub returns : goal.returns
returns g c = (rw (c.in-Some.is, ← c.entry.ensures) c.in_ok-push.ensures.items, refl)

pub unreachable-requires : goal.unreachable-requires
unreachable-requires g c = absurd (false≢true (rw c.in_default.is at c.requires))

use Rattle.ns_world.proofs.seats.is_of.Goals as goal

pub mode_of-requires : goal.mode_of-requires
mode_of-requires g c = g.met.C.Seated.held_fits

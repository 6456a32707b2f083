use Rattle.std.proofs.Common.{ap, ◌∙◌}
use Rattle.ns_world.proofs.Prelude.{step_of}
use Rattle.ns_world.proofs.looks.see.Goals as goal

pub settle-requires : goal.settle-requires
settle-requires g c = (g.met.C.Seated.seat_fits, c.requires)

pub keep-requires : goal.keep-requires
keep-requires g c = g.met.C.Seated.held_fits

pub returns : goal.returns
returns g c = record { goes = rw (c.got.ensures, c.keep.ensures, c.came_back.ensures) at c.settle.ensures.seat; answers = c.settle.ensures.step ∙ ap (step_of c.args.wait) c.got.ensures }

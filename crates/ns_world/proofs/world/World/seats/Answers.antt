use Rattle.std.proofs.Common.{◌∙◌}
use Rattle.ns_world.proofs.world.World.seats.Goals as goal

pub returns : goal.returns
returns g c = record { count = rw (← c.self.view_is) (c.len.ensures ∙ c.self.inside.seats.ok.0); few = rw (c.len.ensures ∙ c.self.inside.seats.ok.0) c.self.invariant.few }

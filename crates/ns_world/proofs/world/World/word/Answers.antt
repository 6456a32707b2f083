use Rattle.ns_world.proofs.Prelude.{refl}
use Rattle.ns_world.proofs.world.World.word.Goals as goal

pub returns : goal.returns
returns g c = rw (← c.self.view_is) refl

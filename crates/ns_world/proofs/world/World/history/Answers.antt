use Rattle.ns_world.proofs.world.World.history.Goals as goal

pub returns : goal.returns
returns g c = record { all = rw (← c.self.view_is) c.as_slice.ensures.value; by_seats = rw (← c.self.view_is, c.as_slice.ensures.value) c.self.invariant.lawful.one_history.by_seats; legal = rw c.as_slice.ensures.value c.self.invariant.lawful.one_history.legal }

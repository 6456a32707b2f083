use Rattle.std.proofs.Common.{arith, ◌∙◌}
use Rattle.ns_monitor.proofs.Prelude.{TableId}
use Rattle.ns_monitor.proofs.handle.Acting.broadcast.Goals as goal

pub broadcast-requires : goal.broadcast-requires
broadcast-requires g c = (omega arith, (omega arith, (c.self.invariant, c.requires)))

pub invariant_of-self : goal.invariant_of-self
invariant_of-self g c = ◌∙◌ {A = TableId} c.broadcast.ensures.grows.monitor c.self.invariant

pub returns : goal.returns
returns g c = let e = c.broadcast.ensures in rw (← c.self.view_is) record { grows = e.grows; woke = e.woke }

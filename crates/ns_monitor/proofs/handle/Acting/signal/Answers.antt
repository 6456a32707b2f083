use Rattle.std.proofs.Common.{arith, ◌∙◌}
use Rattle.ns_monitor.proofs.Prelude.{TableId}
use Rattle.ns_monitor.proofs.handle.Acting.signal.Goals as goal

pub signal-requires : goal.signal-requires
signal-requires g c = (omega arith, (omega arith, (c.self.invariant, c.requires)))

pub invariant_of-self : goal.invariant_of-self
invariant_of-self g c = ◌∙◌ {A = TableId} c.signal.ensures.grows.monitor c.self.invariant

pub returns : goal.returns
returns g c = let e = c.signal.ensures in rw (← c.self.view_is) record { grows = e.grows; woke = e.woke }

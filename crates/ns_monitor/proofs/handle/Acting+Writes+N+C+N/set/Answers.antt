use Rattle.std.proofs.Common.{arith, ◌∙◌}
use Rattle.ns_monitor.proofs.Prelude.{TableId}
use Rattle.ns_monitor.proofs.handle.Acting+Writes+N+C+N.set.Goals as goal

pub set-requires : goal.set-requires
set-requires g c = (omega arith, (omega arith, (omega (arith, g.met.C.Condition.has_cells), (c.self.invariant, c.requires))))

pub invariant_of-self : goal.invariant_of-self
invariant_of-self g c = ◌∙◌ {A = TableId} c.set.ensures.grows.monitor c.self.invariant

pub returns : goal.returns
returns g c = let e = c.set.ensures in rw (← c.self.view_is) record { grows = e.grows; mine = e.mine; wide = e.wide; section = e.section }

use Rattle.std.proofs.Common.{arith, ◌∙◌}
use Rattle.ns_monitor.proofs.Prelude.{TableId}
use Rattle.ns_monitor.proofs.handle.Acting.get.Goals as goal

pub get-requires : goal.get-requires
get-requires g c = (omega arith, (omega arith, (c.self.invariant, c.requires)))

pub invariant_of-self : goal.invariant_of-self
invariant_of-self g c = ◌∙◌ {A = TableId} c.get.ensures.saw.grows.monitor c.self.invariant

pub returns : goal.returns
returns g c = let e = c.get.ensures in rw (← c.self.view_is) record { saw = e.saw; wide = e.wide; value = e.value }

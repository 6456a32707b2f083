use Rattle.std.proofs.Common.{arith, ◌∙◌}
use Rattle.ns_monitor.proofs.Prelude.{TableId}
use Rattle.ns_monitor.proofs.handle.Acting.wait.Goals as goal

pub wait-caller-requires : goal.wait-caller-requires
wait-caller-requires g c = (omega arith, (omega arith, c.self.invariant))

pub invariant_of-result : goal.invariant_of-result
invariant_of-result g c = ◌∙◌ {A = TableId} c.wait-caller.ensures.grows.monitor c.self.invariant

pub returns : goal.returns
returns g c = let e = c.wait-caller.ensures in rw (← c.self.view_is) record { grows = e.grows; waited = e.waited }

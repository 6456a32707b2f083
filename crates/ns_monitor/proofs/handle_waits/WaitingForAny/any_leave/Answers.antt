use Rattle.std.proofs.Common.{arith, ◌∙◌}
use Rattle.ns_monitor.proofs.Prelude.{TableId}
use Rattle.ns_monitor.proofs.handle_waits.WaitingForAny.any_leave.Goals as goal

pub any_leave-caller-requires : goal.any_leave-caller-requires
any_leave-caller-requires g c = (omega arith, (omega arith, (omega arith, c.self.invariant)))

pub invariant_of-result : goal.invariant_of-result
invariant_of-result g c = ◌∙◌ {A = TableId} c.any_leave-caller.ensures.monitor c.self.invariant

pub returns : goal.returns
returns g c = rw (← c.self.view_is) c.any_leave-caller.ensures

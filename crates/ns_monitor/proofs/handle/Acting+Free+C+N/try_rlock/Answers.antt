use Rattle.std.proofs.Common.{arith, ◌∙◌}
use Rattle.ns_monitor.proofs.Prelude.{TableId}
use Rattle.ns_monitor.proofs.handle.Acting+Free+C+N.try_rlock.Goals as goal

pub try_rlock-requires : goal.try_rlock-requires
try_rlock-requires g c = (omega arith, (omega arith, (omega arith, c.self.invariant)))

pub invariant_of-result : goal.invariant_of-result
invariant_of-result g c = ◌∙◌ {A = TableId} c.in-Ok.ensures.locked.grows.monitor c.self.invariant

pub invariant_of-result-in-Err : goal.invariant_of-result-in-Err
invariant_of-result-in-Err g c = ◌∙◌ {A = TableId} c.in-Err.ensures.busy.grows.monitor c.self.invariant

pub returns-in-Ok : goal.returns-in-Ok
returns-in-Ok g c = record { locked = rw (← c.self.view_is) c.in-Ok.ensures.locked; busy = tt }

pub returns-in-Err : goal.returns-in-Err
returns-in-Err g c = record { locked = tt; busy = rw (← c.self.view_is) c.in-Err.ensures.busy }

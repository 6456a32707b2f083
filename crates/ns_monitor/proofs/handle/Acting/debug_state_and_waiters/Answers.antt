use Rattle.std.proofs.Common.{arith, ◌∙◌}
use Rattle.ns_monitor.proofs.Prelude.{TableId}
use Rattle.ns_monitor.proofs.handle.Acting.debug_state_and_waiters.Goals as goal

pub debug_state_and_waiters-requires : goal.debug_state_and_waiters-requires
debug_state_and_waiters-requires g c = (omega arith, (omega arith, c.self.invariant))

pub invariant_of-self : goal.invariant_of-self
invariant_of-self g c = ◌∙◌ {A = TableId} c.debug_state_and_waiters.ensures.saw.grows.monitor c.self.invariant

pub returns : goal.returns
returns g c = let e = c.debug_state_and_waiters.ensures in rw (← c.self.view_is) record { saw = e.saw; shows = e.shows }

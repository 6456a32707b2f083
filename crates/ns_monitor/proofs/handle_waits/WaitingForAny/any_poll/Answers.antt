use Rattle.std.proofs.Common.{arith, ◌∙◌}
use Rattle.ns_monitor.proofs.Prelude.{TableId}
use Rattle.ns_monitor.proofs.handle_waits.WaitingForAny.any_poll.Goals as goal

pub any_poll-requires : goal.any_poll-requires
any_poll-requires g c = (omega arith, (omega arith, (omega arith, c.self.invariant)))

pub invariant_of-result : goal.invariant_of-result
invariant_of-result g c = ◌∙◌ {A = TableId} c.in-Woken.ensures.woken.monitor c.self.invariant

pub invariant_of-result-in-Still : goal.invariant_of-result-in-Still
invariant_of-result-in-Still g c = ◌∙◌ {A = TableId} c.in-Still.ensures.still.on.monitor c.self.invariant

pub returns-in-Woken : goal.returns-in-Woken
returns-in-Woken g c = record { woken = rw (← c.self.view_is) c.in-Woken.ensures.woken; still = tt }

pub returns-in-Still : goal.returns-in-Still
returns-in-Still g c = record { woken = tt; still = rw (← c.self.view_is) c.in-Still.ensures.still }

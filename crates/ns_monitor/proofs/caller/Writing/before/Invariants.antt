use Rattle.ns_monitor.proofs.Saves.{AreFound}
use Rattle.ns_monitor.proofs.caller.Writing.before.Given as goal

abbrev pub invariant-loop-i : goal.invariant-loop-i
invariant-loop-i g l = AreFound g.row.N l.fn.self.saved l.fn.row l.before l.i

use Rattle.ns_monitor.proofs.Prelude.{HasLoaded}
use Rattle.ns_monitor.proofs.cells.load_cells.Given as goal

abbrev pub invariant-loop-i : goal.invariant-loop-i
invariant-loop-i g l = HasLoaded g.C.Condition.means l.fn.begins l.begun l.fn._walk l.i l.row l.fn.seat l.seat

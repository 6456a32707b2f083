use Rattle.std.proofs.Common.{arith, refl}
use Rattle.ns_monitor.proofs.Prelude.{in_room}
use Rattle.ns_monitor.proofs.Begins.{may_judge}
use Rattle.ns_monitor.proofs.Tests.{can_tell, is_judged}
use Rattle.ns_monitor.proofs.cells.load_to_judge.Goals as goal

pub judge_quiet-requires : goal.judge_quiet-requires
judge_quiet-requires g c = let some_cells = g.met.C.Condition.has_cells.0 in let begun = c.load_cells-begun.ensures in
    in_room (omega (arith, some_cells), can_tell g.C.Condition.means _ _ _ _ _ _ _ refl begun)

pub returns : goal.returns
returns g c = record {
  judged = record {
    since = (is_judged g.C.Condition.means _ _ _ _ _ _ _ g.met.C.Condition.has_cells.0 c.is_quiet.ensures.first c.load_cells-begun.ensures c.judge_quiet.ensures.cell c.judge_quiet.ensures.did).0;
    so = (is_judged g.C.Condition.means _ _ _ _ _ _ _ g.met.C.Condition.has_cells.0 c.is_quiet.ensures.first c.load_cells-begun.ensures c.judge_quiet.ensures.cell c.judge_quiet.ensures.did).1;
  };
  row = (is_judged g.C.Condition.means _ _ _ _ _ _ _ g.met.C.Condition.has_cells.0 c.is_quiet.ensures.first c.load_cells-begun.ensures c.judge_quiet.ensures.cell c.judge_quiet.ensures.did).2;
}

pub load_cells-begun-requires : goal.load_cells-begun-requires
load_cells-begun-requires g c =
    in_room (omega (arith, g.met.C.Condition.has_cells), ((omega arith, refl), may_judge g.C.Condition.means c.is_quiet.result c.args.seat.now.me g.met.C.Condition.has_cells.0 c.is_quiet.ensures.first c.requires.rest c.requires.writes))

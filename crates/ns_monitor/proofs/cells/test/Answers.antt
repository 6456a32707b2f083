use Rattle.std.proofs.Common.{ap, arith, ◌-◌}
use Rattle.ns_monitor.proofs.Prelude.{in_room, judge_of}
use Rattle.ns_monitor.proofs.Tests.{can_tell, is_tested}
use Rattle.ns_monitor.proofs.cells.test.Goals as goal

pub judge_met-requires : goal.judge_met-requires
judge_met-requires g c = let some_cells = g.met.C.Condition.has_cells.0 in let begun = c.load_cells-begun.ensures in
    let can = can_tell g.C.Condition.means _ _ _ _ _ _ _ (ap (λ subject. judge_of subject (g.row.N - 1)) c.requires.on) begun in
    in_room (omega (arith, some_cells), can)

pub returns : goal.returns
returns g c = record {
  since = (is_tested g.C.Condition.means _ _ _ _ _ _ _ _ _ _ _ g.met.C.Condition.has_cells.0 c.load_cells-begun.ensures c.judge_met.ensures.cell c.judge_met.ensures.did c.test.ensures).0;
  so = (is_tested g.C.Condition.means _ _ _ _ _ _ _ _ _ _ _ g.met.C.Condition.has_cells.0 c.load_cells-begun.ensures c.judge_met.ensures.cell c.judge_met.ensures.did c.test.ensures).1;
}

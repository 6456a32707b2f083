use Rattle.std.proofs.Common.{arith, subst, ◌<◌, ◌≡◌}
use Rattle.ns_monitor.proofs.Prelude.{HasLoaded, in_room}
use Rattle.ns_monitor.proofs.Tests.{can_load_cell, loads_cell, loads_none}
use Rattle.ns_monitor.proofs.cells.load_cells.Goals as goal

pub loop-i-init : goal.loop-i-init
loop-i-init g c = loads_none g.C.Condition.means _ _ _ _ c.told-row c.requires.stands

pub load_cell-requires : goal.load_cell-requires
load_cell-requires g c = let few = c.requires.count.0 in let low = c.loop-i-test.true in
    in_room (omega (arith, few, low), can_load_cell g.C.Condition.means _ _ _ _ _ _ _ (subst (λ n. c.loop-i.i < n) c.requires.count.1 low) c.loop-i.invariant)

pub loop-i-preserved : goal.loop-i-preserved
loop-i-preserved g c = let few = c.requires.count.0 in let low = c.loop-i-test.true in
    loads_cell g.C.Condition.means _ _ _ _ _ _ _ _ _ (subst (λ n. c.loop-i.i < n) c.requires.count.1 low) (omega (arith, few, low)) c.loop-i.invariant c.load_cell.ensures

pub returns : goal.returns
returns g c = let all : c.loop-i.i ≡ c.args.count = omega arith in
    subst (λ n. HasLoaded g.C.Condition.means c.args.begins c.loop-i.begun c.args._walk n c.loop-i.row c.args.seat.now c.loop-i.seat) all c.loop-i.invariant

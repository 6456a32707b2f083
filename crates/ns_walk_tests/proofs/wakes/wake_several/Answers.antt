use Rattle.std.proofs.Common.{arith}
use Rattle.ns_gate.proofs.Prelude.{list_fits, list_small, number}
use Rattle.ns_walk_tests.proofs.wakes.wake_several.Goals as goal

pub wake_in_hand-taken-requires : goal.wake_in_hand-taken-requires
wake_in_hand-taken-requires g c = (omega arith, (list_small _ (list_fits g.row.C (number 1) g.met.C.Condition.has_room), (c.requires.has, c.requires.variable)))

pub as_slice-requires : goal.as_slice-requires
as_slice-requires g c = list_small _ (list_fits g.row.C (number 1) g.met.C.Condition.has_room)

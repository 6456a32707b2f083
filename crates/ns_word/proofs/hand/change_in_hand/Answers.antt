use Rattle.ns_word.proofs.Prelude.{number, queues_fit, row_small}
use Rattle.ns_word.proofs.hand.change_in_hand.Goals as goal

pub change_acquiring-requires : goal.change_acquiring-requires
change_acquiring-requires g c = (queues_fit g.row.C (number g.row.N) g.met.C.Condition.has_room g.C.Condition, (c.requires.below, rw c.in-InAcquire.is at c.requires.free))

pub change_waiting-requires : goal.change_waiting-requires
change_waiting-requires g c = (queues_fit g.row.C (number g.row.N) g.met.C.Condition.has_room g.C.Condition, (row_small g.met.C.Condition.has_cells.1, (rw c.in-InWait.is at c.requires.lists, (c.requires.below, rw c.in-InWait.is at c.requires.free))))

pub change_signaling-requires : goal.change_signaling-requires
change_signaling-requires g c = (queues_fit g.row.C (number g.row.N) g.met.C.Condition.has_room g.C.Condition, rw c.in-InSignal.is at c.requires.lists)

pub change_releasing-requires : goal.change_releasing-requires
change_releasing-requires g c = (queues_fit g.row.C (number g.row.N) g.met.C.Condition.has_room g.C.Condition, row_small g.met.C.Condition.has_cells.1)

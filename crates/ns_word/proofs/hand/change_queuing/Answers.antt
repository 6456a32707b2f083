use Rattle.ns_word.proofs.Prelude.{number, queues_fit, refl, row_small}
use Rattle.ns_word.proofs.hand.change_queuing.Goals as goal

pub scan_and_queue-requires : goal.scan_and_queue-requires
scan_and_queue-requires g c = let free = rw c.in-QueueToWait.is at c.requires.free in (queues_fit g.row.C (number g.row.N) g.met.C.Condition.has_room g.C.Condition, (row_small g.met.C.Condition.has_cells.1, (c.requires.list, (c.requires.below, free refl))))

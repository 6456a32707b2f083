use Rattle.ns_word.proofs.Prelude.{number, queues_fit, refl}
use Rattle.ns_word.proofs.hand.change_acquiring.Goals as goal

pub returns-in-Queue : goal.returns-in-Queue
returns-in-Queue g c = rw c.in-Queue.is (rw c.mode.ensures at (c.queue_self.ensures c.in-Queue.field-1))

pub queue_self-requires : goal.queue_self-requires
queue_self-requires g c = let free = rw c.in-Queue.is at c.requires.free in (queues_fit g.row.C (number g.row.N) g.met.C.Condition.has_room g.C.Condition, (c.requires.below, free refl))

use Rattle.ns_word.proofs.Prelude.{number, queues_fit}
use Rattle.ns_word.proofs.hand.queue_self.Goals as goal

pub queue-requires : goal.queue-requires
queue-requires g c = (queues_fit g.row.C (number g.row.N) g.met.C.Condition.has_room g.C.Condition, (c.requires.below, c.requires.free))

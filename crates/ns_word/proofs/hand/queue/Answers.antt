use Rattle.ns_word.proofs.Prelude.{number, queues_fit}
use Rattle.ns_word.proofs.hand.queue.Goals as goal

pub push_front-requires : goal.push_front-requires
push_front-requires g c = (queues_fit g.row.C (number g.row.N) g.met.C.Condition.has_room g.C.Condition, (c.requires.below, c.requires.free))

pub push_back-requires : goal.push_back-requires
push_back-requires g c = (queues_fit g.row.C (number g.row.N) g.met.C.Condition.has_room g.C.Condition, (tt, (c.requires.below, c.requires.free)))

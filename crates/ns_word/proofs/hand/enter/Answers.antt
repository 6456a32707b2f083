use Rattle.ns_word.proofs.Prelude.{number, queues_fit, rules}
use Rattle.ns_word.proofs.hand.enter.Goals as goal

pub queue-requires : goal.queue-requires
queue-requires g c = (queues_fit g.row.C (number g.row.N) g.met.C.Condition.has_room g.C.Condition, (c.requires.below, c.requires.free))

pub push_back-requires : goal.push_back-requires
push_back-requires g c = (queues_fit g.row.C (number g.row.N) g.met.C.Condition.has_room g.C.Condition, (search rules, (c.requires.below, c.requires.free)))

pub push_any-requires : goal.push_any-requires
push_any-requires g c = (queues_fit g.row.C (number g.row.N) g.met.C.Condition.has_room g.C.Condition, (search rules, (c.requires.below, c.requires.free)))

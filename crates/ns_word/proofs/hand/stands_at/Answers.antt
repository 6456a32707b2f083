use Rattle.ns_word.proofs.Prelude.{number, queues_fit}
use Rattle.ns_word.proofs.hand.stands_at.Goals as goal

pub stands-requires : goal.stands-requires
stands-requires g c = (queues_fit g.row.C (number g.row.N) g.met.C.Condition.has_room g.C.Condition, tt)

use denote.Param.{number}
use Rattle.ns_queue.specs.Sizes.{queues_fit}
use Rattle.ns_runs.proofs.differing.Goals as goal

-- the queues fit in memory over any tagged condition
pub new-queues-requires : goal.new-queues-requires
new-queues-requires g c = queues_fit g.row.C (number 2) g.met.C.Condition.has_room g.C.Condition

pub step-requires : goal.step-requires
step-requires g c = queues_fit g.row.C (number 2) g.met.C.Condition.has_room g.C.Condition

pub agree-requires : goal.agree-requires
agree-requires g c = queues_fit g.row.C (number 2) g.met.C.Condition.has_room g.C.Condition

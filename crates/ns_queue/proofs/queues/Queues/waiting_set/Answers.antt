use Rattle.std.proofs.Common.{ap, ◌∙◌}
use Rattle.ns_queue.proofs.Prelude.{taken_set}
use Rattle.ns_queue.proofs.queues.Queues.waiting_set.Goals as goal

pub taken_set-requires : goal.taken_set-requires
taken_set-requires g c = c.variable.ensures.below

pub returns : goal.returns
returns g c = c.taken_set.ensures ∙ ap taken_set c.variable.ensures.list

use Rattle.std.proofs.Common.{ap, ◌∙◌}
use Rattle.ns_queue.proofs.Prelude.{signaled_of, taken_set}
use Rattle.ns_queue.proofs.Taken.{below_signaled}
use Rattle.ns_queue.proofs.queues.Queues.signaled_set.Goals as goal

pub taken_set-requires : goal.taken_set-requires
taken_set-requires g c = rw (c.as_slice.ensures.value, c.signaled.ensures) (below_signaled c.variable.result.now c.variable.ensures.below)

pub returns : goal.returns
returns g c = c.taken_set.ensures ∙ ap taken_set (c.as_slice.ensures.value ∙ c.signaled.ensures ∙ ap signaled_of c.variable.ensures.list)

use Rattle.std.proofs.Common.{◌∙◌}
use Rattle.ns_queue.proofs.queues.Queues.copied_list.Goals as goal

pub returns : goal.returns
returns g c = record { list = c.copied.ensures ∙ c.variable.ensures.list; below = rw c.copied.ensures c.variable.ensures.below; orderly = c.variable.ensures.orderly }

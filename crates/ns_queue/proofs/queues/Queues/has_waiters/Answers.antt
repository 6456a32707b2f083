use Rattle.std.proofs.Common.{ap, not, ◌∙◌}
use Rattle.ns_queue.proofs.Prelude.{has_some}
use Rattle.ns_queue.proofs.Seats.{some_there}
use Rattle.ns_queue.proofs.queues.Queues.has_waiters.Goals as goal

pub returns : goal.returns
returns g c = ap not c.is_empty.ensures ∙ some_there _ ∙ ap has_some c.variable.ensures.list

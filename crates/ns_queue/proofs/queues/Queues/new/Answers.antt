use Rattle.ns_queue.proofs.Orders.{orderly_fresh}
use Rattle.ns_queue.proofs.queues.Queues.new.Goals as goal

pub invariant_of-result : goal.invariant_of-result
invariant_of-result g c = rw (c.new.ensures, c.new-2.ensures, c.new-3.ensures, c.new-4.ensures, c.new-5.ensures) orderly_fresh

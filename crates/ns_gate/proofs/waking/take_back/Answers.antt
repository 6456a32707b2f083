use Rattle.ns_gate.proofs.Wakes.{one_out, removed_so}
use Rattle.ns_gate.proofs.waking.take_back.Goals as goal

pub loop-waiter-preserved : goal.loop-waiter-preserved
loop-waiter-preserved g c =
    one_out c.args.taken.now c.loop-waiter.waiter-index c.waiter-item.result c.loop-waiter.queues c.remove.new.self _ c.loop-waiter-test.true c.waiter-item.is
    (removed_so c.waiter-item.result.seat c.loop-waiter.queues c.remove.new.self c.remove.result c.remove.ensures.stood c.remove.ensures.removed c.remove.ensures.absent) c.loop-waiter.invariant

use Rattle.ns_queue.proofs.Appended.{next_free}
use Rattle.ns_queue.proofs.Taken.{low_at}
use Rattle.ns_queue.proofs.Prelude.{at_most, falls, length}
use Rattle.ns_queue.proofs.queues.Queues.append.Goals as goal

pub push_back-requires : goal.push_back-requires
push_back-requires g c = (
  g.met.C.Queueable.parts_fit.queues,
  (
    tt,
    (
      low_at c.args.waiters.now c.loop-waiter.waiter-index c.waiter-item.result c.requires.below c.loop-waiter-test.true c.waiter-item.is,
      next_free _ c.loop-waiter.self c.args.waiters.now c.loop-waiter.waiter-index c.waiter-item.result c.requires.once c.requires.free c.loop-waiter-test.true c.waiter-item.is c.loop-waiter.invariant,
    ),
  ),
)

pub offset_bounds-waiters-waiter-index : goal.offset_bounds-waiters-waiter-index
offset_bounds-waiters-waiter-index g c = at_most c.loop-waiter.waiter-index _ c.loop-waiter-test.true

pub bounds-waiters-waiter-index : goal.bounds-waiters-waiter-index
bounds-waiters-waiter-index g c = c.loop-waiter-test.true

pub loop-waiter-smaller : goal.loop-waiter-smaller
loop-waiter-smaller g c = falls (length c.args.waiters.now) c.loop-waiter.waiter-index c.loop-waiter-test.true

use Rattle.ns_queue.proofs.Prelude.{arith, at_most, bytes_72, falls, length, refl, room_at}
use Rattle.ns_queue.proofs.Marking.{signal_on}
use Rattle.ns_queue.proofs.signal.marks_of.Goals as goal

pub loop-waiter-preserved : goal.loop-waiter-preserved
loop-waiter-preserved g c = record {
  so_far = signal_on c.args.waiters.now c.loop-waiter.waiter-index c.waiter-item.result c.loop-waiter.wanted c.after-wanted.result c.takes.result _ _ _ c.loop-waiter-test.true c.waiter-item.is
      c.takes.ensures c.after-wanted.ensures c.push.ensures.items c.loop-waiter.invariant.so_far;
  many = omega (arith, c.push.ensures.len, c.loop-waiter.invariant.many);
}

pub new-marks-requires : goal.new-marks-requires
new-marks-requires g c = bytes_72

pub loop-waiter-init : goal.loop-waiter-init
loop-waiter-init g c = rw c.new-marks.ensures (record { so_far = refl; many = refl })

pub offset_bounds-waiters-waiter-index : goal.offset_bounds-waiters-waiter-index
offset_bounds-waiters-waiter-index g c = at_most c.loop-waiter.waiter-index _ c.loop-waiter-test.true

pub bounds-waiters-waiter-index : goal.bounds-waiters-waiter-index
bounds-waiters-waiter-index g c = c.loop-waiter-test.true

pub push-requires : goal.push-requires
push-requires g c = (bytes_72, room_at _ _ _ c.loop-waiter.invariant.many c.loop-waiter-test.true c.requires)

pub loop-waiter-smaller : goal.loop-waiter-smaller
loop-waiter-smaller g c = falls (length c.args.waiters.now) c.loop-waiter.waiter-index c.loop-waiter-test.true

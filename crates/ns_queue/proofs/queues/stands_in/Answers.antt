use Rattle.ns_queue.proofs.Prelude.{refl}
use Rattle.ns_queue.proofs.Seats.{found_in, not_here, nowhere_in}
use Rattle.ns_queue.proofs.queues.stands_in.Goals as goal

pub returns-then-waiter-seat : goal.returns-then-waiter-seat
returns-then-waiter-seat g c =
    (λ _. found_in c.args.waiters.now c.loop-waiter.waiter-index c.waiter-item.result c.args.seat c.loop-waiter-test.true c.waiter-item.is c.if-waiter-seat.true, λ _. refl)

pub loop-waiter-preserved : goal.loop-waiter-preserved
loop-waiter-preserved g c =
    not_here c.args.waiters.now c.loop-waiter.waiter-index c.waiter-item.result c.args.seat c.loop-waiter-test.true c.waiter-item.is c.if-waiter-seat.false c.loop-waiter.invariant

pub returns : goal.returns
returns g c = nowhere_in c.args.waiters.now c.loop-waiter.waiter-index c.args.seat c.loop-waiter-test.false c.loop-waiter.invariant

use Rattle.std.proofs.Common.{ap, arith, map, take_all, ◌∙◌}
use Rattle.ns_queue.proofs.Prelude.{room_at, shown_of}
use Rattle.ns_queue.proofs.Vias.{mapped_count, mapped_on}
use Rattle.ns_queue.proofs.queues.shown_slice.Goals as goal

pub push-requires : goal.push-requires
push-requires g c = (omega arith, room_at _ _ _ (mapped_count shown_of c.args.waiters.now c.loop-waiter.waiter-index c.loop-waiter.all.items c.loop-waiter-test.true c.loop-waiter.invariant) c.loop-waiter-test.true c.requires)

pub loop-waiter-preserved : goal.loop-waiter-preserved
loop-waiter-preserved g c =
    mapped_on shown_of c.args.waiters.now c.loop-waiter.waiter-index c.loop-waiter.all.items c.push.new.self.items c.waiter-item.result c.shown.result c.loop-waiter-test.true (c.shown.ensures ∙ ap shown_of c.waiter-item.is) c.push.ensures.items c.loop-waiter.invariant

pub returns : goal.returns
returns g c = c.loop-waiter.invariant ∙ ap (map shown_of) (take_all c.loop-waiter.waiter-index c.args.waiters.now c.loop-waiter-test.false)

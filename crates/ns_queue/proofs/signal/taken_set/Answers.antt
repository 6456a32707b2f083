use Rattle.std.proofs.Common.{ap, nat_lt, take_all, ◌∙◌}
use Rattle.ns_queue.proofs.Prelude.{times_in}
use Rattle.ns_queue.proofs.Taken.{low_at, set_more, set_whole}
use Rattle.ns_queue.proofs.signal.taken_set.Goals as goal

pub with-set-requires : goal.with-set-requires
with-set-requires g c = low_at c.args.taken.now c.loop-waiter.waiter-index c.waiter-item.result c.requires c.loop-waiter-test.true c.waiter-item.is

pub loop-waiter-preserved : goal.loop-waiter-preserved
loop-waiter-preserved g c =
    set_more c.args.taken.now c.loop-waiter.waiter-index c.waiter-item.result c.loop-waiter.set c.with-set.result c.loop-waiter-test.true c.waiter-item.is c.with-set.ensures c.loop-waiter.invariant

pub returns : goal.returns
returns g c =
    set_whole c.args.taken.now c.loop-waiter.set (λ n. c.loop-waiter.invariant n ∙ ap (λ ws. nat_lt 0 (times_in n ws)) (take_all c.loop-waiter.waiter-index c.args.taken.now c.loop-waiter-test.false))

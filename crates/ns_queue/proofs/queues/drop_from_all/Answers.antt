use Rattle.ns_queue.proofs.Prelude.{falls, length, outside, refl, still_in}
use Rattle.ns_queue.proofs.Inside.{lists_more}
use Rattle.ns_queue.proofs.Outside.{next_below}
use Rattle.ns_queue.proofs.queues.drop_from_all.Goals as goal

pub loop-list-preserved : goal.loop-list-preserved
loop-list-preserved g c =
    lists_more (outside c.args.set) c.args.lists.now c.loop-list.lists c.loop-list.list-index c.list-item.result _ c.loop-list-test.true c.loop-list.auto.lists c.loop-list.invariant c.drop_those.ensures

pub drop_those-requires : goal.drop_those-requires
drop_those-requires g c = (g.met.C.Queueable.parts_fit.list, next_below c.args.lists.now c.loop-list.lists c.loop-list.list-index c.list-item.result c.args.set c.requires c.loop-list-test.true c.loop-list.auto.lists c.loop-list.invariant)

pub loop-list-init : goal.loop-list-init
loop-list-init g c = refl

pub bounds-lists-list-index : goal.bounds-lists-list-index
bounds-lists-list-index g c = still_in c.loop-list.list-index _ _ c.loop-list-test.true c.loop-list.auto.lists

pub loop-list-smaller : goal.loop-list-smaller
loop-list-smaller g c = falls (length c.args.lists.now) c.loop-list.list-index c.loop-list-test.true

use Rattle.ns_queue.proofs.Prelude.{falls, offset_fits, refl, still_in, told_no, told_yes}
use Rattle.ns_queue.proofs.Inside.{some_list, more_lists}
use Rattle.ns_queue.proofs.queues.stands_in_any.Goals as goal

pub returns-then-stands_in : goal.returns-then-stands_in
returns-then-stands_in g c =
    let here = told_yes _ _ c.if-stands_in.true c.stands_in.ensures.0 in
    (λ _. some_list c.args.lists.now c.loop-list.list-index c.list-item.result _ c.args.seat c.loop-list-test.true c.type_inv.lists c.as_slice.ensures.value here, λ _. refl)

pub loop-list-preserved : goal.loop-list-preserved
loop-list-preserved g c =
    let none = told_no _ _ c.if-stands_in.false c.stands_in.ensures.1 in
    more_lists c.args.lists.now c.loop-list.list-index c.list-item.result _ c.args.seat c.loop-list-test.true c.type_inv.lists c.as_slice.ensures.value none c.loop-list.invariant

pub offset_bounds-lists-list-index : goal.offset_bounds-lists-list-index
offset_bounds-lists-list-index g c = offset_fits c.loop-list.list-index _ c.loop-list-test.true g.met.C.Queueable.list_fits

pub bounds-lists-list-index : goal.bounds-lists-list-index
bounds-lists-list-index g c = c.loop-list-test.true

pub loop-list-init : goal.loop-list-init
loop-list-init g c = refl

pub listed : goal.listed
listed g c = still_in c.loop-list.list-index 4 _ c.loop-list-test.true c.type_inv.lists

pub loop-list-smaller : goal.loop-list-smaller
loop-list-smaller g c = falls 4 c.loop-list.list-index c.loop-list-test.true

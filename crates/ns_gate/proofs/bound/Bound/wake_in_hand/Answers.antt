use Rattle.std.proofs.Common.{ap, arith, refl, sym, ◌∙◌, ◌≡◌}
use Rattle.ns_gate.proofs.Prelude.{TableId, has_slot, list_fits, list_small, lists_woken, moved_to, now_in_hand, number, queues_fit, taken_from, the, was_in_hand}
use Rattle.ns_gate.proofs.Wakes.{may_move, turned_alike}
use Rattle.ns_gate.proofs.bound.Bound.wake_in_hand.Goals as goal

pub slot_mut-requires : goal.slot_mut-requires
slot_mut-requires g c = (◌∙◌ {A = TableId} c.self.invariant.0 (sym c.gate.view_is), has_slot _ _ (rw (← c.self.view_is) at c.requires.has))

pub lists-queues-requires : goal.lists-queues-requires
lists-queues-requires g c = (omega arith, queues_fit g.row.C g.row.N g.met.C.Condition.has_room g.C.Condition)

pub move_if-requires : goal.move_if-requires
move_if-requires g c = (
  queues_fit g.row.C g.row.N g.met.C.Condition.has_room g.C.Condition,
  may_move c.args.waking c.args.k c.lists-queues.result.now c.take_waiters-taken.new.queues c.as_slice.result.now c.take_waiters-taken.ensures.orderly c.requires.variable
      (c.as_slice.ensures.value ∙ c.take_waiters-taken.ensures.taken) c.take_waiters-taken.ensures.left,
)

pub take_waiters-taken-requires : goal.take_waiters-taken-requires
take_waiters-taken-requires g c = (queues_fit g.row.C g.row.N g.met.C.Condition.has_room g.C.Condition, (list_small _ (list_fits g.row.C (number g.row.N) g.met.C.Condition.has_room), c.requires.variable))

pub turned_by-turned-requires : goal.turned_by-turned-requires
turned_by-turned-requires g c = queues_fit g.row.C g.row.N g.met.C.Condition.has_room g.C.Condition

pub as_slice-requires : goal.as_slice-requires
as_slice-requires g c = list_small _ (list_fits g.row.C (number g.row.N) g.met.C.Condition.has_room)

pub as_slice-requires-2 : goal.as_slice-requires-2
as_slice-requires-2 g c = list_small _ (list_fits g.row.C (number g.row.N) g.met.C.Condition.has_room)

pub returns : goal.returns
returns g c =
    let stood = (the c.self.inside.seat.now.me.0).stood in
    let was = was_in_hand _ _ _ c.self.inside.seat.now.me.1 (rw (← c.self.view_is) at c.requires.has) c.slot_mut.ensures.value c.lists-queues.ensures.value in
    let taken = c.as_slice.ensures.value ∙ c.take_waiters-taken.ensures.taken in
    let put : c.move_if.new.queues ≡ lists_woken c.args.waking c.args.k c.args.held stood = c.move_if.ensures ∙ (λ i. moved_to c.args.held (taken i) (c.take_waiters-taken.ensures.left i)) ∙ ap (lists_woken c.args.waking c.args.k c.args.held) was in
    rw (← c.self.view_is) record {
      worked = record { gate = refl; lent = refl; by = refl };
      orderly = rw was at c.take_waiters-taken.ensures.orderly;
      taken = c.take_waiters-taken.ensures.taken ∙ ap (taken_from c.args.waking c.args.k) was;
      lists = now_in_hand stood _ _ c.self.inside.seat.now.me.1 (rw (← c.self.view_is) at c.requires.has) put;
      turned = c.turned_by-turned.ensures ∙ turned_alike c.args.held (c.as_slice-2.ensures.value ∙ c.take_waiters-taken.ensures.taken ∙ ap (taken_from c.args.waking c.args.k) was) put;
    }

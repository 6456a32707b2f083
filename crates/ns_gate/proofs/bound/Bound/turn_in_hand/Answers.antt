use Rattle.std.proofs.Common.{arith, not, refl, sym, ◌∙◌, ◌≡◌}
use Rattle.ns_gate.proofs.Prelude.{TableId, has_slot, lists_woken, now_in_hand, queues_fit, the, was_in_hand}
use Rattle.ns_gate.proofs.Wakes.{may_turn, turned_alike, turned_over}
use Rattle.ns_gate.proofs.bound.Bound.turn_in_hand.Goals as goal

pub slot_mut-requires : goal.slot_mut-requires
slot_mut-requires g c = (◌∙◌ {A = TableId} c.self.invariant.0 (sym c.gate.view_is), has_slot _ _ (rw (← c.self.view_is) at c.requires.lists))

pub lists-queues-requires : goal.lists-queues-requires
lists-queues-requires g c = (omega arith, queues_fit g.row.C g.row.N g.met.C.Condition.has_room g.C.Condition)

pub turn-requires : goal.turn-requires
turn-requires g c = (
  queues_fit g.row.C g.row.N g.met.C.Condition.has_room g.C.Condition,
  may_turn c.args._waking c.args._k c.args.held (the c.self.inside.seat.now.me.0).stood c.lists-queues.result.now c.args.taken.now (rw (← c.self.view_is) at c.requires.orderly) c.requires.variable
      (rw (← c.self.view_is) at c.requires.taken) (was_in_hand _ _ _ c.self.inside.seat.now.me.1 (rw (← c.self.view_is) at c.requires.lists) c.slot_mut.ensures.value c.lists-queues.ensures.value),
)

pub turned_by-requires : goal.turned_by-requires
turned_by-requires g c = queues_fit g.row.C g.row.N g.met.C.Condition.has_room g.C.Condition

pub returns : goal.returns
returns g c =
    let stood = (the c.self.inside.seat.now.me.0).stood in
    let taken = rw (← c.self.view_is) at c.requires.taken in
    let lists = rw (← c.self.view_is) at c.requires.lists in
    let put : c.turn.new.queues ≡ lists_woken c.args._waking c.args._k c.args.held stood = c.turn.ensures
    ∙ turned_over c.args._waking c.args._k c.args.held stood c.lists-queues.result.now c.args.taken.now (rw (← c.self.view_is) at c.requires.orderly) c.requires.variable taken
    (was_in_hand _ _ _ c.self.inside.seat.now.me.1 lists c.slot_mut.ensures.value c.lists-queues.ensures.value) in
    rw (← c.self.view_is) record {
      worked = record { gate = refl; lent = refl; by = refl };
      lists = now_in_hand (lists_woken c.args._waking c.args._k (not c.args.held) stood) _ _ c.self.inside.seat.now.me.1 lists put;
      turned = c.turned_by.ensures ∙ turned_alike c.args.held taken put;
    }

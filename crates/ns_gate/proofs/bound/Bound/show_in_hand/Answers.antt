use Rattle.std.proofs.Common.{ap, arith, refl, subst, sym, ◌∙◌}
use Rattle.ns_gate.proofs.Prelude.{ShowsLists, TableId, bits_of, has_slot, now_in_hand, queues_fit, the, was_in_hand}
use Rattle.ns_gate.proofs.bound.Bound.show_in_hand.Goals as goal

pub slot_mut-requires : goal.slot_mut-requires
slot_mut-requires g c = (◌∙◌ {A = TableId} c.self.invariant.0 (sym c.gate.view_is), has_slot _ _ (rw (← c.self.view_is) at c.requires.has))

pub lists-queues-requires : goal.lists-queues-requires
lists-queues-requires g c = (omega arith, queues_fit g.row.C g.row.N g.met.C.Condition.has_room g.C.Condition)

pub shown_lists-requires : goal.shown_lists-requires
shown_lists-requires g c = queues_fit g.row.C g.row.N g.met.C.Condition.has_room g.C.Condition

pub bits-requires : goal.bits-requires
bits-requires g c = queues_fit g.row.C g.row.N g.met.C.Condition.has_room g.C.Condition

pub returns : goal.returns
returns g c = rw (← c.self.view_is) record {
  worked = record { gate = refl; lent = refl; by = refl };
  has = now_in_hand (the c.self.inside.seat.now.me.0).stood _ _ c.self.inside.seat.now.me.1 (rw (← c.self.view_is) at c.requires.has) (was_in_hand _ _ _ c.self.inside.seat.now.me.1 (rw (← c.self.view_is) at c.requires.has) c.slot_mut.ensures.value c.lists-queues.ensures.value);
  shows = subst (λ lists. ShowsLists lists c.shown_lists.result) (was_in_hand _ _ _ c.self.inside.seat.now.me.1 (rw (← c.self.view_is) at c.requires.has) c.slot_mut.ensures.value c.lists-queues.ensures.value) c.shown_lists.ensures;
  bits = c.bits.ensures ∙ ap (λ lists. bits_of lists.lock) (was_in_hand _ _ _ c.self.inside.seat.now.me.1 (rw (← c.self.view_is) at c.requires.has) c.slot_mut.ensures.value c.lists-queues.ensures.value);
}

use Rattle.std.proofs.Common.{ap, arith, refl, sym, ◌∙◌}
use Rattle.ns_gate.proofs.Prelude.{LeaveSelf, TableId, bits_of, changed, has_slot, now_in_hand, queues_fit, stands_at, the, was_in_hand}
use Rattle.ns_gate.proofs.bound.Bound.leave_in_hand.Goals as goal

pub slot_mut-requires : goal.slot_mut-requires
slot_mut-requires g c = (◌∙◌ {A = TableId} c.self.invariant.0 (sym c.gate.view_is), has_slot _ _ (rw (← c.self.view_is) at c.requires))

pub lists-queues-requires : goal.lists-queues-requires
lists-queues-requires g c = (omega arith, queues_fit g.row.C g.row.N g.met.C.Condition.has_room g.C.Condition)

pub bits-requires : goal.bits-requires
bits-requires g c = queues_fit g.row.C g.row.N g.met.C.Condition.has_room g.C.Condition

pub leave_self-stood-requires : goal.leave_self-stood-requires
leave_self-stood-requires g c = queues_fit g.row.C g.row.N g.met.C.Condition.has_room g.C.Condition

pub returns : goal.returns
returns g c = let me = c.self.inside.seat.now.me in let has = rw (← c.self.view_is) at c.requires in
    let stood = (the me.0).stood in let change = LeaveSelf c.args.home in
    let was = was_in_hand stood _ _ me.1 has c.slot_mut.ensures.value c.lists-queues.ensures.value in
    rw (← c.self.view_is) record {
      worked = record { gate = refl; lent = refl; by = refl };
      stood = c.leave_self-stood.ensures.stood ∙ (ap (stands_at c.self.inside.number c.args.home) was ∙ ap (λ n. stands_at n c.args.home stood) c.self.invariant.1);
      lists = λ last. now_in_hand stood _ _ me.1 has (c.leave_self-stood.ensures.left last ∙ (ap (changed c.self.inside.number change last) was ∙ ap (λ n. changed n change last stood) c.self.invariant.1));
      bits = λ last. c.bits.ensures ∙ ap (λ lists. bits_of lists.lock) (c.leave_self-stood.ensures.left last ∙ (ap (changed c.self.inside.number change last) was ∙ ap (λ n. changed n change last stood) c.self.invariant.1));
    }

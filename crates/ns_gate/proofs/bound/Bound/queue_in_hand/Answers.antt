use Rattle.std.proofs.Common.{ap, arith, refl, sym, ◌∙◌}
use Rattle.ns_gate.proofs.Prelude.{QueueSelf, TableId, bits_of, changed, has_slot, now_in_hand, queues_fit, the, times, was_in_hand}
use Rattle.ns_gate.proofs.bound.Bound.queue_in_hand.Goals as goal

pub slot_mut-requires : goal.slot_mut-requires
slot_mut-requires g c = (◌∙◌ {A = TableId} c.self.invariant.0 (sym c.gate.view_is), has_slot _ _ (rw (← c.self.view_is) at c.requires.has))

pub lists-queues-requires : goal.lists-queues-requires
lists-queues-requires g c = (omega arith, queues_fit g.row.C g.row.N g.met.C.Condition.has_room g.C.Condition)

pub bits-requires : goal.bits-requires
bits-requires g c = queues_fit g.row.C g.row.N g.met.C.Condition.has_room g.C.Condition

pub queue_self-requires : goal.queue_self-requires
queue_self-requires g c = let me = c.self.inside.seat.now.me in
    let was = was_in_hand _ _ _ me.1 (rw (← c.self.view_is) at c.requires.has) c.slot_mut.ensures.value c.lists-queues.ensures.value in
    let free = rw (← c.self.view_is) at c.requires.free in
    (queues_fit g.row.C g.row.N g.met.C.Condition.has_room g.C.Condition, (c.self.invariant.2, ap (times c.self.inside.number) was ∙ (ap (λ n. times n (the me.0).stood) c.self.invariant.1 ∙ free)))

pub returns : goal.returns
returns g c = let me = c.self.inside.seat.now.me in let has = rw (← c.self.view_is) at c.requires.has in
    let stood = (the me.0).stood in let change = QueueSelf c.args.mode c.args.arrival in
    let was = was_in_hand stood _ _ me.1 has c.slot_mut.ensures.value c.lists-queues.ensures.value in
    rw (← c.self.view_is) record {
      worked = record { gate = refl; lent = refl; by = refl };
      lists = λ last. now_in_hand stood _ _ me.1 has (c.queue_self.ensures last ∙ (ap (changed c.self.inside.number change last) was ∙ ap (λ n. changed n change last stood) c.self.invariant.1));
      bits = λ last. c.bits.ensures ∙ ap (λ lists. bits_of lists.lock) (c.queue_self.ensures last ∙ (ap (changed c.self.inside.number change last) was ∙ ap (λ n. changed n change last stood) c.self.invariant.1));
    }

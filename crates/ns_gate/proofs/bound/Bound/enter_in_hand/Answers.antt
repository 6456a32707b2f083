use Rattle.std.proofs.Common.{ap, arith, refl, sym, ◌∙◌}
use Rattle.ns_gate.proofs.Prelude.{TableId, bits_of, has_slot, now_in_hand, queues_fit, times, waits_at, was_in_hand}
use Rattle.ns_gate.proofs.bound.Bound.enter_in_hand.Goals as goal

pub slot_mut-requires : goal.slot_mut-requires
slot_mut-requires g c = (◌∙◌ {A = TableId} c.self.invariant.0 (sym c.gate.view_is), has_slot (rw (← c.self.view_is) at c.requires.has).0 _ (rw (← c.self.view_is) at c.requires.has).1)

pub lists-queues-requires : goal.lists-queues-requires
lists-queues-requires g c = (omega arith, queues_fit g.row.C g.row.N g.met.C.Condition.has_room g.C.Condition)

pub bits-requires : goal.bits-requires
bits-requires g c = queues_fit g.row.C g.row.N g.met.C.Condition.has_room g.C.Condition

pub enter-requires : goal.enter-requires
enter-requires g c = let me = c.self.inside.seat.now.me in let has = rw (← c.self.view_is) at c.requires.has in
    let was = was_in_hand has.0 _ _ me.1 has.1 c.slot_mut.ensures.value c.lists-queues.ensures.value in
    (queues_fit g.row.C g.row.N g.met.C.Condition.has_room g.C.Condition, (c.requires.list, (c.self.invariant.2, ap (times c.self.inside.number) was ∙ (ap (λ n. times n has.0) c.self.invariant.1 ∙ has.2))))

pub returns : goal.returns
returns g c = let me = c.self.inside.seat.now.me in let wait = c.args.wait in
    rw (← c.self.view_is) record {
      worked = record { gate = refl; lent = refl; by = refl };
      lists = λ lists carries. now_in_hand lists c.enter.new.queues _ me.1 carries (c.enter.ensures ∙ (ap (waits_at wait.on c.self.inside.number wait.mode c.args.again) (was_in_hand lists _ _ me.1 carries c.slot_mut.ensures.value c.lists-queues.ensures.value) ∙ ap (λ n. waits_at wait.on n wait.mode c.args.again lists) c.self.invariant.1));
      bits = λ lists carries. c.bits.ensures ∙ ap (λ ls. bits_of ls.lock) (c.enter.ensures ∙ (ap (waits_at wait.on c.self.inside.number wait.mode c.args.again) (was_in_hand lists _ _ me.1 carries c.slot_mut.ensures.value c.lists-queues.ensures.value) ∙ ap (λ n. waits_at wait.on n wait.mode c.args.again lists) c.self.invariant.1));
    }

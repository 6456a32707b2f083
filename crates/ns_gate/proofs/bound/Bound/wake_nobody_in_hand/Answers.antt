use Rattle.std.proofs.Common.{Some, ap, arith, false, refl, sym, true, ◌∙◌, ◌≡◌}
use Rattle.ns_gate.proofs.Prelude.{Cv, TableId, bits_of, has_slot, has_some, now_in_hand, queues_fit, the, waiters_of, was_in_hand}
use Rattle.ns_gate.proofs.bound.Bound.wake_nobody_in_hand.Goals as goal

pub slot_mut-requires : goal.slot_mut-requires
slot_mut-requires g c = (◌∙◌ {A = TableId} c.self.invariant.0 (sym c.gate.view_is), has_slot _ _ (rw (← c.self.view_is) at c.requires.has))

pub lists-queues-requires : goal.lists-queues-requires
lists-queues-requires g c = (omega arith, queues_fit g.row.C g.row.N g.met.C.Condition.has_room g.C.Condition)

pub has_waiters-requires : goal.has_waiters-requires
has_waiters-requires g c = (queues_fit g.row.C g.row.N g.met.C.Condition.has_room g.C.Condition, c.requires.variable)

pub bits-requires : goal.bits-requires
bits-requires g c = queues_fit g.row.C g.row.N g.met.C.Condition.has_room g.C.Condition

pub returns-then-has_waiters : goal.returns-then-has_waiters
returns-then-has_waiters g c =
    let stood = (the c.self.inside.seat.now.me.0).stood in
    let was = was_in_hand _ _ _ c.self.inside.seat.now.me.1 (rw (← c.self.view_is) at c.requires.has) c.slot_mut.ensures.value c.lists-queues.ensures.value in
    let some : has_some (waiters_of stood (Cv c.args.k)) ≡ true = ap (λ lists. has_some (waiters_of lists (Cv c.args.k))) (sym was) ∙ (sym c.has_waiters.ensures ∙ c.if-has_waiters.true) in
    rw (← c.self.view_is) record {
      worked = record { gate = refl; lent = refl; by = refl };
      has = now_in_hand stood _ _ c.self.inside.seat.now.me.1 (rw (← c.self.view_is) at c.requires.has) was;
      nobody = rw some refl;
    }

pub returns : goal.returns
returns g c =
    let stood = (the c.self.inside.seat.now.me.0).stood in
    let was = was_in_hand _ _ _ c.self.inside.seat.now.me.1 (rw (← c.self.view_is) at c.requires.has) c.slot_mut.ensures.value c.lists-queues.ensures.value in
    let none : has_some (waiters_of stood (Cv c.args.k)) ≡ false = ap (λ lists. has_some (waiters_of lists (Cv c.args.k))) (sym was) ∙ (sym c.has_waiters.ensures ∙ c.if-has_waiters.false) in
    rw (← c.self.view_is) record {
      worked = record { gate = refl; lent = refl; by = refl };
      has = now_in_hand stood _ _ c.self.inside.seat.now.me.1 (rw (← c.self.view_is) at c.requires.has) was;
      nobody = rw none (ap (λ bits. Some (record { some = false; bits = bits })) (c.bits.ensures ∙ ap (λ lists. bits_of lists.lock) was));
    }

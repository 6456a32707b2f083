use Rattle.std.proofs.Common.{ap, arith, map, refl, sym, ◌∙◌}
use Rattle.ns_gate.proofs.Prelude.{TableId, Waiter, bits_of, has_slot, lists_scanned, meets_at, now_in_hand, queues_fit, seats_of, sought_at, tests_of, the, was_in_hand, woken_of}
use Rattle.ns_gate.proofs.bound.Bound.scan_from_in_hand.Goals as goal

pub slot_mut-requires : goal.slot_mut-requires
slot_mut-requires g c = (◌∙◌ {A = TableId} c.self.invariant.0 (sym c.gate.view_is), has_slot _ _ (rw (← c.self.view_is) at c.requires.has))

pub lists-queues-requires : goal.lists-queues-requires
lists-queues-requires g c = (omega arith, queues_fit g.row.C g.row.N g.met.C.Condition.has_room g.C.Condition)

pub scan_from-scan-requires : goal.scan_from-scan-requires
scan_from-scan-requires g c =
    let was = was_in_hand _ _ _ c.self.inside.seat.now.me.1 (rw (← c.self.view_is) at c.requires.has) c.slot_mut.ensures.value c.lists-queues.ensures.value in
    (queues_fit g.row.C g.row.N g.met.C.Condition.has_room g.C.Condition, (omega (arith, g.met.C.Condition.has_cells), (rw (← c.self.view_is) at c.requires.found) ∙ ap (sought_at g.C.Condition.means c.args.row.now) (sym was)))

pub bits-requires : goal.bits-requires
bits-requires g c = queues_fit g.row.C g.row.N g.met.C.Condition.has_room g.C.Condition

pub returns : goal.returns
returns g c =
    let t = g.C.Condition.means in
    let row = c.args.row.now in
    let was = was_in_hand _ _ _ c.self.inside.seat.now.me.1 (rw (← c.self.view_is) at c.requires.has) c.slot_mut.ensures.value c.lists-queues.ensures.value in
    let left = c.scan_from-scan.ensures.left ∙ ap (lists_scanned t row) was in
    rw (← c.self.view_is) record {
      worked = record { gate = refl; lent = refl; by = refl };
      woken = c.scan_from-scan.ensures.woken ∙ ap (λ lists. seats_of (woken_of (meets_at t row) lists.lock)) was;
      vias = c.scan_from-scan.ensures.vias ∙ ap (λ lists. map (λ (w : Waiter _). w.via) (woken_of (meets_at t row) lists.lock)) was;
      tests = c.scan_from-scan.ensures.tests ∙ ap (λ lists. tests_of t.same (meets_at t row) lists.lock) was;
      lists = now_in_hand (the c.self.inside.seat.now.me.0).stood c.scan_from-scan.new.self _ c.self.inside.seat.now.me.1 (rw (← c.self.view_is) at c.requires.has) left;
      bits = c.bits.ensures ∙ ap (λ lists. bits_of lists.lock) left;
    }

use Rattle.std.proofs.Common.{arith, sym, ◌<◌, ◌∙◌}
use Rattle.ns_queue.proofs.Ringed.{entry_read, found_stands, nobody_above, row_of}
use Rattle.ns_queue.proofs.Prelude.{entry_at}
use Rattle.ns_queue.proofs.ring.Ring.get.Goals as goal

pub returns-then-seat-ge64 : goal.returns-then-seat-ge64
returns-then-seat-ge64 g c = rw (← c.self.view_is) (record { waiter = nobody_above _ _ _ _ _ c.args.seat c.self.invariant c.if-seat-ge64.true; stands = tt; orderly = row_of _ _ _ _ _ c.self.invariant })

pub returns-clause-orderly : goal.returns-clause-orderly
returns-clause-orderly g c = rw (← c.self.view_is) (row_of _ _ _ _ _ c.self.invariant)

pub offset_bounds-held-seat : goal.offset_bounds-held-seat
offset_bounds-held-seat g c = let low : c.args.seat < 64 = omega (arith, c.if-seat-ge64.false) in entry_at c.args.seat _ low g.met.C.Queueable.parts_fit.entry

pub returns-clause-stands : goal.returns-clause-stands
returns-clause-stands g c =
    let read = entry_read _ _ _ _ _ c.args.seat _ c.self.invariant c.if-seat-ge64.false c.index-held-seat.is in
    rw (← c.self.view_is) (found_stands c.as_ref.result c.args.seat _ (c.as_ref.ensures.value ∙ sym c.index-held-seat.is ∙ sym read ∙ c.self.invariant.ring.held_by c.args.seat))

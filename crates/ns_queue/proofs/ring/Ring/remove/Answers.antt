use Rattle.std.proofs.Common.{arith, refl, ◌∙◌}
use Rattle.ns_queue.proofs.Ringed.{closes, counts_it, entry_read, links_low, not_empty, place_low, removed, view_of}
use Rattle.ns_queue.proofs.Prelude.{entry_at}
use Rattle.ns_queue.proofs.ring.Ring.remove.Goals as goal

pub listed : goal.listed
listed g c = let low = place_low _ _ _ _ _ c.args.seat c.self.invariant (rw (← c.self.view_is) at c.requires) in omega (arith, low)

pub bounds-self-inside-seat : goal.bounds-self-inside-seat
bounds-self-inside-seat g c = let low = place_low _ _ _ _ _ c.args.seat c.self.invariant (rw (← c.self.view_is) at c.requires) in omega (arith, low)

pub bounds-self-inside-seat-2 : goal.bounds-self-inside-seat-2
bounds-self-inside-seat-2 g c = let low = place_low _ _ _ _ _ c.args.seat c.self.invariant (rw (← c.self.view_is) at c.requires) in omega (arith, low)

pub bounds-self-inside-seat-3 : goal.bounds-self-inside-seat-3
bounds-self-inside-seat-3 g c = let low = place_low _ _ _ _ _ c.args.seat c.self.invariant (rw (← c.self.view_is) at c.requires) in omega (arith, low)

pub bounds-self-inside-seat-4 : goal.bounds-self-inside-seat-4
bounds-self-inside-seat-4 g c = let low = place_low _ _ _ _ _ c.args.seat c.self.invariant (rw (← c.self.view_is) at c.requires) in omega (arith, low)

pub listed-2 : goal.listed-2
listed-2 g c = let low = place_low _ _ _ _ _ c.args.seat c.self.invariant (rw (← c.self.view_is) at c.requires) in omega (arith, low)

pub offset_bounds-self-inside-seat-2 : goal.offset_bounds-self-inside-seat-2
offset_bounds-self-inside-seat-2 g c = entry_at c.args.seat _ (place_low _ _ _ _ _ c.args.seat c.self.invariant (rw (← c.self.view_is) at c.requires)) g.met.C.Queueable.parts_fit.entry

pub returns-in_default : goal.returns-in_default
returns-in_default g c = absurd (not_empty _ _ _ _ _ c.args.seat c.self.invariant (rw (← c.self.view_is) at c.requires)
    (entry_read _ _ _ _ _ c.args.seat _ c.self.invariant (place_low _ _ _ _ _ c.args.seat c.self.invariant (rw (← c.self.view_is) at c.requires)) c.index-self-seat.is
    ∙ c.index-self-seat.is ∙ c.in_default.is))

pub without_one-self-inside-requires : goal.without_one-self-inside-requires
without_one-self-inside-requires g c = counts_it _ _ _ _ _ c.args.seat c.in-Some.waiter c.self.invariant
    (entry_read _ _ _ _ _ c.args.seat _ c.self.invariant (place_low _ _ _ _ _ c.args.seat c.self.invariant (rw (← c.self.view_is) at c.requires)) c.index-self-seat.is
    ∙ c.index-self-seat.is ∙ c.in-Some.is)

pub join-requires-clause-before : goal.join-requires-clause-before
join-requires-clause-before g c = (links_low _ _ _ _ _ c.args.seat c.self.invariant (rw (← c.self.view_is) at c.requires)).0

pub join-requires-clause-behind : goal.join-requires-clause-behind
join-requires-clause-behind g c = (links_low _ _ _ _ _ c.args.seat c.self.invariant (rw (← c.self.view_is) at c.requires)).1

pub invariant_of-self : goal.invariant_of-self
invariant_of-self g c = closes _ _ _ _ _ (removed _ _ _ _ _ _ _ _ _ c.args.seat c.in-Some.waiter c.self.invariant (rw (← c.self.view_is) at c.requires)
    (entry_read _ _ _ _ _ c.args.seat _ c.self.invariant (place_low _ _ _ _ _ c.args.seat c.self.invariant (rw (← c.self.view_is) at c.requires)) c.index-self-seat.is
    ∙ c.index-self-seat.is ∙ c.in-Some.is) refl c.join.ensures.next c.join.ensures.prev c.without_one-self-inside.ensures)

pub returns : goal.returns
returns g c = rw (← c.self.view_is) (view_of _ _ _ _ _ (removed _ _ _ _ _ _ _ _ _ c.args.seat c.in-Some.waiter c.self.invariant (rw (← c.self.view_is) at c.requires)
    (entry_read _ _ _ _ _ c.args.seat _ c.self.invariant (place_low _ _ _ _ _ c.args.seat c.self.invariant (rw (← c.self.view_is) at c.requires)) c.index-self-seat.is
    ∙ c.index-self-seat.is ∙ c.in-Some.is) refl c.join.ensures.next c.join.ensures.prev c.without_one-self-inside.ensures))

pub offset_bounds-self-inside-seat : goal.offset_bounds-self-inside-seat
offset_bounds-self-inside-seat g c = entry_at c.args.seat _ (place_low _ _ _ _ _ c.args.seat c.self.invariant (rw (← c.self.view_is) at c.requires)) g.met.C.Queueable.parts_fit.entry

use Rattle.ns_queue.proofs.Prelude.{entry_at, entry_there, place_fits, refl, seat_place}
use Rattle.ns_queue.proofs.Ringed.{closes, front_low, has_room, pushed_front, view_of, are_counts}
use Rattle.ns_queue.proofs.ring.Ring.push_front.Goals as goal

pub link-requires-clause-behind : goal.link-requires-clause-behind
link-requires-clause-behind g c = front_low _ _ _ _ _ c.self.invariant

pub with_one-self-inside-requires-clause-room : goal.with_one-self-inside-requires-clause-room
with_one-self-inside-requires-clause-room g c = has_room _ _ _ _ _ c.args.waiter c.self.invariant c.requires.below (rw (← c.self.view_is) at c.requires.free)

pub offset_bounds-self-inside-waiter : goal.offset_bounds-self-inside-waiter
offset_bounds-self-inside-waiter g c = entry_at c.args.waiter.seat _ c.requires.below g.met.C.Queueable.parts_fit.entry

pub invariant_of-self : goal.invariant_of-self
invariant_of-self g c = closes _ _ _ _ _ (pushed_front _ _ _ _ _ _ _ _ _ c.args.waiter c.self.invariant c.requires.below (rw (← c.self.view_is) at c.requires.free) refl c.link.ensures.next c.link.ensures.prev c.with_one-self-inside.ensures)

pub returns : goal.returns
returns g c = rw (← c.self.view_is) (view_of _ _ _ _ _ (pushed_front _ _ _ _ _ _ _ _ _ c.args.waiter c.self.invariant c.requires.below (rw (← c.self.view_is) at c.requires.free) refl c.link.ensures.next c.link.ensures.prev c.with_one-self-inside.ensures))

pub link-requires-clause-seat : goal.link-requires-clause-seat
link-requires-clause-seat g c = seat_place c.args.waiter.seat c.requires.below

pub with_one-self-inside-requires-clause-kinds : goal.with_one-self-inside-requires-clause-kinds
with_one-self-inside-requires-clause-kinds g c = are_counts _ _ _ _ _ c.self.invariant

pub overflow_cast-waiter : goal.overflow_cast-waiter
overflow_cast-waiter g c = place_fits c.args.waiter.seat (seat_place c.args.waiter.seat c.requires.below)

pub listed : goal.listed
listed g c = entry_there c.args.waiter.seat _ c.requires.below c.self.invariant.ring.entries

pub bounds-self-inside-waiter : goal.bounds-self-inside-waiter
bounds-self-inside-waiter g c = c.requires.below

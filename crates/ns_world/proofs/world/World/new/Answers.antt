use Rattle.std.proofs.Common.{arith, refl, ℕ, ◌<◌, ◌^◌, ◌≤◌}
use Rattle.ns_world.proofs.Prelude.{err_from_is_err_and}
use Rattle.ns_world.proofs.Fresh.{no_flags, whole_new}
use Rattle.ns_world.proofs.world.World.new.Goals as goal

-- what fits a word is at most its greatest
at_most : {n : ℕ} → n < 2 ^ 32 → n ≤ 4294967295
at_most few = omega (arith, few)

pub invariant_of-result : goal.invariant_of-result
invariant_of-result g c = rw (c.in_ok-seats.ensures, c.new.ensures, c.new-2.ensures.items, c.new-3.ensures, no_flags, c.new-objects.ensures)
    (whole_new g.row.C.Denot g.row.N g.C.Condition.means c.args.seats
    c.args.counters.now c.args.onces (omega arith) c.requires.counters c.requires.onces (λ k. at_most (c.type_inv.counters k).fits))

pub returns : goal.returns
returns g c = record { made = (rw (c.in_ok-seats.ensures, c.new.ensures, c.new-2.ensures.items, c.new-3.ensures, no_flags, c.new-objects.ensures) refl, omega arith); lawful = invariant_of-result g c }

pub new-requires : goal.new-requires
new-requires g c = g.met.C.Queueable.parts_fit.queues

pub new_seats-requires : goal.new_seats-requires
new_seats-requires g c = g.met.C.Seated.seat_fits

pub new-objects-requires : goal.new-objects-requires
new-objects-requires g c = c.requires.counters

pub returns-in_err-seats : goal.returns-in_err-seats
returns-in_err-seats g c = record { lawful = let p = err_from_is_err_and c.from_residual.result c.from_residual.ensures.1 in rw p.1 tt; made = let p = err_from_is_err_and c.from_residual.result c.from_residual.ensures.1 in rw (p.1, p.2) (omega arith) }

pub overflow_cast-seats : goal.overflow_cast-seats
overflow_cast-seats g c = record { fits = omega arith }

pub overflow_cast-seats-2 : goal.overflow_cast-seats-2
overflow_cast-seats-2 g c = record { fits = omega arith }

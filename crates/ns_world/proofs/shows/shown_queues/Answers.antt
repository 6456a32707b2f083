use Rattle.std.proofs.Common.{Some, ap, arith, slice_get, suc, sym, ◌+◌, ◌∙◌, ◌≡◌}
use Rattle.ns_world.proofs.Prelude.{slice_get-get_or}
use Rattle.ns_world.proofs.Showing.{queues_here, queues_later, none_left}
use Rattle.ns_world.proofs.shows.shown_queues.Goals as goal

pub in_hand-requires : goal.in_hand-requires
in_hand-requires g c =
    let at : slice_get c.args.seats.now c.loop-seat.seat-index ≡ Some c.seat-item.result = slice_get-get_or c.args.seats.now c.loop-seat.seat-index c.seat-item.result c.loop-seat-test.true ∙ ap Some (sym c.seat-item.is) in
    (g.met.C.Queueable.parts_fit.queues, (omega arith, rw c.walk_of-walk.ensures (c.requires.lists c.loop-seat.seat-index c.seat-item.result at, (c.requires.below c.loop-seat.seat-index c.seat-item.result at, c.requires.free c.loop-seat.seat-index c.seat-item.result at))))

pub returns-then-has_queues : goal.returns-then-has_queues
returns-then-has_queues g c =
    let here = queues_here c.args.seats.now c.loop-seat.seat-index c.seat-item.result c.loop-seat-test.true c.seat-item.is g.C.Condition.means c.args.row.now c.args.queues.now (sym (rw c.walk_of-walk.ensures at c.has_queues.ensures) ∙ c.if-has_queues.true) in
    (rw c.walk_of-walk.ensures at c.in_hand.ensures) ∙ sym here ∙ c.loop-seat.invariant

pub loop-seat-preserved : goal.loop-seat-preserved
loop-seat-preserved g c =
    let later = queues_later c.args.seats.now c.loop-seat.seat-index c.seat-item.result c.loop-seat-test.true c.seat-item.is g.C.Condition.means c.args.row.now c.args.queues.now (sym (rw c.walk_of-walk.ensures at c.has_queues.ensures) ∙ c.if-has_queues.false) in
    let next : c.loop-seat.seat-index + 1 ≡ suc c.loop-seat.seat-index = omega arith in
    rw next (sym later ∙ c.loop-seat.invariant)

pub returns : goal.returns
returns g c =
    c.copied.ensures ∙ none_left c.args.seats.now c.loop-seat.seat-index c.loop-seat-test.false g.C.Condition.means c.args.row.now c.args.queues.now ∙ c.loop-seat.invariant

pub copied-requires : goal.copied-requires
copied-requires g c = g.met.C.Queueable.parts_fit.queues

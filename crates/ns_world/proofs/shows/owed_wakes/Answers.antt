use Rattle.std.proofs.Common.{ap, arith, length, length-append, sym, take, ◌+◌, ◌∙◌, ◌≡◌}
use Rattle.ns_world.proofs.Prelude.{length-map, take-length, wakes_owed}
use Rattle.ns_world.proofs.Showing.{wakes_more, wakes_front}
use Rattle.ns_world.proofs.shows.owed_wakes.Goals as goal

pub push_wakes-requires : goal.push_wakes-requires
push_wakes-requires g c =
    let seats = c.args.seats.now in
    let i = c.loop-seat.seat-index in
    let inv : c.loop-seat.all.items ≡ wakes_owed (take i seats) = c.loop-seat.invariant in
    let more = wakes_more seats i c.seat-item.result c.loop-seat-test.true c.seat-item.is in
    let long : length (wakes_owed (take (i + 1) seats)) ≡ length (wakes_owed (take i seats)) + length c.seat-item.result.owed.items =
    ap length more ∙ length-append _ _ ∙ ap (λ n. length (wakes_owed (take i seats)) + n) (length-map c.seat-item.result.owed.items _) in
    let front = wakes_front seats (i + 1) in
    rw (inv, c.as_slice.ensures.value) (omega (arith, long, front, c.requires))

pub loop-seat-preserved : goal.loop-seat-preserved
loop-seat-preserved g c =
    let seats = c.args.seats.now in
    let i = c.loop-seat.seat-index in
    let inv : c.loop-seat.all.items ≡ wakes_owed (take i seats) = c.loop-seat.invariant in
    rw (c.push_wakes.ensures, inv, c.as_slice.ensures.value) (sym (wakes_more seats i c.seat-item.result c.loop-seat-test.true c.seat-item.is))

pub returns : goal.returns
returns g c =
    let seats = c.args.seats.now in
    let past : c.loop-seat.seat-index ≡ length seats = omega arith in
    let inv : c.loop-seat.all.items ≡ wakes_owed (take c.loop-seat.seat-index seats) = c.loop-seat.invariant in
    rw (past, take-length seats) at inv

use Rattle.std.proofs.Common.{ap, falls, length, map, take_all, ◌∙◌}
use Rattle.ns_queue.proofs.Prelude.{bytes_136, room_at, seated, via_in}
use Rattle.ns_queue.proofs.Vias.{mapped_count, mapped_on}
use Rattle.ns_queue.proofs.gather.vias_of.Goals as goal

pub new-vias-requires : goal.new-vias-requires
new-vias-requires g c = bytes_136

pub loop-seat-init : goal.loop-seat-init
loop-seat-init g c = c.new-vias.ensures

pub bounds-seats-seat-index : goal.bounds-seats-seat-index
bounds-seats-seat-index g c = c.loop-seat-test.true

pub push-requires : goal.push-requires
push-requires g c = (bytes_136, room_at _ _ _ (mapped_count (λ seat. via_in (seated seat c.args.ring.now)) c.args.seats.now c.loop-seat.seat-index c.loop-seat.vias.items c.loop-seat-test.true c.loop-seat.invariant) c.loop-seat-test.true c.requires)

pub loop-seat-smaller : goal.loop-seat-smaller
loop-seat-smaller g c = falls (length c.args.seats.now) c.loop-seat.seat-index c.loop-seat-test.true

pub loop-seat-preserved : goal.loop-seat-preserved
loop-seat-preserved g c = mapped_on (λ seat. via_in (seated seat c.args.ring.now)) c.args.seats.now c.loop-seat.seat-index c.loop-seat.vias.items c.push.new.self.items 0 c.via_at.result c.loop-seat-test.true c.via_at.ensures c.push.ensures.items c.loop-seat.invariant

pub returns : goal.returns
returns g c = c.loop-seat.invariant ∙ ap (map (λ seat. via_in (seated seat c.args.ring.now))) (take_all c.loop-seat.seat-index c.args.seats.now c.loop-seat-test.false)

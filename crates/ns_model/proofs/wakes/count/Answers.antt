use Rattle.ns_model.proofs.Prelude.{is_counted, standing_after, sym}
use Rattle.ns_model.proofs.Counts.{count_none, count_told, count_yes, count_no, count_fits, count_whole}
use Rattle.ns_model.proofs.wakes.count.Goals as goal
use Rattle.ns_model.proofs.wakes.count.Goals.{then-is_counted, else-is_counted}

pub loop-seat-init : goal.loop-seat-init
loop-seat-init g c = sym (count_none _)

pub overflow_add-count : goal.overflow_add-count
overflow_add-count g c = count_fits _ c.loop-seat.seat c.loop-seat.count c.loop-seat-test.true c.loop-seat.invariant

pub loop-seat-preserved : goal.loop-seat-preserved
loop-seat-preserved g c =
    let told = count_told (is_counted c.args.who c.args.k c.args.woken) (standing_after c.args.past.now).phases c.loop-seat.seat c.phase_of-phase.result c.is_counted.result c.is_counted.ensures c.phase_of-phase.ensures in
    elim c.if-is_counted.branch [
      | then-is_counted w ↦ rw w.count-is (count_yes _ c.loop-seat.seat c.loop-seat.count c.is_counted.result told w.if-is_counted.true c.loop-seat.invariant)
      | else-is_counted w ↦ rw w.count-is (count_no _ c.loop-seat.seat c.loop-seat.count c.is_counted.result told w.if-is_counted.false c.loop-seat.invariant)
    ]

pub returns : goal.returns
returns g c = count_whole _ c.loop-seat.seat c.loop-seat.count c.loop-seat-test.false c.loop-seat.auto.seat-end c.loop-seat.invariant

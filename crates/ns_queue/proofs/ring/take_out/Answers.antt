use Rattle.std.proofs.Common.{arith, slice_index, sym, ◌-◌}
use Rattle.ns_queue.proofs.Prelude.{last_in, less_within, one_down, times_in, told_no, told_yes}
use Rattle.ns_queue.proofs.Leaving.{all_on}
use Rattle.ns_queue.proofs.Seats.{none_without}
use Rattle.ns_queue.proofs.ring.take_out.Goals as goal

pub loop-left-preserved : goal.loop-left-preserved
loop-left-preserved g c =
    let seat = slice_index c.args.seats.now (c.loop-left.left - 1) in
    let none = told_no c.holds.result (times_in seat c.loop-left.ring) c.if-holds.false c.holds.ensures.stands.1 in
    record {
      out = all_on c.args.seats.now c.loop-left.left c.loop-left.ring c.loop-left.ring c.args.ring.now c.loop-left-test.true c.loop-left.invariant.within (sym (none_without seat c.loop-left.ring none)) c.loop-left.invariant.out;
      within = omega (arith, c.loop-left.invariant.within);
    }

pub remove-requires : goal.remove-requires
remove-requires g c = (g.met.C.Queueable.parts_fit.ring, told_yes c.holds.result _ c.if-holds.true c.holds.ensures.stands.0)

pub overflow_sub-left : goal.overflow_sub-left
overflow_sub-left g c = c.loop-left-test.true

pub bounds-seats-left : goal.bounds-seats-left
bounds-seats-left g c = last_in c.loop-left.left _ c.loop-left-test.true c.loop-left.invariant.within

pub bounds-seats-left-then-holds : goal.bounds-seats-left-then-holds
bounds-seats-left-then-holds g c = last_in c.loop-left.left _ c.loop-left-test.true c.loop-left.invariant.within

pub loop-left-smaller : goal.loop-left-smaller
loop-left-smaller g c = one_down c.loop-left.left c.loop-left-test.true

pub loop-left-smaller-then-holds : goal.loop-left-smaller-then-holds
loop-left-smaller-then-holds g c = one_down c.loop-left.left c.loop-left-test.true

pub loop-left-preserved-then-holds : goal.loop-left-preserved-then-holds
loop-left-preserved-then-holds g c = record {
  out = all_on c.args.seats.now c.loop-left.left c.loop-left.ring c.remove.new.self c.args.ring.now c.loop-left-test.true c.loop-left.invariant.within c.remove.ensures c.loop-left.invariant.out;
  within = less_within c.loop-left.left _ c.loop-left.invariant.within;
}

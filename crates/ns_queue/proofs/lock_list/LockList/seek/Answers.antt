use Rattle.ns_queue.proofs.Prelude.{false, has_condition, option_copied, sym, true}
use Rattle.ns_queue.proofs.Bases.{answered, counted, seated_stands}
use Rattle.ns_queue.proofs.Running.{next_run, sought_few, sought_here, sought_none, sought_on, sought_smaller, sought_start, tests_fit}
use Rattle.ns_queue.proofs.Making.{start_link}
use Rattle.ns_queue.proofs.lock_list.LockList.seek.Goals as goal

pub loop-waiter-init : goal.loop-waiter-init
loop-waiter-init g c =
    let meets = λ (d : g.row.C.Denot). g.C.Condition.means.holds d c.args.row.now in
    sought_start g.C.Condition.means.same meets (λ d e is. g.met.C.Condition.same_agrees d e c.args.row.now c.told-row is) _ _ c.front-seat.result c.self.inside.ring c.front-seat.ensures.place c.self.invariant.on

pub overflow_add-tests : goal.overflow_add-tests
overflow_add-tests g c =
    let meets = λ (d : g.row.C.Denot). g.C.Condition.means.holds d c.args.row.now in
    let w = c.in-Some.waiter.now in
    let low = sought_few g.C.Condition.means.same meets (λ d e is. g.met.C.Condition.same_agrees d e c.args.row.now c.told-row is) _ _ c.loop-waiter.seat c.loop-waiter.tests c.self.inside.ring w c.front-seat.ensures.orderly (sym c.in-Some.ensures.waiter) c.loop-waiter.invariant in
    tests_fit c.loop-waiter.tests c.tests_for-tests.result (has_condition w) low (counted g.C.Condition.means.same meets w.cond (option_copied c.as_ref-cond.result) c.tests_for-tests.result c.as_ref-cond.ensures.value c.tests_for-tests.ensures)

pub returns-then-is_met : goal.returns-then-is_met
returns-then-is_met g c =
    let meets = λ (d : g.row.C.Denot). g.C.Condition.means.holds d c.args.row.now in
    let same = g.C.Condition.means.same in
    let w = c.in-Some.waiter.now in
    let met = answered same meets w.cond (option_copied c.as_ref-cond.result) c.is_met.result true c.as_ref-cond.ensures.value c.is_met.ensures c.if-is_met.true in
    rw (← c.self.view_is) (sought_here same meets (λ d e is. g.met.C.Condition.same_agrees d e c.args.row.now c.told-row is) _ _ c.loop-waiter.seat c.loop-waiter.tests c.tests_for-tests.result c.self.inside.ring w
    (sym c.in-Some.ensures.waiter) met (counted g.C.Condition.means.same meets w.cond
    (option_copied c.as_ref-cond.result) c.tests_for-tests.result c.as_ref-cond.ensures.value c.tests_for-tests.ensures) c.loop-waiter.invariant)

pub beyond-seat-requires : goal.beyond-seat-requires
beyond-seat-requires g c =
    (g.met.C.Queueable.parts_fit.ring, (c.front-seat.ensures.orderly, (seated_stands c.loop-waiter.seat c.self.inside.ring c.in-Some.waiter.now (sym c.in-Some.ensures.waiter), c.loop-waiter.invariant.runs)))

pub loop-waiter-smaller : goal.loop-waiter-smaller
loop-waiter-smaller g c =
    let meets = λ (d : g.row.C.Denot). g.C.Condition.means.holds d c.args.row.now in
    let r = next_run g.C.Condition.means.same c.self.inside.heads c.self.inside.lasts c.loop-waiter.seat c.self.inside.ring c.in-Some.waiter.now c.front-seat.ensures.orderly (sym c.in-Some.ensures.waiter) c.loop-waiter.invariant.runs in
    sought_smaller g.C.Condition.means.same c.self.inside.lasts c.loop-waiter.seat c.beyond-seat.result c.self.inside.ring c.in-Some.waiter.now r c.beyond-seat.ensures

pub loop-waiter-preserved : goal.loop-waiter-preserved
loop-waiter-preserved g c =
    let meets = λ (d : g.row.C.Denot). g.C.Condition.means.holds d c.args.row.now in
    let same = g.C.Condition.means.same in
    let w = c.in-Some.waiter.now in
    let unmet = answered same meets w.cond (option_copied c.as_ref-cond.result) c.is_met.result false c.as_ref-cond.ensures.value c.is_met.ensures c.if-is_met.false in
    let r = next_run same c.self.inside.heads c.self.inside.lasts c.loop-waiter.seat c.self.inside.ring w c.front-seat.ensures.orderly (sym c.in-Some.ensures.waiter) c.loop-waiter.invariant.runs in
    sought_on same meets (λ d e is. g.met.C.Condition.same_agrees d e c.args.row.now c.told-row is) c.self.inside.heads c.self.inside.lasts c.loop-waiter.seat c.loop-waiter.tests c.tests_for-tests.result c.beyond-seat.result c.self.inside.ring w
    (start_link same c.self.inside.heads c.self.inside.lasts c.self.inside.ring c.self.invariant.on) r unmet (counted same meets w.cond (option_copied c.as_ref-cond.result) c.tests_for-tests.result c.as_ref-cond.ensures.value c.tests_for-tests.ensures) c.beyond-seat.ensures c.loop-waiter.invariant

pub returns : goal.returns
returns g c =
    let meets = λ (d : g.row.C.Denot). g.C.Condition.means.holds d c.args.row.now in
    rw (← c.self.view_is) (sought_none g.C.Condition.means.same meets (λ d e is. g.met.C.Condition.same_agrees d e c.args.row.now c.told-row is) _ _ c.loop-waiter.seat c.loop-waiter.tests c.self.inside.ring (sym c.in_default.ensures.waiter) c.loop-waiter.invariant)

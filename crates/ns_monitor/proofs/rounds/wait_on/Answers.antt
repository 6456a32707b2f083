use Rattle.std.proofs.Common.{IfSome, None, Some, ap, arith, false, subst, sym, true, ◌∙◌, ◌≡◌}
use Rattle.ns_monitor.proofs.Prelude.{HasMadeSteps, Answered, Await, Cause, HasAnswered, HasReached, IfEnded, IsFreshIn, OnReturn, QueuesOrEnds, in_room, is_limited, row_in, the, unmet_by}
use Rattle.ns_monitor.proofs.Bounds.{gone_itself, gone_then}
use Rattle.ns_monitor.proofs.Returns.{back_to_test, comes_fresh, ended_as, has_row, in_range, tested_so}
use Rattle.ns_monitor.proofs.rounds.wait_on.Given.{Over}
use Rattle.ns_monitor.proofs.rounds.wait_on.Goals.{After-look_before, After-test}
use Rattle.ns_monitor.proofs.rounds.wait_on.Goals as goal

pub loop-init : goal.loop-init
loop-init g c = (tt, tt, gone_itself c.args.seat.now, g.W.Watch.same c.args.watch.now, c.requires.at, c.requires.row)

pub queue_to_wait-requires : goal.queue_to_wait-requires
queue_to_wait-requires g c = let inv = c.loop.invariant in
    let range = in_range c.args.wait.on c.in-OnCondition.condition c.in-OnCondition.is in
    in_room (omega (arith, g.met.C.Condition.has_cells), (range, (inv.4, has_row c.args.wait.on c.in-OnCondition.condition c.loop.row _ c.in-OnCondition.is inv.5)))

pub come_back-outcome-requires : goal.come_back-outcome-requires
come_back-outcome-requires g c = let inv = c.loop.invariant in let me = c.queue_to_wait.new.seat.me in
    in_room (in_range c.args.wait.on c.in-OnCondition.condition c.in-OnCondition.is, (g.W.Watch.still c.args.watch.now c.loop.watch c.args.wait.limits inv.3 c.requires.watches, c.queue_to_wait.ensures.so.waits))

pub test-requires : goal.test-requires
test-requires g c =
    let back = back_to_test g.C.Condition.means c.args.wait c.in-OnCondition.condition c.come_back-outcome.result c.come_back-outcome.new.seat.me c.in-OnCondition.is c.come_back-outcome.ensures.acquired.so in
    in_room (omega (arith, g.met.C.Condition.has_cells), (c.in-OnCondition.is, back))

-- it has acquired the lock again and has tested its condition
since_test : (g : Over) (c : After-test g) → HasMadeSteps None c.args.seat.now c.test.new.seat
since_test g c = gone_then None _ _ _ (gone_then None _ _ _ (gone_then None _ _ _ c.loop.invariant.2 c.queue_to_wait.ensures.since) c.come_back-outcome.ensures.acquired.since) c.test.ensures.since

watched : (g : Over) (c : After-test g) → g.W.Watch.since c.args.watch.now c.come_back-outcome.new.watch
watched g c = g.W.Watch.then c.args.watch.now c.loop.watch c.come_back-outcome.new.watch c.loop.invariant.3 c.come_back-outcome.ensures.looked

fresh : (g : Over) (c : After-test g) → IsFreshIn g.row.N c.args.wait.mode (the c.test.new.seat.me.0).at.held
fresh g c = subst (IsFreshIn g.row.N c.args.wait.mode) (sym c.test.ensures.so.held)
    (comes_fresh g.C.Condition.means c.args.wait c.come_back-outcome.result c.come_back-outcome.new.seat.me
    (back_to_test g.C.Condition.means c.args.wait c.in-OnCondition.condition c.come_back-outcome.result c.come_back-outcome.new.seat.me c.in-OnCondition.is c.come_back-outcome.ensures.acquired.so))

-- it was false
unmet : (g : Over) (c : After-test g) → c.test.result ≡ false → HasReached g.C.Condition.means (Await c.args.wait) (unmet_by c.args.wait (OnReturn c.come_back-outcome.result)) c.test.new.seat.me
unmet g c false_now = tested_so g.C.Condition.means c.args.wait (OnReturn c.come_back-outcome.result) c.in-OnCondition.condition c.test.result false c.test.new.row c.come_back-outcome.new.seat.me c.test.new.seat.me false_now c.test.ensures.so

pub returns-then-test : goal.returns-then-test
returns-then-test g c = record {
  looked = watched g (goal.at.returns-then-test g c).After-test;
  ended = tt;
  answered = record { since = since_test g (goal.at.returns-then-test g c).After-test; so = tested_so g.C.Condition.means c.args.wait (OnReturn c.come_back-outcome.result) c.in-OnCondition.condition c.test.result true c.test.new.row c.come_back-outcome.new.seat.me c.test.new.seat.me c.if-test.true c.test.ensures.so };
  fresh = fresh g (goal.at.returns-then-test g c).After-test;
}

pub returns-in-Ended : goal.returns-in-Ended
returns-in-Ended g c = record {
  looked = watched g (goal.at.returns-in-Ended g c).After-test;
  ended = ended_as (λ cause. (is_limited c.args.wait.limits ≡ true) × g.W.Watch.shows c.args.watch.now c.come_back-outcome.new.watch c.args.wait.limits (Some cause)) c.in-Ended.cause c.answer_of.result c.answer_of.ensures
      (let shown = subst (λ o. IfEnded o (λ cause. (is_limited c.args.wait.limits ≡ true) × g.W.Watch.shows c.loop.watch c.come_back-outcome.new.watch c.args.wait.limits (Some cause))) c.in-Ended.is c.come_back-outcome.ensures.ended in
      (shown.0, g.W.Watch.later c.args.watch.now c.loop.watch c.come_back-outcome.new.watch c.args.wait.limits (Some c.in-Ended.cause) c.loop.invariant.3 shown.1));
  answered = record {
    since = since_test g (goal.at.returns-in-Ended g c).After-test;
    so = subst (λ a. HasAnswered g.C.Condition.means (Await c.args.wait) (Answered a) c.test.new.seat.me) (sym c.answer_of.ensures)
        (subst (λ o. HasReached g.C.Condition.means (Await c.args.wait) (unmet_by c.args.wait (OnReturn o)) c.test.new.seat.me) c.in-Ended.is
        (unmet g (goal.at.returns-in-Ended g c).After-test c.if-test.false));
  };
  fresh = fresh g (goal.at.returns-in-Ended g c).After-test;
}

pub look_before-requires : goal.look_before-requires
look_before-requires g c = let t = g.C.Condition.means in let me = c.test.new.seat.me in let after = (goal.at.look_before-requires g c).After-test in
    let by = subst (λ o. HasReached t (Await c.args.wait) (unmet_by c.args.wait (OnReturn o)) me) c.in_default-outcome.is (unmet g after c.if-test.false) in
    let watches = g.W.Watch.still c.args.watch.now c.come_back-outcome.new.watch c.args.wait.limits (watched g after) c.requires.watches in
    in_room (watches, by)

-- it has looked, and goes on
since_look : (g : Over) (c : After-look_before g) → HasMadeSteps None c.args.seat.now c.look_before.new.seat
since_look g c = gone_then None _ _ _ (gone_then None _ _ _ (gone_then None _ _ _ (gone_then None _ _ _ c.loop.invariant.2 c.queue_to_wait.ensures.since) c.come_back-outcome.ensures.acquired.since) c.test.ensures.since) c.look_before.ensures.leads.since

looked_on : (g : Over) (c : After-look_before g) → g.W.Watch.since c.args.watch.now c.look_before.new.watch
looked_on g c = g.W.Watch.then c.args.watch.now c.come_back-outcome.new.watch c.look_before.new.watch (g.W.Watch.then c.args.watch.now c.loop.watch c.come_back-outcome.new.watch c.loop.invariant.3 c.come_back-outcome.ensures.looked) c.look_before.ensures.looked

pub returns-in-Some-look_before : goal.returns-in-Some-look_before
returns-in-Some-look_before g c = record {
  looked = looked_on g (goal.at.returns-in-Some-look_before g c).After-look_before;
  ended = let limits = c.args.wait.limits in let mid = c.come_back-outcome.new.watch in let new = c.look_before.new.watch in let cause = c.in-Some-look_before.cause in
      let limited = subst (λ o. IfSome o (λ (x : Cause). is_limited limits ≡ true)) c.in-Some-look_before.is c.look_before.ensures.ends in
      ended_as (λ x. (is_limited limits ≡ true) × g.W.Watch.shows c.args.watch.now new limits (Some x)) cause c.answer_of-in-Some-look_before.result c.answer_of-in-Some-look_before.ensures
      (limited, g.W.Watch.later c.args.watch.now mid new limits (Some cause) (g.W.Watch.then c.args.watch.now c.loop.watch mid c.loop.invariant.3 c.come_back-outcome.ensures.looked) (subst (g.W.Watch.shows mid new limits) c.in-Some-look_before.is (c.look_before.ensures.shown limited)));
  answered = record {
    since = since_look g (goal.at.returns-in-Some-look_before g c).After-look_before;
    so = subst (λ a. HasAnswered g.C.Condition.means (Await c.args.wait) (Answered a) c.look_before.new.seat.me) (sym c.answer_of-in-Some-look_before.ensures)
        (subst (λ o. QueuesOrEnds g.C.Condition.means c.args.wait true o c.test.new.seat.me c.look_before.new.seat.me) c.in-Some-look_before.is c.look_before.ensures.leads.so).0;
  };
  fresh = c.look_before.ensures.fresh (fresh g (goal.at.returns-in-Some-look_before g c).After-test);
}

pub loop-preserved : goal.loop-preserved
loop-preserved g c = let after = (goal.at.loop-preserved g c).After-look_before in let led = subst (λ o. QueuesOrEnds g.C.Condition.means c.args.wait true o c.test.new.seat.me c.look_before.new.seat.me) c.in_default-look_before.is c.look_before.ensures.leads.so in (
  tt,
  tt,
  since_look g after,
  looked_on g after,
  led.0,
  c.test.ensures.so.row_is ∙ ap row_in (sym (led.1 ∙ c.test.ensures.so.held)),
)

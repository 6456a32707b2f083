use Rattle.std.proofs.Common.{None, Some, ap, arith, false, subst, sym, true, ◌∙◌, ◌≡◌}
use Rattle.ns_monitor.proofs.Prelude.{Answered, Await, Bounded, Grows, HasAnswered, HasMadeSteps, HasSince, IsAtRest, IsNumberOf, Known, Met, OnEntry, QueuesOrEnds, SeatOf, TableId, is_limited, known_of, rules, since_then, the, wait_first, waits_by}
use Rattle.ns_monitor.proofs.Bounds.{gone_then}
use Rattle.ns_monitor.proofs.Callers.{grew}
use Rattle.ns_monitor.proofs.Returns.{ended_since, tested_so}
use Rattle.ns_monitor.proofs.monitor.Monitor.wait_by.Given.{Over}
use Rattle.ns_monitor.proofs.monitor.Monitor.wait_by.Goals.{After-test, After-look_before}
use Rattle.ns_monitor.proofs.monitor.Monitor.wait_by.Goals as goal

-- the call that it began
began : (g : Over) (c : After-test g) → HasMadeSteps (Some (wait_first g.row.N (waits_by c.mode-mode.result c.args.condition c.args.limits))) c.new-bound.result c.test.new.seat
began g c = subst (λ w. HasMadeSteps (Some w) c.new-bound.result c.test.new.seat) c.wait.ensures.first c.test.ensures.since

-- it is over: what its caller sees
grown : (g : Over) (c : After-test g) (new : Bounded g.row.C.Denot g.row.N) → IsAtRest g.C.Condition.means new.me → HasMadeSteps (Some (wait_first g.row.N (waits_by c.mode-mode.result c.args.condition c.args.limits))) c.new-bound.result new
    → Grows g.C.Condition.means (wait_first g.row.N (waits_by g.H.Section.mode c.args.condition c.args.limits)) c.args.held (known_of new.gate new.me)
grown g c new rest gone = let t = g.C.Condition.means in let s0 = c.held.inside.seat in let s = rw c.new-bound.ensures at gone in
    subst (λ m. Grows t (wait_first g.row.N (waits_by m c.args.condition c.args.limits)) c.args.held (known_of new.gate new.me)) c.mode-mode.ensures
    (grew t (wait_first g.row.N (waits_by c.mode-mode.result c.args.condition c.args.limits)) c.args.held s0.table_id new.gate s0.me new.me c.held.view_is (◌∙◌ {A = TableId} s.gate (ap (λ (k : Known _ _). k.monitor) c.held.view_is)) rest s.by)

-- the condition is true
met : (g : Over) (c : After-test g) → c.test.result ≡ true → HasAnswered g.C.Condition.means (Await (waits_by c.mode-mode.result c.args.condition c.args.limits)) (Answered Met) c.test.new.seat.me
met g c is = tested_so g.C.Condition.means (waits_by c.mode-mode.result c.args.condition c.args.limits) OnEntry c.args.condition c.test.result true c.test.new.row c.new-bound.result.me c.test.new.seat.me is c.test.ensures.so

pub returns-then-test-clause-grows : goal.returns-then-test-clause-grows
returns-then-test-clause-grows g c = let after = (goal.at.returns-then-test-clause-grows g c).After-test in
    subst (λ (k : Known g.row.C.Denot g.row.N). Grows g.C.Condition.means (wait_first g.row.N (waits_by g.H.Section.mode c.args.condition c.args.limits)) c.args.held k) (search rules)
    (grown g after c.test.new.seat (met g after c.if-test.true).rest (began g after))

-- it has looked
looked : (g : Over) (c : After-look_before g) (test : After-test g) → HasMadeSteps (Some (wait_first g.row.N (waits_by c.mode-mode.result c.args.condition c.args.limits))) c.new-bound.result c.look_before.new.seat
looked g c test = gone_then (Some (wait_first g.row.N (waits_by c.mode-mode.result c.args.condition c.args.limits))) _ _ _ (subst (λ w. HasMadeSteps (Some w) c.new-bound.result c.test.new.seat) c.wait.ensures.first c.test.ensures.since) c.look_before.ensures.leads.since

pub returns-in-Some-clause-grows : goal.returns-in-Some-clause-grows
returns-in-Some-clause-grows g c = let at = goal.at.returns-in-Some-clause-grows g c in let wait = waits_by c.mode-mode.result c.args.condition c.args.limits in
    let led = subst (λ o. QueuesOrEnds g.C.Condition.means wait false o c.test.new.seat.me c.look_before.new.seat.me) c.in-Some.is c.look_before.ensures.leads.so in
    subst (λ (k : Known g.row.C.Denot g.row.N). Grows g.C.Condition.means (wait_first g.row.N (waits_by g.H.Section.mode c.args.condition c.args.limits)) c.args.held k) (search rules)
    (grown g at.After-test c.look_before.new.seat led.0.rest (looked g at.After-look_before at.After-test))

-- the number is the seat's still
numbered : (g : Over) (c : After-look_before g) (test : After-test g) → IsNumberOf c.held.inside.number c.look_before.new.seat.me
numbered g c test = let s = (looked g c test).by in (c.held.invariant.1.0 ∙ (ap (λ (b : Bounded g.row.C.Denot g.row.N). (the b.me.0).at.seat) (sym c.new-bound.ensures) ∙ sym s.seat), c.held.invariant.1.1)

pub wait_slow-answer-requires : goal.wait_slow-answer-requires
wait_slow-answer-requires g c = let at = goal.at.wait_slow-answer-requires g c in
    (omega arith, (omega arith, (omega arith, (search rules, (search rules, (subst (IsNumberOf c.held.inside.number) (sym c.end-2.ensures.me) (numbered g at.After-look_before at.After-test), search rules))))))

pub returns-clause-grows : goal.returns-clause-grows
returns-clause-grows g c = let at = goal.at.returns-clause-grows g c in let t = g.C.Condition.means in let s0 = c.held.inside.seat in let slow = c.wait_slow-answer in
    let first = wait_first g.row.N (waits_by c.mode-mode.result c.args.condition c.args.limits) in
    let before = rw c.new-bound.ensures at (looked g at.After-look_before at.After-test) in
    let behind = subst (λ (me : SeatOf g.row.C.Denot g.row.N). HasSince None (the me.0) (the slow.new.seat.me.0)) c.end-2.ensures.me slow.ensures.since in
    rw c.holding.ensures (subst (λ (k : Known g.row.C.Denot g.row.N). Grows t (wait_first g.row.N (waits_by g.H.Section.mode c.args.condition c.args.limits)) c.args.held k) (search rules)
    (subst (λ m. Grows t (wait_first g.row.N (waits_by m c.args.condition c.args.limits)) c.args.held (known_of slow.new.seat.table_id slow.new.seat.me)) c.mode-mode.ensures
    (grew t first c.args.held s0.table_id slow.new.seat.table_id s0.me slow.new.seat.me c.held.view_is (slow.ensures.seat ∙ sym c.requires.of) slow.ensures.answered.rest (since_then (Some first) _ _ _ before.by behind))))

pub returns-clause-ended : goal.returns-clause-ended
returns-clause-ended g c = let slow = c.wait_slow-answer in
    ended_since (λ cause. (is_limited c.args.limits ≡ true) × g.W.Watch.shows c.look_before.new.watch slow.new.watch c.args.limits (Some cause)) (λ cause. g.W.Watch.shows c.args.watch.now slow.new.watch c.args.limits (Some cause)) slow.result
    (λ cause shown. g.W.Watch.later c.args.watch.now c.look_before.new.watch slow.new.watch c.args.limits (Some cause) c.look_before.ensures.looked shown.1) slow.ensures.ended

use Rattle.std.proofs.Common.{◌≡◌, None, ap, false, refl, rules, subst, true}
use Rattle.ns_monitor.proofs.Prelude.{HasMadeSteps, Await, AwaitWakeToLeave, Changed, HasReached, InLeaving, InWait, IsAtPlace, Leave, LeaveSelf, found_back, got_of, in_room, works}
use Rattle.ns_monitor.proofs.Bounds.{gone_then, gone_working}
use Rattle.ns_monitor.proofs.Standing.{hand_by}
use Rattle.ns_monitor.proofs.Waits.{left_next, taken_ended, taken_next}
use Rattle.ns_monitor.proofs.waiting.leave.Given.{Over}
use Rattle.ns_monitor.proofs.waiting.leave.Goals.{After-put_back}
use Rattle.ns_monitor.proofs.waiting.leave.Goals as goal

pub leave_in_hand-stood-requires : goal.leave_in_hand-stood-requires
leave_in_hand-stood-requires g c = in_room c.take-word.ensures.so.taken

pub put_back-requires : goal.put_back-requires
put_back-requires g c = let t = g.C.Condition.means in let took = c.take-word in let left = c.leave_in_hand-stood in let me1 = took.new.seat.me in let e = left.ensures in
    let hand = hand_by t (LeaveSelf c.home-home.result) left.result.1 me1 left.new.self.me e.worked.by (λ last. refl) e.lists e.bits in
    let stands = works t (InWait c.args.wait (InLeaving c.args.cause (Leave took.result))) me1 left.new.self.me took.ensures.so.at refl e.worked.by in
    in_room (took.ensures.so.packs, (record { walk = InWait c.args.wait (InLeaving c.args.cause (Leave took.result)); puts = tt; is = ap (λ w. Changed (LeaveSelf w)) c.home-home.ensures; at = stands }, hand))

-- the queues are back
back : (g : Over) (c : After-put_back g) → HasReached g.C.Condition.means (Await c.args.wait) (got_of g.row.N (InWait c.args.wait (InLeaving c.args.cause (Leave c.take-word.result))) (found_back g.C.Condition.means (Changed (LeaveSelf c.home-home.result)) c.take-word.result c.leave_in_hand-stood.new.self.me)) c.put_back.new.seat.me
back g c = let walk = InWait c.args.wait (InLeaving c.args.cause (Leave c.take-word.result)) in
    c.put_back.ensures.so.returned walk tt (ap (λ w. Changed (LeaveSelf w)) c.home-home.ensures) (works g.C.Condition.means walk c.take-word.new.seat.me c.leave_in_hand-stood.new.self.me c.take-word.ensures.so.at refl c.leave_in_hand-stood.ensures.worked.by)

-- it came so far, and stands where its list tells
since_back : (g : Over) (c : After-put_back g) → HasMadeSteps None c.args.seat.now c.put_back.new.seat
since_back g c = gone_then None _ _ _ (gone_working None _ _ _ c.take-word.ensures.since c.leave_in_hand-stood.ensures.worked) c.put_back.ensures.since

pub returns-then-stood : goal.returns-then-stood
returns-then-stood g c = record {
  ended = search rules;
  left = record {
    since = since_back g (goal.at.returns-then-stood g c).After-put_back;
    so = let t = g.C.Condition.means in let took = c.take-word in let left = c.leave_in_hand-stood in
        subst (λ next. HasReached t (Await c.args.wait) next c.put_back.new.seat.me)
        (left_next t c.args.wait c.args.cause took.result c.home-home.result left.result.0 true took.new.seat.me left.new.self.me c.home-home.ensures
        left.ensures.worked.by left.ensures.stood c.if-stood.true) (back g (goal.at.returns-then-stood g c).After-put_back);
  };
}

-- it was taken from its list before, and waits
slept : (g : Over) (c : After-put_back g) → c.leave_in_hand-stood.result.0 ≡ false → IsAtPlace g.C.Condition.means (InWait c.args.wait (InLeaving c.args.cause AwaitWakeToLeave)) c.put_back.new.seat.me
slept g c out = let t = g.C.Condition.means in let took = c.take-word in let left = c.leave_in_hand-stood in
    subst (λ next. HasReached t (Await c.args.wait) next c.put_back.new.seat.me)
    (left_next t c.args.wait c.args.cause took.result c.home-home.result left.result.0 false took.new.seat.me left.new.self.me c.home-home.ensures
    left.ensures.worked.by left.ensures.stood out) (back g c)

pub await_flag-flag-requires : goal.await_flag-flag-requires
await_flag-flag-requires g c = in_room (record { walk = InWait c.args.wait (InLeaving c.args.cause AwaitWakeToLeave); sleeps = record { loads = refl; free = refl; rests = refl }; at = slept g (goal.at.await_flag-flag-requires g c).After-put_back c.if-stood.false })

pub returns : goal.returns
returns g c = record {
  ended = taken_ended c.args.wait.on c.args.cause c.await_flag-flag.result c.outcome_taken.result c.outcome_taken.ensures;
  left = record {
    since = gone_then None _ _ _ (since_back g (goal.at.returns g c).After-put_back) c.await_flag-flag.ensures.since;
    so = let t = g.C.Condition.means in let flag = c.await_flag-flag.result in
        taken_next t c.args.wait c.args.cause flag c.outcome_taken.result c.arrival_of.result c.await_flag-flag.new.seat.me c.await_flag-flag.ensures.so.cleared c.outcome_taken.ensures c.arrival_of.ensures (c.await_flag-flag.ensures.so.woken (InWait c.args.wait (InLeaving c.args.cause AwaitWakeToLeave)) (record { loads = refl; free = refl; rests = refl }) (slept g (goal.at.returns g c).After-put_back c.if-stood.false));
  };
}

pub take-word-requires : goal.take-word-requires
take-word-requires g c = in_room (tt, (refl, c.requires.at))

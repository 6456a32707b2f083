use Rattle.std.proofs.Common.{false, Bool, None, Some, ap, cond, refl, rules, subst, sym, true, ◌∙◌, ◌≡◌}
use Rattle.ns_monitor.proofs.Prelude.{AwaitWakeInWait, Cause, Sleeps, Wait, Ended, Idle, IfEnded, InWait, LookOut, On, Outcome, Woken, in_room, is_limited}
use Rattle.ns_monitor.proofs.Bounds.{gone_then}
use Rattle.ns_monitor.proofs.Waits.{woken_next}
use Rattle.ns_monitor.proofs.waiting.await_in.Given.{Over}
use Rattle.ns_monitor.proofs.waiting.await_in.Goals as goal

-- a wait without limits sleeps at its flag
sleeps : (g : Over) (wait : Wait g.row.C.Denot) → is_limited wait.limits ≡ false → Sleeps g.row.N (InWait wait AwaitWakeInWait)
sleeps g wait none = record { loads = refl; free = refl; rests = ap (λ (b : Bool). cond b (On (InWait wait LookOut)) (Idle (InWait wait AwaitWakeInWait))) none }

pub returns-then-not-is_some : goal.returns-then-not-is_some
returns-then-not-is_some g c = record {
  looked = g.W.Watch.same c.args.watch.now;
  ended = search rules;
  comes = record { since = c.await_flag-flag.ensures.since; so = woken_next g.C.Condition.means c.args.wait c.await_flag-flag.result c.woken_by.result c.arrival_of.result c.await_flag-flag.new.seat.me c.await_flag-flag.ensures.so.cleared c.woken_by.ensures c.arrival_of.ensures (c.await_flag-flag.ensures.so.woken (InWait c.args.wait AwaitWakeInWait) (sleeps g c.args.wait (sym c.is_some.ensures ∙ c.if-not-is_some.true)) c.requires.at) };
}

pub returns-in-Ok : goal.returns-in-Ok
returns-in-Ok g c = let waits = c.await_or_end in let came = c.in-Ok.ensures.came.so in record {
  looked = waits.ensures.looked;
  ended = search rules;
  comes = record { since = waits.ensures.came.since; so = woken_next g.C.Condition.means c.args.wait c.in-Ok.flag c.woken_by-in-Ok.result c.arrival_of-in-Ok.result waits.new.seat.me came.cleared c.woken_by-in-Ok.ensures c.arrival_of-in-Ok.ensures came.woken };
}

pub leave-requires : goal.leave-requires
leave-requires g c = let waits = c.await_or_end in
    in_room (c.requires.range, c.in-Err.ensures.came.so)

pub await_or_end-requires : goal.await_or_end-requires
await_or_end-requires g c = in_room (sym c.is_some.ensures ∙ c.if-not-is_some.false, (c.requires.watches, c.requires.at))

-- what it left for is what was shown
shown : (so : Cause → Type 0) (cause : Cause) (outcome : Outcome) → IfEnded outcome (λ other. other ≡ cause) → so cause → IfEnded outcome so
shown so cause (Woken by) is met = tt
shown so cause (Ended other) is met = subst so (sym is) met

pub returns-in-Err : goal.returns-in-Err
returns-in-Err g c = record {
  looked = c.await_or_end.ensures.looked;
  comes = record { since = gone_then None _ _ _ c.await_or_end.ensures.came.since c.leave.ensures.left.since; so = c.leave.ensures.left.so };
  ended = let w = c.args.watch.now in let limits = c.args.wait.limits in
      shown (λ cause. (is_limited limits ≡ true) × g.W.Watch.shows w c.await_or_end.new.watch limits (Some cause)) c.in-Err.cause c.leave.result.1 c.leave.ensures.ended (sym c.is_some.ensures ∙ c.if-not-is_some.false, c.in-Err.ensures.ended);
}

pub await_flag-flag-requires : goal.await_flag-flag-requires
await_flag-flag-requires g c = in_room (record { walk = InWait c.args.wait AwaitWakeInWait; sleeps = sleeps g c.args.wait (sym c.is_some.ensures ∙ c.if-not-is_some.true); at = c.requires.at })

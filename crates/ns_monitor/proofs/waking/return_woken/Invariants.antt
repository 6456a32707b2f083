use Rattle.std.proofs.Common.{None, ◌≡◌}
use Rattle.ns_monitor.proofs.Prelude.{HasMadeSteps, HasWokenInHand, InSignal, IsAtPlace, IsPackable, WakeAndReturn, is_held, the}
use Rattle.ns_monitor.proofs.waking.return_woken.Given as goal

abbrev pub invariant-loop : goal.invariant-loop
invariant-loop g l =
    (goal.iterator-loop g).can_next l.iterator' × (goal.iterator-loop g).is_finite l.iterator' × IsPackable l.word
    × HasMadeSteps None l.fn.seat l.seat × ((the l.seat.me.0).stood ≡ (the l.fn.seat.me.0).stood)
    × IsAtPlace g.C.Condition.means (InSignal l.fn.call.waking l.fn.call.k (WakeAndReturn l.word)) l.seat.me × HasWokenInHand l.fn.call.waking l.fn.call.k (is_held l.word) l.turned l.seat.me

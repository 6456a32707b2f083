use Rattle.ns_monitor.proofs.Prelude.{HasReached, InSignal, None, arith, has_some, pay_woken, refl, in_room, number, sym, the, waiter_fits}
use Rattle.ns_gate.specs.Prelude.{PayTheWoken}
use Rattle.ns_word.specs.declared.request.Request.TheVariants as TheRequest
use Rattle.ns_monitor.proofs.Bounds.{gone_then}
use Rattle.ns_monitor.proofs.Wakes.{owes_sole, pays_woken}
use Rattle.ns_monitor.proofs.waking.wake_sole.Given.{Over}
use Rattle.ns_monitor.proofs.waking.wake_sole.Goals.{After-wake_by}
use Rattle.ns_monitor.proofs.waking.wake_sole.Goals as goal

pub return_woken-moved-requires : goal.return_woken-moved-requires
return_woken-moved-requires g c = in_room c.requires

-- it stands where it pays what it owes
stands : (g : Over) (c : After-wake_by g) → HasReached g.C.Condition.means (TheRequest.Wake c.args.call.waking c.args.call.k) (pay_woken c.args.call.waking c.args.call.k (has_some (the c.return_woken-moved.new.seat.me.0).at.owed)) c.return_woken-moved.new.seat.me
stands g c = pays_woken g.C.Condition.means c.args.call.waking c.args.call.k c.return_woken-moved.result (the c.args.seat.now.me.0).stood c.return_woken-moved.new.seat.me c.return_woken-moved.ensures.so

pub pay_one-requires : goal.pay_one-requires
pay_one-requires g c = in_room (record { walk = InSignal c.args.call.waking c.args.call.k PayTheWoken; pays = record { pays = refl; free = refl; more = refl }; at = stands g (goal.at.pay_one-requires g c).After-wake_by }, owes_sole g.C.Condition.means c.args.call.waking c.args.call.k c.return_woken-moved.result (the c.args.seat.now.me.0).stood c.args.sole c.wake_by.result c.return_woken-moved.new.seat.me (sym c.requires.taken) c.if-not-moved.true c.wake_by.ensures c.return_woken-moved.ensures.so)

pub returns-then-not-moved : goal.returns-then-not-moved
returns-then-not-moved g c = record { since = gone_then None _ _ _ c.return_woken-moved.ensures.since c.pay_one.ensures.since; so = c.pay_one.ensures.so.paid (InSignal c.args.call.waking c.args.call.k PayTheWoken) (record { pays = refl; free = refl; more = refl }) (stands g (goal.at.returns-then-not-moved g c).After-wake_by) }

pub shared_whole_as_slice-return_woken : goal.shared_whole_as_slice-return_woken
shared_whole_as_slice-return_woken g c = let one = waiter_fits g.row.C (number g.row.N) g.met.C.Condition.has_room in omega (arith, one)

use Rattle.std.proofs.Common.{None, arith, drop, get_or, sym, ◌+◌, ◌∙◌, ◌≡◌}
use Rattle.ns_monitor.proofs.Prelude.{Owed, PayWake, can_go, drop_all, drop_more, in_room, Walk, HasReached, Pays, Paid, asked_of, got_of, has_some, the}
use Rattle.ns_monitor.proofs.Bounds.{gone_by, gone_itself, gone_then}
use Rattle.ns_monitor.proofs.SeveralWaits.{true_now}
use Rattle.ns_monitor.proofs.Standing.{all_paid, can_pay, is_paid, owes_next}
use Rattle.ns_monitor.proofs.loops.pay.Given.{Over}
use Rattle.ns_monitor.proofs.loops.pay.Goals.{After-pay_wake}
use Rattle.ns_monitor.proofs.loops.pay.Goals as goal

-- none but a default
abbrev none : Owed
none = record { seat = 0; value = 0 }

pub loop-wake-init : goal.loop-wake-init
loop-wake-init g c = (c.requires.owed ∙ sym c.as_slice-wake-items.ensures.value, gone_itself c.args.seat.now, (λ walk pays at. at), λ t. t)

pub pay_wake-requires : goal.pay_wake-requires
pay_wake-requires g c = let t = g.C.Condition.means in let inv = c.loop-wake.invariant in let i = c.loop-wake.wake-index in let items = c.as_slice-wake-items.result.now in
    let some = inv.0 ∙ drop_more items i none c.loop-wake-test.true in
    let stands = c.requires.at in let at = can_pay t stands.walk (get_or items i none) (drop (i + 1) items) c.loop-wake.seat.me stands.pays some (inv.2 stands.walk stands.pays stands.at) in
    in_room (owes_next t (get_or items i none) (drop (i + 1) items) c.loop-wake.seat.me some at.owes, can_go t stands.walk PayWake c.loop-wake.seat.me stands.pays.pays at)

-- its next wake is paid, wherever it stands
paid : (g : Over) (c : After-pay_wake g) (walk : Walk g.row.C.Denot) → Pays g.row.N walk → HasReached g.C.Condition.means (asked_of walk) (got_of g.row.N walk (Paid (has_some (the c.args.seat.now.me.0).at.owed))) c.args.seat.now.me →
    ((the c.pay_wake.new.self.me.0).at.owed ≡ drop (c.loop-wake.wake-index + 1) c.as_slice-wake-items.result.now) × HasReached g.C.Condition.means (asked_of walk) (got_of g.row.N walk (Paid (has_some (the c.pay_wake.new.self.me.0).at.owed))) c.pay_wake.new.self.me
paid g c walk pays led = let t = g.C.Condition.means in let inv = c.loop-wake.invariant in let i = c.loop-wake.wake-index in let items = c.as_slice-wake-items.result.now in let me = c.loop-wake.seat.me in
    let some = inv.0 ∙ drop_more items i none c.loop-wake-test.true in
    is_paid t walk (get_or items i none) (drop (i + 1) items) me c.pay_wake.new.self.me pays some (can_pay t walk (get_or items i none) (drop (i + 1) items) me pays some (inv.2 walk pays led)) c.pay_wake.ensures.by

pub loop-wake-preserved : goal.loop-wake-preserved
loop-wake-preserved g c = let after = (goal.at.loop-wake-preserved g c).After-pay_wake in let stands = c.requires.at in (
  (paid g after stands.walk stands.pays stands.at).0,
  gone_then None _ _ _ c.loop-wake.invariant.1 (gone_by c.pay_wake.ensures),
  (λ walk pays led. (paid g after walk pays led).1),
  λ seen. true_now g.C.Condition.means None PayWake _ c.loop-wake.seat.me c.pay_wake.new.self.me c.pay_wake.ensures.by,
)

pub returns : goal.returns
returns g c = record {
  since = c.loop-wake.invariant.1;
  so = record {
    paid = λ walk pays at. let inv = c.loop-wake.invariant in
        all_paid g.C.Condition.means walk c.loop-wake.seat.me (inv.0 ∙ drop_all c.loop-wake.wake-index c.as_slice-wake-items.result.now (omega arith)) (inv.2 walk pays at);
    true_to = c.loop-wake.invariant.3;
    none = c.loop-wake.invariant.0 ∙ drop_all c.loop-wake.wake-index c.as_slice-wake-items.result.now (omega arith);
  };
}

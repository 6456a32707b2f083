use Rattle.std.proofs.Common.{None, [], ◌≡◌}
use Rattle.ns_monitor.proofs.Prelude.{HasReached, Paid, PayWake, asked_of, can_go, got_of, has_some, in_room, Walk, Pays, the}
use Rattle.ns_monitor.proofs.Bounds.{gone_by}
use Rattle.ns_monitor.proofs.SeveralWaits.{true_now}
use Rattle.ns_monitor.proofs.Standing.{all_paid, can_pay, is_paid, owes_next}
use Rattle.ns_monitor.proofs.loops.pay_one.Given.{Over}
use Rattle.ns_monitor.proofs.loops.pay_one.Goals.{After-pay_wake}
use Rattle.ns_monitor.proofs.loops.pay_one.Goals as goal

pub pay_wake-requires : goal.pay_wake-requires
pay_wake-requires g c = let t = g.C.Condition.means in let me = c.args.seat.now.me in let stands = c.requires.at in
    let at = can_pay t stands.walk c.args.wake [] me stands.pays c.requires.owed stands.at in
    in_room (owes_next t c.args.wake [] me c.requires.owed at.owes, can_go t stands.walk PayWake me stands.pays.pays at)

-- its wake is paid, wherever it stands
paid : (g : Over) (c : After-pay_wake g) (walk : Walk g.row.C.Denot) → Pays g.row.N walk → HasReached g.C.Condition.means (asked_of walk) (got_of g.row.N walk (Paid (has_some (the c.args.seat.now.me.0).at.owed))) c.args.seat.now.me →
    ((the c.pay_wake.new.self.me.0).at.owed ≡ []) × HasReached g.C.Condition.means (asked_of walk) (got_of g.row.N walk (Paid (has_some (the c.pay_wake.new.self.me.0).at.owed))) c.pay_wake.new.self.me
paid g c walk pays led = let t = g.C.Condition.means in let me = c.args.seat.now.me in is_paid t walk c.args.wake [] me c.pay_wake.new.self.me pays c.requires.owed (can_pay t walk c.args.wake [] me pays c.requires.owed led) c.pay_wake.ensures.by

pub returns : goal.returns
returns g c = let t = g.C.Condition.means in let now = c.pay_wake.new.self.me in let stands = c.requires.at in let after = (goal.at.returns g c).After-pay_wake in record {
  since = gone_by c.pay_wake.ensures;
  so = record {
    paid = λ walk pays led. all_paid t walk now (paid g after walk pays led).0 (paid g after walk pays led).1;
    true_to = λ seen. true_now t None PayWake _ c.args.seat.now.me now c.pay_wake.ensures.by;
    none = (paid g after stands.walk stands.pays stands.at).0;
  };
}

use Rattle.std.proofs.Common.{List, None, ap, arith, subst, sym, ◌∙◌, ◌≡◌}
use Rattle.ns_monitor.proofs.Prelude.{Carries, GateView, HasMadeSteps, HasReached, Paid, ToWait, asked_of, bits_of, got_of, has_some, in_room, lists_scanned, paying_at, ready_at, the, works}
use Rattle.ns_monitor.proofs.Bounds.{gone_behind, gone_then, worked_then}
use Rattle.ns_monitor.proofs.Releases.{calls_few, finds_readers, hand_scanned, may_enter, owes_scanned, pay_scanned, pays_for, put_scanned, scanned_still, scans_in_hand, told_list, turned_writer}
use Rattle.ns_monitor.specs.Scans.{entered as entered_by}
use Rattle.ns_monitor.proofs.scanning.scan_and_return.Given.{Over}
use Rattle.ns_monitor.proofs.scanning.scan_and_return.Goals.{After-put_back}
use Rattle.ns_monitor.proofs.scanning.scan_and_return.Goals as goal

pub scan_and_wake-requires : goal.scan_and_wake-requires
scan_and_wake-requires g c = let look = c.scan_writer_in_hand in
    in_room (omega (arith, g.met.C.Condition.has_cells), finds_readers g.C.Condition.means (ToWait c.args.queuing) c.args.word c.args.row.now c.in-Err.sought c.args.seat.now.me look.new.self.me c.requires.word c.requires.may c.requires.ready look.ensures.worked.by c.in-Err.ensures.still (sym look.ensures.told ∙ c.in-Err.is))

pub returns-in-Err : goal.returns-in-Err
returns-in-Err g c = scanned_still g.C.Condition.means (ToWait c.args.queuing) _ _ _ c.scan_writer_in_hand.ensures.worked c.scan_and_wake.ensures

pub enter-turned-requires : goal.enter-turned-requires
enter-turned-requires g c = let t = g.C.Condition.means in let look = c.scan_writer_in_hand in
    in_room (may_enter t (ToWait c.args.queuing) c.args.row.now c.args.seat.now.me look.new.self.me c.requires.may look.ensures.worked.by c.in-Ok.ensures.lists)

pub put_back-requires : goal.put_back-requires
put_back-requires g c = let t = g.C.Condition.means in let look = c.scan_writer_in_hand in let me = c.args.seat.now.me in let entered = c.enter-turned in let now = entered.new.seat.me in
    let left = lists_scanned t c.args.row.now (the me.0).stood in let same = entered.ensures.worked.by ∙ look.ensures.worked.by in
    let turned = turned_writer t c.args.row.now c.in-Ok.told.0 c.in-Ok.told.1 (the me.0).stood (sym look.ensures.told ∙ c.in-Ok.is) in
    let seat = ap (λ (vs : List (GateView _ g.row.N)). (the vs).at.seat) look.ensures.worked.by in
    let carries = subst (λ n. Carries (entered_by (ToWait c.args.queuing) n left) now) seat (entered.ensures.lists left c.in-Ok.ensures.lists) in
    let bits = entered.ensures.bits left c.in-Ok.ensures.lists turned.1 ∙ ap (λ n. bits_of (entered_by (ToWait c.args.queuing) n left).lock) seat in
    let hand = hand_scanned t (ToWait c.args.queuing) c.args.word c.args.row.now entered.result me now c.requires.ready same carries (entered.ensures.some ∙ turned.0) bits in
    let put = put_scanned t (ToWait c.args.queuing) c.args.word entered.result now c.returning.result c.returning.ensures (works t (ready_at (ToWait c.args.queuing) c.args.word) me now c.requires.ready.at (scans_in_hand (ToWait c.args.queuing) c.args.word) same) hand in
    in_room (c.requires.word, (put.0, put.1))

-- the wake that was told is all that is owed
owed : (g : Over) (c : After-put_back g) → (the c.put_back.new.seat.me.0).at.owed ≡ told_list c.in-Ok.told.0
owed g c = let t = g.C.Condition.means in let look = c.scan_writer_in_hand in let entered = c.enter-turned in
    calls_few t (ready_at (ToWait c.args.queuing) c.args.word) c.args.row.now c.in-Ok.told.0 c.in-Ok.told.1 _ c.args.seat.now.me entered.new.seat.me c.requires.ready (entered.ensures.worked.by ∙ look.ensures.worked.by) (sym look.ensures.told ∙ c.in-Ok.is)
    (owes_scanned t (ToWait c.args.queuing) c.returning.result entered.new.seat.me (the c.put_back.new.seat.me.0).at.owed c.returning.ensures c.put_back.ensures.so.owes)

-- and the call stands where it pays it, if there is one
pays : (g : Over) (c : After-put_back g) → HasReached g.C.Condition.means (asked_of (paying_at (ToWait c.args.queuing))) (got_of g.row.N (paying_at (ToWait c.args.queuing)) (Paid (has_some (the c.put_back.new.seat.me.0).at.owed))) c.put_back.new.seat.me
pays g c = let t = g.C.Condition.means in let me = c.args.seat.now.me in let now = c.enter-turned.new.seat.me in
    pay_scanned t (ToWait c.args.queuing) c.args.word now c.put_back.new.seat.me c.returning.result c.returning.ensures (works t (ready_at (ToWait c.args.queuing) c.args.word) me now c.requires.ready.at (scans_in_hand (ToWait c.args.queuing) c.args.word) (c.enter-turned.ensures.worked.by ∙ c.scan_writer_in_hand.ensures.worked.by)) c.put_back.ensures.so

gone : (g : Over) (c : After-put_back g) → HasMadeSteps None c.args.seat.now c.put_back.new.seat
gone g c = gone_behind None _ _ _ (worked_then _ _ _ c.scan_writer_in_hand.ensures.worked c.enter-turned.ensures.worked) c.put_back.ensures.since

pub pay_one-requires : goal.pay_one-requires
pay_one-requires g c = let put = (goal.at.pay_one-requires g c).After-put_back in
    in_room (record { walk = paying_at (ToWait c.args.queuing); pays = pays_for g.row.N (ToWait c.args.queuing); at = pays g put }, owed g put ∙ ap told_list c.in-Some.is)

pub returns-in-Some : goal.returns-in-Some
returns-in-Some g c = let t = g.C.Condition.means in let e = c.pay_one.ensures in record {
  since = gone_then None _ _ _ (gone g (goal.at.returns-in-Some g c).After-put_back) e.since;
  paid = e.so.paid (paying_at (ToWait c.args.queuing)) (pays_for g.row.N (ToWait c.args.queuing)) (pays g (goal.at.returns-in-Some g c).After-put_back);
  none = e.so.none;
  true_to = e.so.true_to c.put_back.ensures.so.true_to;
}

pub returns-in_default : goal.returns-in_default
returns-in_default g c = let t = g.C.Condition.means in let put = (goal.at.returns-in_default g c).After-put_back in let none = ap told_list c.in_default.is in record {
  since = gone g put;
  paid = subst (λ ns. HasReached t (asked_of (paying_at (ToWait c.args.queuing))) (got_of g.row.N (paying_at (ToWait c.args.queuing)) (Paid (has_some ns))) c.put_back.new.seat.me) (owed g put ∙ none) (pays g put);
  none = owed g put ∙ none;
  true_to = c.put_back.ensures.so.true_to;
}

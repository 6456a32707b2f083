use Rattle.std.proofs.Common.{List, None, ap, not, rules, subst, sym, ◌∙◌}
use Rattle.ns_monitor.proofs.Prelude.{Carries, GateView, HasReached, Paid, as_many, asked_of, bits_of, called_by, got_of, has_some, in_room, lists_scanned, meets_at, paying_at, ready_at, the, woken_of, works}
use Rattle.ns_monitor.proofs.Bounds.{gone_behind, gone_then, worked_then}
use Rattle.ns_monitor.proofs.Releases.{calls_are, hand_scanned, may_enter, owes_scanned, pay_scanned, pays_for, put_scanned, scans_in_hand, took_some}
use Rattle.ns_monitor.specs.Scans.{entered as entered_by}
use Rattle.ns_monitor.proofs.scanning.scan_and_wake.Given.{Over}
use Rattle.ns_monitor.proofs.scanning.scan_and_wake.Goals.{After-put_back}
use Rattle.ns_monitor.proofs.scanning.scan_and_wake.Goals as goal

pub enter-turned-requires : goal.enter-turned-requires
enter-turned-requires g c = let t = g.C.Condition.means in let scan = c.scan_from_in_hand-scan in
    in_room (may_enter t c.args.scanning c.args.row.now c.args.seat.now.me scan.new.self.me c.requires.may scan.ensures.worked.by scan.ensures.lists)

pub put_back-requires : goal.put_back-requires
put_back-requires g c = let t = g.C.Condition.means in let scan = c.scan_from_in_hand-scan in let e = scan.ensures in let me = c.args.seat.now.me in let entered = c.enter-turned in let now = entered.new.seat.me in
    let left = lists_scanned t c.args.row.now (the me.0).stood in let same = entered.ensures.worked.by ∙ e.worked.by in
    let some = entered.ensures.some ∙ (ap not c.is_empty-some.ensures ∙ took_some (woken_of (meets_at t c.args.row.now) (the me.0).stood.lock) scan.result.0.woken.items e.woken) in
    let seat = ap (λ (vs : List (GateView _ g.row.N)). (the vs).at.seat) e.worked.by in
    let carries = subst (λ n. Carries (entered_by c.args.scanning n left) now) seat (entered.ensures.lists left e.lists) in
    let bits = entered.ensures.bits left e.lists e.bits ∙ ap (λ n. bits_of (entered_by c.args.scanning n left).lock) seat in
    let hand = hand_scanned t c.args.scanning c.args.word c.args.row.now entered.result me now c.requires.ready same carries some bits in
    let put = put_scanned t c.args.scanning c.args.word entered.result now c.returning.result c.returning.ensures (works t (ready_at c.args.scanning c.args.word) me now c.requires.ready.at (scans_in_hand c.args.scanning c.args.word) same) hand in
    in_room (c.requires.packs, (put.0, put.1))

-- it stands where it pays what it owes
pays : (g : Over) (c : After-put_back g) → HasReached g.C.Condition.means (asked_of (paying_at c.args.scanning)) (got_of g.row.N (paying_at c.args.scanning) (Paid (has_some (the c.put_back.new.seat.me.0).at.owed))) c.put_back.new.seat.me
pays g c = let t = g.C.Condition.means in let me = c.args.seat.now.me in let now = c.enter-turned.new.seat.me in
    pay_scanned t c.args.scanning c.args.word now c.put_back.new.seat.me c.returning.result c.returning.ensures (works t (ready_at c.args.scanning c.args.word) me now c.requires.ready.at (scans_in_hand c.args.scanning c.args.word) (c.enter-turned.ensures.worked.by ∙ c.scan_from_in_hand-scan.ensures.worked.by)) c.put_back.ensures.so

-- what is owed, and that its walk pays
pub pay-requires : goal.pay-requires
pay-requires g c = let t = g.C.Condition.means in let scan = c.scan_from_in_hand-scan in let e = c.put_back.ensures in let me = c.args.seat.now.me in let entered = c.enter-turned in let now = c.put_back.new.seat.me in
    let same = entered.ensures.worked.by ∙ scan.ensures.worked.by in
    let owed = owes_scanned t c.args.scanning c.returning.result entered.new.seat.me (the now.0).at.owed c.returning.ensures e.so.owes in
    let called = calls_are t (ready_at c.args.scanning c.args.word) c.args.row.now _ _ _ me entered.new.seat.me c.requires.ready same (c.called-owed.ensures ∙ (λ i. called_by (c.as_slice.ensures.value i) (c.as_slice-2.ensures.value i))) scan.ensures.woken scan.ensures.vias in
    in_room (record { walk = paying_at c.args.scanning; pays = pays_for g.row.N c.args.scanning; at = pays g (goal.at.pay-requires g c).After-put_back }, owed ∙ sym called)

pub called-owed-requires : goal.called-owed-requires
called-owed-requires g c = record { few = search rules; same = rw (c.as_slice.ensures.value, c.as_slice-2.ensures.value) (as_many _ _ _ c.scan_from_in_hand-scan.ensures.woken c.scan_from_in_hand-scan.ensures.vias) }

pub returns : goal.returns
returns g c = let t = g.C.Condition.means in let worked = worked_then _ _ _ c.scan_from_in_hand-scan.ensures.worked c.enter-turned.ensures.worked in record {
  since = gone_then None _ _ _ (gone_behind None _ _ _ worked c.put_back.ensures.since) c.pay.ensures.since;
  paid = c.pay.ensures.so.paid (paying_at c.args.scanning) (pays_for g.row.N c.args.scanning) (pays g (goal.at.returns g c).After-put_back);
  none = c.pay.ensures.so.none;
  true_to = c.pay.ensures.so.true_to c.put_back.ensures.so.true_to;
}

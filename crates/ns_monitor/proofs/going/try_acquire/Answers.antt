use Rattle.std.proofs.Common.{Some, false, sym, true, ◌∙◌}
use Rattle.ns_monitor.proofs.Prelude.{Acquire, AsFresh, ForLock, InTry, IsAtPlace, TryAcquire, can_go, come_by, in_room, trying}
use Rattle.ns_monitor.proofs.Bounds.{gone_by, gone_then}
use Rattle.ns_monitor.proofs.Callers.{is_tried, may_try, tried_behind, tries_by, wants_to_try}
use Rattle.ns_monitor.proofs.Standing.{loads_first}
use Rattle.ns_monitor.proofs.going.try_acquire.Goals as goal

pub begin_to_go-requires : goal.begin_to_go-requires
begin_to_go-requires g c = let t = g.C.Condition.means in let is = c.try_lock.ensures.first in
    in_room (tt, (may_try t c.args.mode c.try_lock.result c.args.seat.now.me is c.requires.rest c.requires.free, λ word may. wants_to_try t c.args.mode c.try_lock.result word is may))

pub returns-in_default : goal.returns-in_default
returns-in_default g c = let gone = tried_behind g.C.Condition.means c.args.mode c.try_lock.result c.args.seat.now.me c.begin_to_go.new.seat.me c.try_lock.ensures.first c.requires.rest c.in_default.ensures.by in record {
  since = come_by _ _ c.in_default.ensures (λ by. gone.1);
  so = gone.0;
}

pub returns-then-not-may_acquire : goal.returns-then-not-may_acquire
returns-then-not-may_acquire g c = let led = loads_first g.C.Condition.means (trying c.args.mode) c.try_lock.result c.in-Err.word c.args.seat.now.me c.begin_to_go.new.seat.me c.try_lock.ensures.first c.requires.rest c.in-Err.ensures.by.1 in record {
  since = come_by _ _ c.in-Err.ensures (λ by. led.1);
  so = tries_by g.C.Condition.means c.args.mode c.in-Err.word false c.begin_to_go.new.seat.me (sym c.may_acquire.ensures ∙ c.if-not-may_acquire.true) led.0;
}

pub exchange_to_acquire-requires : goal.exchange_to_acquire-requires
exchange_to_acquire-requires g c = let t = g.C.Condition.means in let mode = c.args.mode in let word = c.in-Err.word in let me = c.begin_to_go.new.seat.me in
    let led = loads_first t (trying mode) c.try_lock.result word c.args.seat.now.me me c.try_lock.ensures.first c.requires.rest c.in-Err.ensures.by.1 in
    let at : IsAtPlace t (InTry mode (TryAcquire word)) me = tries_by t mode word true me (sym c.may_acquire.ensures ∙ c.if-not-may_acquire.false) led.0 in
    in_room (c.in-Err.ensures.by.0, can_go t (InTry mode (TryAcquire word)) (Acquire (ForLock mode) AsFresh word) me (λ i. Acquire (ForLock mode) AsFresh word) at)

pub returns : goal.returns
returns g c = let t = g.C.Condition.means in let mode = c.args.mode in let word = c.in-Err.word in let me = c.begin_to_go.new.seat.me in let now = c.exchange_to_acquire.new.self.me in
    let led = loads_first t (trying mode) c.try_lock.result word c.args.seat.now.me me c.try_lock.ensures.first c.requires.rest c.in-Err.ensures.by.1 in
    let did = c.exchange_to_acquire.ensures.did.by in record {
      since = gone_then (Some (trying mode)) _ _ _ (come_by _ _ c.in-Err.ensures (λ by. led.1)) (gone_by c.exchange_to_acquire.ensures.did);
      so = is_tried t mode word c.exchange_to_acquire.result c.is_ok.result me now c.is_ok.ensures.value (tries_by t mode word true me (sym c.may_acquire.ensures ∙ c.if-not-may_acquire.false) led.0) did;
    }

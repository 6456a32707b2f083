use Rattle.std.proofs.Common.{None, subst, sym, ◌≡◌}
use Rattle.ns_monitor.proofs.Prelude.{CanStep, HasKeptItsQueues, IsAtPlace, Performed, PutsBack, Saw, Walk, returning_at, returning_of, act_returning, found_back, in_room, stays_itself, stays_through}
use Rattle.ns_monitor.proofs.Bounds.{gone_by, gone_itself, gone_then}
use Rattle.ns_monitor.proofs.SeveralWaits.{true_now}
use Rattle.ns_monitor.proofs.Standing.{can_put_back, hand_stays, is_back_for, misses_back}
use Rattle.ns_monitor.proofs.loops.put_back.Given.{Over}
use Rattle.ns_monitor.proofs.loops.put_back.Goals.{In-Err}
use Rattle.ns_monitor.proofs.loops.put_back.Goals as goal

pub loop-init : goal.loop-init
loop-init g c = (tt, tt, c.requires.word, gone_itself c.args.seat.now, stays_itself c.args.seat.now.me, λ walk puts is at. at)

pub exchange_to_return-requires : goal.exchange_to_return-requires
exchange_to_return-requires g c = let t = g.C.Condition.means in let inv = c.loop.invariant in let me = c.loop.seat.me in let last = c.loop.word in let at = c.requires.at in
    let hand = hand_stays t c.args.returning c.args.turned c.args.seat.now.me me inv.4 c.requires.hand in
    let can = subst (λ r. CanStep t None (act_returning r last) me) (sym at.is) (can_put_back t at.walk last me at.puts (inv.5 at.walk at.puts at.is at.at)) in
    in_room (inv.2, (can, hand last))

pub returns-in-Ok : goal.returns-in-Ok
returns-in-Ok g c = record {
  since = gone_then None _ _ _ c.loop.invariant.3 (gone_by c.in-Ok.ensures.did);
  so = record {
    returned = λ walk puts is at. let inv = c.loop.invariant in
        (is_back_for g.C.Condition.means c.args.returning walk c.args.first c.loop.word c.args.turned c.args.seat.now.me c.loop.seat.me c.exchange_to_return.new.self.me is puts (inv.5 walk puts is at) inv.4 c.requires.hand c.in-Ok.ensures.did.by).0;
    owes = let inv = c.loop.invariant in let at = c.requires.at in
        (is_back_for g.C.Condition.means c.args.returning at.walk c.args.first c.loop.word c.args.turned c.args.seat.now.me c.loop.seat.me c.exchange_to_return.new.self.me at.is at.puts (inv.5 at.walk at.puts at.is at.at) inv.4 c.requires.hand c.in-Ok.ensures.did.by).1;
    true_to = true_now g.C.Condition.means None (act_returning c.args.returning c.loop.word) (found_back g.C.Condition.means c.args.returning c.loop.word c.loop.seat.me) c.loop.seat.me c.exchange_to_return.new.self.me c.in-Ok.ensures.did.by;
  };
}

-- another step came between
again : (g : Over) (c : In-Err g) (walk : Walk g.row.C.Denot) → PutsBack walk → c.args.returning ≡ returning_of walk → IsAtPlace g.C.Condition.means (returning_at walk c.args.first) c.args.seat.now.me → IsAtPlace g.C.Condition.means (returning_at walk c.in-Err.other) c.exchange_to_return.new.self.me × HasKeptItsQueues c.loop.seat.me c.exchange_to_return.new.self.me
again g c walk puts is at = let t = g.C.Condition.means in let me = c.loop.seat.me in let now = c.exchange_to_return.new.self.me in
    misses_back t walk c.loop.word c.in-Err.other me now puts (c.loop.invariant.5 walk puts is at) (subst (λ r. Performed t None (act_returning r c.loop.word) (Saw c.in-Err.other) me now) is c.in-Err.ensures.did.by)

pub loop-preserved : goal.loop-preserved
loop-preserved g c = let t = g.C.Condition.means in let inv = c.loop.invariant in let me = c.loop.seat.me in let now = c.exchange_to_return.new.self.me in
    let miss = (goal.at.loop-preserved g c).In-Err in let at = c.requires.at in (
      tt,
      tt,
      c.in-Err.ensures.word,
      gone_then None _ _ _ inv.3 (gone_by c.in-Err.ensures.did),
      stays_through c.args.seat.now.me me now inv.4 (again g miss at.walk at.puts at.is at.at).1,
      λ walk puts is at. (again g miss walk puts is at).0,
    )

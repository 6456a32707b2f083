use Rattle.std.proofs.Common.{Some, false, refl, rules, subst, sym, true, ◌∙◌}
use Rattle.ns_monitor.proofs.Prelude.{CanStep, InShow, IsAtPlace, LoadWord, ShowLoad, TakeQueues, TakeToShow, ToChange, Walk, can_go, come_by, in_room, showing}
use Rattle.ns_monitor.proofs.Bounds.{gone_by, gone_then}
use Rattle.ns_monitor.proofs.Shows.{has_stood, loads_to_show, misses_to_show, shows_by, takes_to_show}
use Rattle.ns_monitor.proofs.Standing.{loads_first}
use Rattle.ns_monitor.proofs.showing.take_to_show.Given.{Over}
use Rattle.ns_monitor.proofs.showing.take_to_show.Goals.{In-Ok}
use Rattle.ns_monitor.proofs.showing.take_to_show.Goals as goal

pub loop-init : goal.loop-init
loop-init g c = let load = c.load-word in let led = loads_first g.C.Condition.means showing c.show.result load.result c.args.seat.now.me load.new.self.me c.show.ensures.first c.requires.rest load.ensures.did.by in
    (tt, tt, load.ensures.word, come_by _ _ load.ensures.did (λ did. led.1), led.0)

pub loop-preserved-then-spin : goal.loop-preserved-then-spin
loop-preserved-then-spin g c = let t = g.C.Condition.means in let inv = c.loop.invariant in let load = c.load-word-then-spin in let me = c.loop.seat.me in
    let shows = loads_to_show t load.result me load.new.self.me (shows_by t c.loop.word true me (sym c.spin.ensures ∙ c.if-spin.true) inv.4) load.ensures.did.by in
    (tt, tt, load.ensures.word, gone_then (Some showing) _ _ _ inv.3 (gone_by load.ensures.did), shows)

-- nobody has the queues
free : (g : Over) (c : In-Ok g) → IsAtPlace g.C.Condition.means (InShow (TakeToShow c.loop.word)) c.loop.seat.me
free g c = shows_by g.C.Condition.means c.loop.word false c.loop.seat.me (sym c.spin.ensures ∙ c.if-spin.false) c.loop.invariant.4

pub returns-in-Ok : goal.returns-in-Ok
returns-in-Ok g c = record {
  since = gone_then (Some showing) _ _ _ c.loop.invariant.3 (gone_by c.in-Ok.ensures.did);
  at = (takes_to_show g.C.Condition.means c.loop.word c.loop.seat.me c.exchange_to_take.new.self.me (free g (goal.at.returns-in-Ok g c).In-Ok) c.in-Ok.ensures.did.by).0;
  packs = search rules;
  taken = (takes_to_show g.C.Condition.means c.loop.word c.loop.seat.me c.exchange_to_take.new.self.me (free g (goal.at.returns-in-Ok g c).In-Ok) c.in-Ok.ensures.did.by).1;
  stood = has_stood g.C.Condition.means c.args.seat.now.gate c.exchange_to_take.new.self.gate c.loop.word c.args.seat.now.me c.loop.seat.me c.exchange_to_take.new.self.me c.loop.invariant.3.by (free g (goal.at.returns-in-Ok g c).In-Ok) c.in-Ok.ensures.did.by;
}

pub loop-preserved : goal.loop-preserved
loop-preserved g c = let t = g.C.Condition.means in let inv = c.loop.invariant in let tries = c.exchange_to_take in let me = c.loop.seat.me in let now = tries.new.self.me in let other = c.in-Err.other in
    let shows = misses_to_show t c.loop.word other me now (shows_by t c.loop.word false me (sym c.spin.ensures ∙ c.if-spin.false) inv.4) c.in-Err.ensures.did.by in
    (tt, tt, c.in-Err.ensures.word, gone_then (Some showing) _ _ _ inv.3 (gone_by c.in-Err.ensures.did), shows)

pub load-word-requires-then-spin : goal.load-word-requires-then-spin
load-word-requires-then-spin g c = let t = g.C.Condition.means in let inv = c.loop.invariant in let me = c.loop.seat.me in
    in_room (can_go t (InShow ShowLoad) LoadWord me refl (shows_by t c.loop.word true me (sym c.spin.ensures ∙ c.if-spin.true) inv.4))

pub exchange_to_take-requires : goal.exchange_to_take-requires
exchange_to_take-requires g c = let t = g.C.Condition.means in let inv = c.loop.invariant in let me = c.loop.seat.me in let word = c.loop.word in
    in_room (inv.2, can_go t (InShow (TakeToShow word)) (TakeQueues ToChange word) me refl (shows_by t word false me (sym c.spin.ensures ∙ c.if-spin.false) inv.4))

pub load-word-requires : goal.load-word-requires
load-word-requires g c = let t = g.C.Condition.means in let me = c.args.seat.now.me in let rest = c.requires.rest in
    let can = subst (λ (w : Walk g.row.C.Denot). CanStep t (Some w) LoadWord me) (sym c.show.ensures.first) (record { one = rest.one; may = (rest.over, tt, (tt, rest.settled)); walk = InShow ShowLoad; walks = refl; wants = refl }) in
    in_room can

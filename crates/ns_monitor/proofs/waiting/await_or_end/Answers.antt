use Rattle.std.proofs.Common.{None, Some, false, refl, rules, subst, ◌≡◌}
use Rattle.ns_monitor.proofs.Prelude.{HasMadeSteps, AwaitWakeInWait, Flag, InWait, IsAtPlace, LoadFlag, Look, LookOut, can_go, goes, in_room}
use Rattle.ns_monitor.proofs.Bounds.{gone_by, gone_itself, gone_then}
use Rattle.ns_monitor.proofs.Waits.{goes_to_leave, looks_out, waits_on}
use Rattle.ns_monitor.proofs.waiting.await_or_end.Given.{Over}
use Rattle.ns_monitor.proofs.waiting.await_or_end.Goals.{After-load_flag-flag}
use Rattle.ns_monitor.proofs.waiting.await_or_end.Goals as goal

pub loop-init : goal.loop-init
loop-init g c = (tt, tt, gone_itself c.args.seat.now, g.W.Watch.same c.args.watch.now, c.requires.at)

pub load_flag-flag-requires : goal.load_flag-flag-requires
load_flag-flag-requires g c = let t = g.C.Condition.means in let inv = c.loop.invariant in
    in_room (can_go t (InWait c.args.wait AwaitWakeInWait) LoadFlag c.loop.seat.me refl inv.4)

since_flag : (g : Over) (c : After-load_flag-flag g) → HasMadeSteps None c.args.seat.now c.load_flag-flag.new.self
since_flag g c = gone_then None _ _ _ c.loop.invariant.2 (gone_by c.load_flag-flag.ensures)

-- the flag is set
looking : (g : Over) (c : After-load_flag-flag g) → c.load_flag-flag.result ≡ 1 → IsAtPlace g.C.Condition.means (InWait c.args.wait LookOut) c.load_flag-flag.new.self.me
looking g c set = looks_out g.C.Condition.means c.args.wait c.load_flag-flag.result c.loop.seat.me c.load_flag-flag.new.self.me set c.requires.limited c.loop.invariant.4 c.load_flag-flag.ensures.by

pub returns-then-flag-ne1 : goal.returns-then-flag-ne1
returns-then-flag-ne1 g c = record {
  looked = c.loop.invariant.3;
  ended = search rules;
  came = record { since = since_flag g (goal.at.returns-then-flag-ne1 g c).After-load_flag-flag; so = record { cleared = c.if-flag-ne1.true; woken = goes g.C.Condition.means (InWait c.args.wait AwaitWakeInWait) LoadFlag (Flag c.load_flag-flag.result) _ c.loop.seat.me c.load_flag-flag.new.self.me c.loop.invariant.4 refl refl refl c.load_flag-flag.ensures.by } };
}

pub look-shown-requires : goal.look-shown-requires
look-shown-requires g c = record { watches = g.W.Watch.still c.args.watch.now c.loop.watch c.args.wait.limits c.loop.invariant.3 c.requires.watches }

pub look-requires : goal.look-requires
look-requires g c = let t = g.C.Condition.means in let me = c.load_flag-flag.new.self.me in let after = (goal.at.look-requires g c).After-load_flag-flag in
    let named = g.W.Watch.names c.loop.watch c.look-shown.new.self c.args.wait.limits c.look-shown.result (g.W.Watch.still c.args.watch.now c.loop.watch c.args.wait.limits c.loop.invariant.3 c.requires.watches) c.look-shown.ensures.shown in
    in_room (named, can_go t (InWait c.args.wait LookOut) (Look c.args.wait.limits false) me refl (looking g after c.if-flag-ne1.false))

pub returns-in-Some-shown : goal.returns-in-Some-shown
returns-in-Some-shown g c = record {
  looked = g.W.Watch.then c.args.watch.now c.loop.watch c.look-shown.new.self c.loop.invariant.3 c.look-shown.ensures.since;
  ended = g.W.Watch.later c.args.watch.now c.loop.watch c.look-shown.new.self c.args.wait.limits (Some c.in-Some-shown.cause) c.loop.invariant.3 (subst (g.W.Watch.shows c.loop.watch c.look-shown.new.self c.args.wait.limits) c.in-Some-shown.is c.look-shown.ensures.shown);
  came = record { since = gone_then None _ _ _ (since_flag g (goal.at.returns-in-Some-shown g c).After-load_flag-flag) (gone_by c.look.ensures); so = goes_to_leave g.C.Condition.means c.args.wait c.look-shown.result c.in-Some-shown.cause c.load_flag-flag.new.self.me c.look.new.self.me c.in-Some-shown.is (looking g (goal.at.returns-in-Some-shown g c).After-load_flag-flag c.if-flag-ne1.false) c.look.ensures.by };
}

pub loop-preserved : goal.loop-preserved
loop-preserved g c = let t = g.C.Condition.means in let me = c.load_flag-flag.new.self.me in let after = (goal.at.loop-preserved g c).After-load_flag-flag in (
  tt,
  tt,
  gone_then None _ _ _ (since_flag g after) (gone_by c.look.ensures),
  g.W.Watch.then c.args.watch.now c.loop.watch c.look-shown.new.self c.loop.invariant.3 c.look-shown.ensures.since,
  waits_on t c.args.wait c.look-shown.result me c.look.new.self.me c.in_default.is (looking g after c.if-flag-ne1.false) c.look.ensures.by,
)

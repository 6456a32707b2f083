use Rattle.std.proofs.Common.{None}
use Rattle.ns_monitor.proofs.Prelude.{HasMadeSteps, LoadFlag, can_go, in_room}
use Rattle.ns_monitor.proofs.Bounds.{gone_by, gone_itself, gone_then}
use Rattle.ns_monitor.proofs.Standing.{is_woken, sleeps_on}
use Rattle.ns_monitor.proofs.loops.await_flag.Given.{Over}
use Rattle.ns_monitor.proofs.loops.await_flag.Goals.{After-load_flag-flag}
use Rattle.ns_monitor.proofs.loops.await_flag.Goals as goal

pub loop-init : goal.loop-init
loop-init g c = (tt, tt, gone_itself c.args.seat.now, λ walk sleeps at. at)

pub load_flag-flag-requires : goal.load_flag-flag-requires
load_flag-flag-requires g c = let t = g.C.Condition.means in let stands = c.requires in
    in_room (can_go t stands.walk LoadFlag c.loop.seat.me stands.sleeps.loads (c.loop.invariant.3 stands.walk stands.sleeps stands.at))

since_now : (g : Over) (c : After-load_flag-flag g) → HasMadeSteps None c.args.seat.now c.load_flag-flag.new.self
since_now g c = gone_then None _ _ _ c.loop.invariant.2 (gone_by c.load_flag-flag.ensures)

pub returns-then-flag-ne1 : goal.returns-then-flag-ne1
returns-then-flag-ne1 g c = record {
  since = since_now g (goal.at.returns-then-flag-ne1 g c).After-load_flag-flag;
  so = record { cleared = c.if-flag-ne1.true; woken = λ walk sleeps at. is_woken g.C.Condition.means walk c.load_flag-flag.result c.loop.seat.me c.load_flag-flag.new.self.me sleeps (c.loop.invariant.3 walk sleeps at) c.load_flag-flag.ensures.by };
}

pub loop-preserved : goal.loop-preserved
loop-preserved g c = (
  tt,
  tt,
  since_now g (goal.at.loop-preserved g c).After-load_flag-flag,
  λ walk sleeps at. sleeps_on g.C.Condition.means walk c.load_flag-flag.result c.loop.seat.me c.load_flag-flag.new.self.me sleeps c.if-flag-ne1.false (c.loop.invariant.3 walk sleeps at) c.load_flag-flag.ensures.by,
)

use Rattle.std.proofs.Common.{None}
use Rattle.ns_monitor.proofs.Prelude.{HasMadeSteps, AcquireLoad, InAcquire, in_room}
use Rattle.ns_monitor.proofs.Bounds.{gone_by, gone_then}
use Rattle.ns_monitor.proofs.Standing.{can_load, loads}
use Rattle.ns_monitor.proofs.acquiring.acquire.Given.{Over}
use Rattle.ns_monitor.proofs.acquiring.acquire.Goals.{After-load-word}
use Rattle.ns_monitor.proofs.acquiring.acquire.Goals as goal

pub load-word-requires : goal.load-word-requires
load-word-requires g c = in_room (can_load g.C.Condition.means (InAcquire c.args.aim (AcquireLoad c.args.arrival)) c.args.seat.now.me tt c.requires.at)

since_load : (g : Over) (c : After-load-word g) → HasMadeSteps None c.args.seat.now c.load-word.new.self
since_load g c = gone_by c.load-word.ensures.did

pub acquire_on-requires : goal.acquire_on-requires
acquire_on-requires g c = let t = g.C.Condition.means in
    let loaded = loads t (InAcquire c.args.aim (AcquireLoad c.args.arrival)) c.load-word.result c.args.seat.now.me c.load-word.new.self.me tt c.requires.at c.load-word.ensures.did.by in
    in_room (c.load-word.ensures.word, loaded)

pub returns : goal.returns
returns g c = record {
  since = gone_then None _ _ _ (since_load g (goal.at.returns g c).After-load-word) c.acquire_on.ensures.since;
  so = c.acquire_on.ensures.so;
}

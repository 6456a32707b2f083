use Rattle.std.proofs.Common.{None, refl}
use Rattle.ns_monitor.proofs.Prelude.{AcquireLoad, InAcquire, in_room}
use Rattle.ns_monitor.proofs.Bounds.{gone_by, gone_itself, gone_then}
use Rattle.ns_monitor.proofs.Standing.{can_load, loads}
use Rattle.ns_monitor.proofs.acquiring.acquire_on.Goals as goal

pub loop-init : goal.loop-init
loop-init g c = (tt, tt, gone_itself c.args.seat.now, c.requires)

pub loop-preserved : goal.loop-preserved
loop-preserved g c = let t = g.C.Condition.means in let inv = c.loop.invariant in let me3 = c.queue-arrival.new.seat.me in let now = c.load-word.new.self.me in let walk = InAcquire c.args.aim (AcquireLoad c.queue-arrival.result) in let did = c.load-word.ensures.did.by in (
  tt,
  tt,
  gone_then None _ _ _ inv.2 (gone_then None _ _ _ c.go_or_take.ensures.since (gone_then None _ _ _ c.queue-arrival.ensures.since (gone_by c.load-word.ensures.did))),
  (c.load-word.ensures.word, loads t walk c.load-word.result me3 now tt c.queue-arrival.ensures.so did),
)

pub returns-in_default : goal.returns-in_default
returns-in_default g c = record { since = gone_then None _ _ _ c.loop.invariant.2 c.go_or_take.ensures.since; so = c.in_default.ensures.so.1 }

pub queue-arrival-requires : goal.queue-arrival-requires
queue-arrival-requires g c = let inv = c.loop.invariant in let came = c.in-Some-go_or_take.ensures.so in
    in_room (came.packs, (came.at, came.taken))

pub load-word-requires : goal.load-word-requires
load-word-requires g c =
    in_room (can_load g.C.Condition.means (InAcquire c.args.aim (AcquireLoad c.queue-arrival.result)) c.queue-arrival.new.seat.me tt c.queue-arrival.ensures.so)

pub go_or_take-requires : goal.go_or_take-requires
go_or_take-requires g c = let by = c.loop.invariant.3 in in_room (record { decides = tt; is = refl; packs = by.0; at = by.1 })

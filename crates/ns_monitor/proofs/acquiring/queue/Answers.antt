use Rattle.std.proofs.Common.{None, ap, refl, subst, sym}
use Rattle.ns_monitor.proofs.Prelude.{Arm, ArmFlag, AwaitWake, Changed, InAcquire, IsAtPlace, Queue, QueueSelf, can_go, in_room, works}
use Rattle.ns_monitor.proofs.Bounds.{gone_by, gone_then, gone_working}
use Rattle.ns_monitor.proofs.Locks.{HasArmed, arms, comes_to_acquire}
use Rattle.ns_monitor.proofs.Standing.{hand_by}
use Rattle.ns_monitor.proofs.acquiring.queue.Given.{Over}
use Rattle.ns_monitor.proofs.acquiring.queue.Goals.{After-arm_flag, After-tries-tries}
use Rattle.ns_monitor.proofs.acquiring.queue.Goals as goal

-- its flag is set
armed : (g : Over) (c : After-arm_flag g) → HasArmed g.C.Condition.means (InAcquire c.args.aim (Queue c.args.arrival c.args.word)) c.args.seat.now.me c.arm_flag.new.self.me
armed g c = arms g.C.Condition.means (InAcquire c.args.aim (Arm c.args.arrival c.args.word)) (InAcquire c.args.aim (Queue c.args.arrival c.args.word)) c.args.seat.now.me c.arm_flag.new.self.me refl refl refl refl c.requires.at c.requires.taken c.arm_flag.ensures.by

pub queue_in_hand-bits-requires : goal.queue_in_hand-bits-requires
queue_in_hand-bits-requires g c = let is = armed g (goal.at.queue_in_hand-bits-requires g c).After-arm_flag in in_room (is.taken, is.nowhere)

pub put_back-requires : goal.put_back-requires
put_back-requires g c = let t = g.C.Condition.means in let me1 = c.arm_flag.new.self.me in let queued = c.queue_in_hand-bits in let after = (goal.at.put_back-requires g c).After-arm_flag in let same = queued.ensures.worked.by in let mode = c.mode-mode.result in
    let hand = hand_by t (QueueSelf mode c.args.arrival) queued.result me1 queued.new.self.me same (λ last. refl) queued.ensures.lists queued.ensures.bits in
    let stands = works t (InAcquire c.args.aim (Queue c.args.arrival c.args.word)) me1 queued.new.self.me (armed g after).at refl same in
    in_room (c.requires.word, (record { walk = InAcquire c.args.aim (Queue c.args.arrival c.args.word); puts = tt; is = ap (λ m. Changed (QueueSelf m c.args.arrival)) c.mode-mode.ensures; at = stands }, hand))

-- the queues are back, and it waits
slept : (g : Over) (c : After-tries-tries g) → IsAtPlace g.C.Condition.means (InAcquire c.args.aim (Queue c.args.arrival c.args.word)) c.queue_in_hand-bits.new.self.me → IsAtPlace g.C.Condition.means (InAcquire c.args.aim (AwaitWake c.tries-tries.result)) c.put_back.new.seat.me
slept g c stands = subst (λ n. IsAtPlace g.C.Condition.means (InAcquire c.args.aim (AwaitWake n)) c.put_back.new.seat.me) (sym c.tries-tries.ensures)
    (c.put_back.ensures.so.returned (InAcquire c.args.aim (Queue c.args.arrival c.args.word)) tt (ap (λ m. Changed (QueueSelf m c.args.arrival)) c.mode-mode.ensures) stands)

pub returns : goal.returns
returns g c = record {
  since = gone_then None _ _ _ (gone_working None _ _ _ (gone_by c.arm_flag.ensures) c.queue_in_hand-bits.ensures.worked) (gone_then None _ _ _ c.put_back.ensures.since c.await_flag-flag.ensures.since);
  so = comes_to_acquire g.C.Condition.means c.args.aim c.tries-tries.result c.await_flag-flag.result c.arrival_of.result c.await_flag-flag.new.seat.me c.await_flag-flag.ensures.so.cleared c.arrival_of.ensures (c.await_flag-flag.ensures.so.woken (InAcquire c.args.aim (AwaitWake c.tries-tries.result)) (record { loads = refl; free = refl; rests = refl }) (slept g (goal.at.returns g c).After-tries-tries (works g.C.Condition.means (InAcquire c.args.aim (Queue c.args.arrival c.args.word)) c.arm_flag.new.self.me c.queue_in_hand-bits.new.self.me (armed g (goal.at.returns g c).After-arm_flag).at refl c.queue_in_hand-bits.ensures.worked.by)));
}

pub arm_flag-requires : goal.arm_flag-requires
arm_flag-requires g c = let arming = InAcquire c.args.aim (Arm c.args.arrival c.args.word) in
    in_room (can_go g.C.Condition.means arming ArmFlag c.args.seat.now.me refl c.requires.at)

pub await_flag-flag-requires : goal.await_flag-flag-requires
await_flag-flag-requires g c = in_room (record { walk = InAcquire c.args.aim (AwaitWake c.tries-tries.result); sleeps = record { loads = refl; free = refl; rests = refl }; at = slept g (goal.at.await_flag-flag-requires g c).After-tries-tries (works g.C.Condition.means (InAcquire c.args.aim (Queue c.args.arrival c.args.word)) c.arm_flag.new.self.me c.queue_in_hand-bits.new.self.me (armed g (goal.at.await_flag-flag-requires g c).After-arm_flag).at refl c.queue_in_hand-bits.ensures.worked.by) })

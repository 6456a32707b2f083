use Rattle.std.proofs.Common.{Some, arith, subst, sym, ◌∙◌}
use Rattle.ns_monitor.proofs.Prelude.{HasLocked, TableId, Write, locking, since_then}
use Rattle.ns_monitor.proofs.Callers.{CameSo, LockedSo, came_at_once, locked_so}
use Rattle.ns_monitor.proofs.handle.Acting+Free+C+N.lock.Given.{Over}
use Rattle.ns_monitor.proofs.handle.Acting+Free+C+N.lock.Goals.{Joined-last, in-Some, in-None}
use Rattle.ns_monitor.proofs.handle.Acting+Free+C+N.lock.Goals as goal

-- the lock was acquired, at once or behind a wait, so the section is new
is_locked : (g : Over) (c : Joined-last g) → LockedSo g.C.Condition.means Write c.self.inside.caller c.begin_lock-seat.result.number (c.match-last.seat.table_id, c.match-last.seat.me)
is_locked g c = let t = g.C.Condition.means in let own = c.self.inside.monitor.now in let b = c.begin_lock-seat.ensures in let at = c.begin_lock-seat.result in let came = CameSo t (locking Write) own b.begun.was in
    locked_so t Write c.self.inside.caller own at.seat.table_id at.number at.seat.me (c.match-last.seat.table_id, c.match-last.seat.me) c.self.invariant b.begun (elim c.match-last.branch [
      | in-None w ↦ subst came (λ i. ((sym w.seat-is i).table_id, (sym w.seat-is i).me)) (came_at_once t (locking Write) c.self.inside.caller own at.seat.table_id at.number at.last at.seat.me w.in-None.is b.of b.begun b.went)
      | in-Some w ↦ let then = w.lock_slow-seat.ensures in subst came (λ i. ((sym w.seat-is i).table_id, (sym w.seat-is i).me)) (then.seat, since_then (Some (locking Write)) _ _ _ b.begun.since then.since, then.acquired)
    ])

pub holding-caller-requires : goal.holding-caller-requires
holding-caller-requires g c = let now = is_locked g (goal.at.holding-caller-requires g c).Joined-last in (omega arith, (omega arith, (omega arith, (now.0, now.1))))

pub returns : goal.returns
returns g c = rw (← c.self.view_is) (subst (HasLocked g.C.Condition.means (locking Write) Write c.self.inside.caller) (sym c.holding-caller.ensures) (is_locked g (goal.at.returns g c).Joined-last).2)

pub begin_lock-seat-requires : goal.begin_lock-seat-requires
begin_lock-seat-requires g c = (omega arith, (omega arith, (omega arith, c.self.invariant)))

pub lock_slow-seat-requires : goal.lock_slow-seat-requires
lock_slow-seat-requires g c = let b = c.begin_lock-seat.ensures in let went = rw c.in-Some.is at b.went in (omega arith, (omega arith, (omega arith, (b.of, (b.begun.own, went)))))

pub holding-caller-requires-room-H-Renewed : goal.holding-caller-requires-room-H-Renewed
holding-caller-requires-room-H-Renewed g c = λ κs lives. omega (arith, g.met.C.Condition.has_cells)

pub holding-caller-requires-room-H-Section : goal.holding-caller-requires-room-H-Section
holding-caller-requires-room-H-Section g c = λ κs lives. omega (arith, g.met.C.Condition.has_cells)

pub holding-caller-requires-room-H-Hand : goal.holding-caller-requires-room-H-Hand
holding-caller-requires-room-H-Hand g c = λ κs lives. omega (arith, g.met.C.Condition.has_cells)

pub invariant_of-result : goal.invariant_of-result
invariant_of-result g c = ◌∙◌ {A = TableId} (subst (HasLocked g.C.Condition.means (locking Write) Write c.self.inside.caller) (sym c.holding-caller.ensures) (is_locked g (goal.at.invariant_of-result g c).Joined-last).2).grows.monitor c.self.invariant

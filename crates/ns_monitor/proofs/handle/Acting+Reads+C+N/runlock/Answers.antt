use Rattle.std.proofs.Common.{Some, arith, refl, subst, sym, ◌∙◌}
use Rattle.ns_monitor.proofs.Prelude.{HasUnlocked, Reader, TableId, releasing_by, since_then}
use Rattle.ns_monitor.proofs.Callers.{CameSo, ReleasedSo, came_at_once, released_so}
use Rattle.ns_monitor.proofs.handle.Acting+Reads+C+N.runlock.Given.{Over}
use Rattle.ns_monitor.proofs.handle.Acting+Reads+C+N.runlock.Goals.{Joined-last, in-Some, in-None}
use Rattle.ns_monitor.proofs.handle.Acting+Reads+C+N.runlock.Goals as goal

-- the section was released, at once or behind a scan, so none is in hand
is_released : (g : Over) (c : Joined-last g) → ReleasedSo g.C.Condition.means Reader c.self.inside.caller c.begin_unlock-seat.result.number (c.match-last.seat.table_id, c.match-last.seat.me)
is_released g c = let t = g.C.Condition.means in let own = c.self.inside.monitor.now in let b = c.begin_unlock-seat.ensures in let at = c.begin_unlock-seat.result in let came = CameSo t (releasing_by Reader) own b.begun.was in
    released_so t Reader c.self.inside.caller own at.seat.table_id at.number at.seat.me (c.match-last.seat.table_id, c.match-last.seat.me) c.self.invariant b.begun (elim c.match-last.branch [
      | in-None w ↦ subst came (λ i. ((sym w.seat-is i).table_id, (sym w.seat-is i).me)) (came_at_once t (releasing_by Reader) c.self.inside.caller own at.seat.table_id at.number at.last at.seat.me w.in-None.is b.of b.begun b.went)
      | in-Some w ↦ let then = w.unlock_slow-seat.ensures in subst came (λ i. ((sym w.seat-is i).table_id, (sym w.seat-is i).me)) (then.seat, since_then (Some (releasing_by Reader)) _ _ _ b.begun.since then.since, then.released)
    ])

pub seated-caller-requires : goal.seated-caller-requires
seated-caller-requires g c = (omega arith, (omega arith, (omega arith, (is_released g (goal.at.seated-caller-requires g c).Joined-last).0)))

pub returns : goal.returns
returns g c = let over = subst (HasUnlocked g.C.Condition.means Reader c.self.inside.caller) (sym c.seated-caller.ensures) (is_released g (goal.at.returns g c).Joined-last).1 in rw (← c.self.view_is) record { grows = over.grows; mine = over.mine }

pub begin_unlock-seat-requires : goal.begin_unlock-seat-requires
begin_unlock-seat-requires g c = (omega arith, (omega arith, (omega arith, (c.self.invariant, (refl, tt)))))

pub unlock_slow-seat-requires : goal.unlock_slow-seat-requires
unlock_slow-seat-requires g c = let b = c.begin_unlock-seat.ensures in let went = rw c.in-Some.is at b.went in (omega arith, (omega arith, (omega arith, (b.of, (b.begun.own, went)))))

pub invariant_of-result : goal.invariant_of-result
invariant_of-result g c = ◌∙◌ {A = TableId} (subst (HasUnlocked g.C.Condition.means Reader c.self.inside.caller) (sym c.seated-caller.ensures) (is_released g (goal.at.invariant_of-result g c).Joined-last).1).grows.monitor c.self.invariant

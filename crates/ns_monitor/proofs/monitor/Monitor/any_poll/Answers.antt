use Rattle.std.proofs.Common.{None, Some, ap, false, refl, subst, ◌∙◌}
use Rattle.ns_monitor.proofs.Prelude.{Await, AwaitWakeInWait, ForWait, HasAcquired, HasAnswered, HasComeBackFromAny, InWait, Known, LoadFlag, Look, Looked, Performed, TableId, Wait, WaitKnown, WaitsStill, Woken, WokenBy, can_go, in_room, known_of, rules, waits_for_any}
use Rattle.ns_monitor.proofs.Bounds.{gone_by, gone_then}
use Rattle.ns_monitor.proofs.SeveralWaits.{has_come_back, still_waits, tells_still}
use Rattle.ns_monitor.proofs.monitor.Monitor.any_poll.Given.{Over}
use Rattle.ns_monitor.proofs.monitor.Monitor.any_poll.Goals.{After-acquire, After-look}
use Rattle.ns_monitor.proofs.monitor.Monitor.any_poll.Goals as goal

pub load_flag-flag-requires : goal.load_flag-flag-requires
load_flag-flag-requires g c = in_room (rw c.new-bound.ensures (can_go g.C.Condition.means (InWait (waits_for_any g.H.Section.mode c.waiting.inside.cvs) AwaitWakeInWait) LoadFlag c.waiting.inside.seat.me refl c.waiting.invariant.0.at))

-- the bound seat waits still
still : (g : Over) (c : After-look g) → WaitsStill g.C.Condition.means c.args.waiting (record { known = known_of c.look.new.self.gate c.look.new.self.me; cvs = c.waiting.inside.cvs })
still g c = let t = g.C.Condition.means in let mode = g.H.Section.mode in let cvs = c.waiting.inside.cvs in let s0 = c.waiting.inside.seat in let flag = c.load_flag-flag in let mid = flag.new.self in let new = c.look.new.self in
    let loads = rw c.new-bound.ensures at flag.ensures in
    let is = c.for_any-wait.ensures ∙ ap (λ m. waits_for_any {C = g.row.C.Denot} m cvs) c.mode-mode.ensures in
    let looks = subst (λ l. Performed t None (Look l false) (Looked None) mid.me new.me) (ap (λ (v : Wait g.row.C.Denot). v.limits) is) c.look.ensures.by in
    let waits = still_waits t mode cvs flag.result s0.me mid.me new.me c.if-flag-eq1.true c.waiting.invariant.0 loads.by looks in
    let same = ◌∙◌ {A = TableId} c.look.ensures.gate (◌∙◌ {A = TableId} loads.gate (ap (λ (k : WaitKnown _ _). k.known.monitor) c.waiting.view_is)) in
    tells_still t mode cvs c.args.waiting s0.table_id new.gate flag.result s0.me mid.me new.me c.waiting.view_is same c.if-flag-eq1.true c.waiting.invariant.0 waits.0 waits.1 loads.by looks

pub returns-then-flag-eq1-clause-still : goal.returns-then-flag-eq1-clause-still
returns-then-flag-eq1-clause-still g c = subst (λ (k : Known g.row.C.Denot g.row.N). WaitsStill g.C.Condition.means c.args.waiting (record { known = k; cvs = c.waiting.inside.cvs })) (search rules) (still g (goal.at.returns-then-flag-eq1-clause-still g c).After-look)

-- the bound seat has come back
back : (g : Over) (c : After-acquire g) → HasComeBackFromAny g.C.Condition.means g.H.Section.mode (Some c.variable_told-k.result) c.args.waiting (known_of c.acquire.new.seat.gate c.acquire.new.seat.me)
back g c = let t = g.C.Condition.means in let mode = g.H.Section.mode in let cvs = c.waiting.inside.cvs in let k = c.variable_told-k.result in let s0 = c.waiting.inside.seat in let new = c.acquire.new.seat in
    let loads = rw c.new-bound.ensures at c.load_flag-flag.ensures in let since = gone_then None _ _ _ (gone_by loads) c.acquire.ensures.since in
    let is = c.for_any-wait.ensures ∙ ap (λ m. waits_for_any m cvs) c.mode-mode.ensures in
    let answered : HasAnswered t (Await (waits_for_any mode cvs)) (WokenBy (Some k)) new.me = subst (λ (v : Wait g.row.C.Denot). HasAcquired t (ForWait v (Woken (Some k))) new.me) is c.acquire.ensures.so in
    has_come_back t mode cvs (Some k) c.args.waiting s0.table_id new.gate s0.me new.me c.waiting.view_is (◌∙◌ {A = TableId} since.gate (ap (λ (k : WaitKnown _ _). k.known.monitor) c.waiting.view_is)) c.waiting.invariant.0 since.by answered

pub returns-clause-woken : goal.returns-clause-woken
returns-clause-woken g c = rw c.holding.ensures (subst (λ (k : Known g.row.C.Denot g.row.N). HasComeBackFromAny g.C.Condition.means g.H.Section.mode (Some c.variable_told-k.result) c.args.waiting k) (search rules) (back g (goal.at.returns-clause-woken g c).After-acquire))

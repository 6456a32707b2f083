use Rattle.std.proofs.Common.{subst}
use Rattle.ns_monitor.proofs.Prelude.{HasWoken, Known, Signaling, rules, waking_by}
use Rattle.ns_monitor.proofs.Wakes.{has_woken}
use Rattle.ns_monitor.proofs.monitor.Monitor.signal.Goals as goal

pub returns-clause-woke : goal.returns-clause-woke
returns-clause-woke g c = let t = g.C.Condition.means in let k = c.args.k in let old = c.caller.inside.seat in let new = c.wake.new.seat in let since = rw c.new-seat.ensures at c.wake.ensures.since in
    subst (λ (now : Known g.row.C.Denot g.row.N). HasWoken Signaling k c.args.caller.now now) (search rules)
    (has_woken t (waking_by Signaling k) Signaling k c.args.caller.now old.table_id new.gate old.me new.me c.caller.view_is since.by c.wake.ensures.so)

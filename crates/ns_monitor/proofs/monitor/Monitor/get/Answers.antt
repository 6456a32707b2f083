use Rattle.std.proofs.Common.{ap, subst, ◌∙◌}
use Rattle.ns_monitor.proofs.Prelude.{HasSeenMore, Known, TableId, getting, known_of, rules}
use Rattle.ns_monitor.proofs.Callers.{is_got, saw_more}
use Rattle.ns_monitor.proofs.monitor.Monitor.get.Given.{Over}
use Rattle.ns_monitor.proofs.monitor.Monitor.get.Goals.{After-load_cell-value}
use Rattle.ns_monitor.proofs.monitor.Monitor.get.Goals as goal

-- the bound seat has seen more
saw : (g : Over) (c : After-load_cell-value g) → HasSeenMore g.C.Condition.means (getting c.args.i) c.args.held.now (known_of c.load_cell-value.new.self.gate c.load_cell-value.new.self.me)
saw g c = let t = g.C.Condition.means in let i = c.args.i in let old = c.held.inside.seat in let load = c.load_cell-value in let new = load.new.self in let did = rw c.new-seat.ensures at load.ensures in
    let a = is_got t i load.result c.get.result old.me new.me c.get.ensures.first c.held.invariant.0 did.by in
    saw_more t (getting i) c.args.held.now old.table_id new.gate old.me new.me c.held.view_is (◌∙◌ {A = TableId} did.gate (ap (λ (k : Known g.row.C.Denot g.row.N). k.monitor) c.held.view_is)) a.0.rest a.1 a.0.means.0

pub returns-clause-saw : goal.returns-clause-saw
returns-clause-saw g c = subst (λ (k : Known g.row.C.Denot g.row.N). HasSeenMore g.C.Condition.means (getting c.args.i) c.args.held.now k) (search rules) (saw g (goal.at.returns-clause-saw g c).After-load_cell-value)

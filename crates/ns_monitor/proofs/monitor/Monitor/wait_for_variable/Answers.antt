use Rattle.std.proofs.Common.{ap, subst, ◌∙◌}
use Rattle.ns_monitor.proofs.Prelude.{Answered, Await, Grows, HasAnswered, Known, TableId, answer_of_wait, known_of, queuing_first, rules, waits_for_variable}
use Rattle.ns_monitor.proofs.Callers.{grew}
use Rattle.ns_monitor.proofs.monitor.Monitor.wait_for_variable.Goals as goal

pub returns-clause-grows : goal.returns-clause-grows
returns-clause-grows g c = let t = g.C.Condition.means in let held = c.args.held in let waited = c.wait_at_variables-outcome in let new = waited.new.seat in let s0 = c.held.inside.seat in let since = rw c.new-bound.ensures at waited.ensures.acquired.since in
    let a : HasAnswered t (Await (waits_for_variable c.mode-mode.result c.args.k c.args.limits)) (Answered (answer_of_wait waited.result)) new.me = waited.ensures.acquired.so in
    rw c.holding.ensures (subst (λ (k : Known g.row.C.Denot g.row.N). Grows t (queuing_first (waits_for_variable g.H.Section.mode c.args.k c.args.limits)) held k) (search rules)
    (subst (λ m. Grows t (queuing_first (waits_for_variable m c.args.k c.args.limits)) held (known_of new.gate new.me)) c.mode-mode.ensures
    (grew t (queuing_first (waits_for_variable c.mode-mode.result c.args.k c.args.limits)) held s0.table_id new.gate s0.me new.me c.held.view_is (◌∙◌ {A = TableId} since.gate (ap (λ (k : Known _ _). k.monitor) c.held.view_is)) a.rest since.by)))

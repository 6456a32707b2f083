use Rattle.std.proofs.Common.{drop, ◌≡◌}
use Rattle.ns_counters.proofs.Prelude.{is_variable, list_any}
use Rattle.ns_counters.proofs.items.has_variable.Given as goal

abbrev pub invariant-loop-item : goal.invariant-loop-item
invariant-loop-item l = list_any is_variable (drop l.item-index l.fn.items) ≡ list_any is_variable l.fn.items

use Rattle.std.proofs.Common.{length, ◌-◌, ◌≡◌}
use Rattle.ns_monitor.proofs.Prelude.{AreNew, fresh}
use Rattle.ns_monitor.proofs.monitor.Monitor.new.Given as goal

abbrev pub invariant-loop-number : goal.invariant-loop-number
invariant-loop-number g l = (l.all.table_id ≡ l.initial.all.table_id) × (l.all.me.0 ≡ fresh l.seats l.number (l.seats - l.number)) × (length l.given.items ≡ l.number) × AreNew l.seats l.initial.all.table_id 0 l.given.items

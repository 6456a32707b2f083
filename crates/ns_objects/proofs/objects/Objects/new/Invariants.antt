use Rattle.std.proofs.Common.{length, ◌-◌, ◌≡◌}
use Rattle.ns_objects.proofs.Prelude.{AreNew, fresh, setup_of}
use Rattle.ns_objects.proofs.objects.Objects.new.Given as goal

abbrev pub invariant-loop-number : goal.invariant-loop-number
invariant-loop-number l = (l.rest.table_id ≡ l.initial.rest.table_id) × (l.rest.me.0 ≡ fresh (setup_of l.seats l.counters l.onces) l._number (l.seats - l._number)) × (length l.given.items ≡ l._number) × AreNew l.initial.rest.table_id (setup_of l.seats l.counters l.onces) 0 l.given.items

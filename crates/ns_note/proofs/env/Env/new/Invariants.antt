use Rattle.std.proofs.Common.{length, ◌-◌, ◌≡◌}
use Rattle.ns_note.proofs.Prelude.{AreNew, fresh}
use Rattle.ns_note.proofs.env.Env.new.Given as goal

abbrev pub invariant-loop-number : goal.invariant-loop-number
invariant-loop-number l = (l.rest.table_id ≡ l.initial.rest.table_id) × (l.rest.me.0 ≡ fresh l.seats l.number (l.seats - l.number)) × (length l.given.items ≡ l.number) × AreNew l.initial.rest.table_id l.seats 0 l.given.items

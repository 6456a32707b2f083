use Rattle.std.proofs.Common.{◌≡◌}
use Rattle.ns_objects.proofs.Prelude.{HasJudged, IsCounterWord}
use Rattle.ns_objects.proofs.objects.Objects.add_at.Given as goal

abbrev pub invariant-loop : goal.invariant-loop
invariant-loop g l = (goal.iterator-loop g).can_next l.iterator' × (goal.iterator-loop g).is_finite l.iterator' × (l.seat.table_id ≡ l.fn.seat.table_id) × IsCounterWord l.word × HasJudged l.fn.counter l.fn.delta l.word l.fn.seat.me l.seat.me

use Rattle.std.proofs.Common.{[], ◌≡◌}
use Rattle.ns_objects.proofs.Prelude.{Free, OneComes, stage, standing_in, the}
use Rattle.ns_objects.proofs.objects.Objects.begin_or_wait.Given as goal

abbrev pub invariant-loop : goal.invariant-loop
invariant-loop g l = (goal.iterator-loop g).can_next l.iterator' × (goal.iterator-loop g).is_finite l.iterator' × (l.seat.table_id ≡ l.fn.seat.table_id) × OneComes [] Free l.fn.seat.me l.seat.me × (l.found ≡ stage ((standing_in (the l.seat.me.0)).onces l.once))

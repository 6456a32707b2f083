use Rattle.std.proofs.Common.{fold, take, ◌≡◌}
use Rattle.ns_model.proofs.Prelude.{Unused, once_next}
use Rattle.ns_model.proofs.once.once_after.Given as goal

abbrev pub invariant-loop-event : goal.invariant-loop-event
invariant-loop-event l = l.state ≡ fold once_next Unused (take l.event-index l.history)

use Rattle.std.proofs.Common.{fold, take, ◌≡◌}
use Rattle.ns_model.proofs.Prelude.{counter_next, first_counter}
use Rattle.ns_model.proofs.counter.counter_after.Given as goal

abbrev pub invariant-loop-event : goal.invariant-loop-event
invariant-loop-event l = l.state ≡ fold counter_next (first_counter l.start) (take l.event-index l.history)

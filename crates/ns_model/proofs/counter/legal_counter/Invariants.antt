use Rattle.std.proofs.Common.{take, ◌≡◌}
use Rattle.ns_model.proofs.Prelude.{IsLegalCounter, counter_after}
use Rattle.ns_model.proofs.counter.legal_counter.Given as goal

abbrev pub invariant-loop-event : goal.invariant-loop-event
invariant-loop-event l = (l.now ≡ counter_after l.start (take l.event-index l.history)) × IsLegalCounter l.start (take l.event-index l.history)

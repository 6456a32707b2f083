use Rattle.std.proofs.Common.{take, ◌≡◌}
use Rattle.ns_model.proofs.Prelude.{IsLegalOnce, once_after}
use Rattle.ns_model.proofs.once.legal_once.Given as goal

abbrev pub invariant-loop-event : goal.invariant-loop-event
invariant-loop-event l = (l.now ≡ once_after (take l.event-index l.history)) × IsLegalOnce (take l.event-index l.history)

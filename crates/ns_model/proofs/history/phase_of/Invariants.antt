use Rattle.std.proofs.Common.{fold, take, ◌≡◌}
use Rattle.ns_model.proofs.Prelude.{Idle, phase_next}
use Rattle.ns_model.proofs.history.phase_of.Given as goal

abbrev pub invariant-loop-event : goal.invariant-loop-event
invariant-loop-event g l = l.phase ≡ fold (phase_next l.seat) Idle (take l.event-index l.history)

use Rattle.std.proofs.Common.{fold, replicate, take, ◌≡◌}
use Rattle.ns_model.proofs.Prelude.{row_next}
use Rattle.ns_model.proofs.history.row_after.Given as goal

abbrev pub invariant-loop-event : goal.invariant-loop-event
invariant-loop-event g l = l.row ≡ fold row_next (replicate g.row.N 0) (take l.event-index l.history)

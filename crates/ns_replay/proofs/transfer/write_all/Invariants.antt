use Rattle.std.proofs.Common.{List, false, length, ℕ, ◌++◌, ◌≡◌}
use Rattle.ns_replay.proofs.Prelude.{Appends, Counts}
use Rattle.ns_replay.proofs.transfer.write_all.Given as goal

abbrev pub invariant-loop-rest : goal.invariant-loop-rest
invariant-loop-rest g l = (done : List ℕ) × (l.fn.bytes ≡ done ++ l.rest) × Appends (g.W.Sink.taken l.fn.sink) (g.W.Sink.taken l.sink) done × (g.W.Sink.has_failed l.sink ≡ false) × Counts (g.W.Sink.stuck l.fn.sink) (g.W.Sink.stuck l.sink) 0

abbrev pub decreases-loop-rest : goal.decreases-loop-rest
decreases-loop-rest g l = length l.rest

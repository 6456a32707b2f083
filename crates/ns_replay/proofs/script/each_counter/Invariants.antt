use Rattle.std.proofs.Common.{drop, map, ◌≡◌}
use Rattle.ns_replay.proofs.Prelude.{counter_at, each_from, view}
use Rattle.ns_replay.proofs.Loop.{with_front}
use Rattle.ns_replay.proofs.script.each_counter.Given as goal

abbrev pub invariant-loop-number : goal.invariant-loop-number
invariant-loop-number l = with_front (l.starts.items) (each_from counter_at l.number (map view (drop l.number l.values))) ≡ each_from counter_at 0 (map view l.values)

use Rattle.std.proofs.Common.{drop, map, ◌≡◌}
use Rattle.ns_replay.proofs.Prelude.{calls_at, each_from, view}
use Rattle.ns_replay.proofs.Loop.{with_front}
use Rattle.ns_replay.proofs.script.each_thread.Given as goal

abbrev pub invariant-loop-thread : goal.invariant-loop-thread
invariant-loop-thread l = with_front (map (λ w. w.items) l.threads.items) (each_from (calls_at l.declared) l.thread (map view (drop l.thread l.values))) ≡ each_from (calls_at l.declared) 0 (map view l.values)

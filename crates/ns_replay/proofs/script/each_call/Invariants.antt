use Rattle.std.proofs.Common.{drop, map, ◌≡◌}
use Rattle.ns_replay.proofs.Prelude.{call_at, each_from, view}
use Rattle.ns_replay.proofs.Loop.{with_front}
use Rattle.ns_replay.proofs.script.each_call.Given as goal

abbrev pub invariant-loop-number : goal.invariant-loop-number
invariant-loop-number l = with_front (l.calls.items) (each_from (call_at l.declared l.thread) l.number (map view (drop l.number l.values))) ≡ each_from (call_at l.declared l.thread) 0 (map view l.values)

use Rattle.std.proofs.Common.{flat_map, string_bytes, ◌++◌, ◌≡◌}
use Rattle.ns_outcomes.proofs.Prelude.{is_in, range_with_len, thread_text}
use Rattle.ns_outcomes.proofs.outcome.push_threads.Given as goal

abbrev pub invariant-loop-thread : goal.invariant-loop-thread
invariant-loop-thread l = string_bytes l.out ≡ string_bytes l.fn.out ++ flat_map (thread_text (is_in l.busy) l.lines) (range_with_len 0 l.thread)

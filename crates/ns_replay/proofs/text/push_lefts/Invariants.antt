use Rattle.std.proofs.Common.{flat_map, string_bytes, ◌++◌, ◌≡◌}
use Rattle.ns_replay.proofs.Prelude.{is_in, left_text, range_with_len}
use Rattle.ns_replay.proofs.text.push_lefts.Given as goal

abbrev pub invariant-loop-thread : goal.invariant-loop-thread
invariant-loop-thread l = string_bytes l.out ≡ string_bytes l.fn.out ++ flat_map (left_text (is_in l.busy) l.lines) (range_with_len 0 l.thread)

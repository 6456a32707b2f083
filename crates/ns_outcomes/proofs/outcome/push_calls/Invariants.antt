use Rattle.std.proofs.Common.{flat_map, string_bytes, take, ◌++◌, ◌≡◌}
use Rattle.ns_outcomes.proofs.Prelude.{call_of_text}
use Rattle.ns_outcomes.proofs.outcome.push_calls.Given as goal

abbrev pub invariant-loop-line : goal.invariant-loop-line
invariant-loop-line l = string_bytes l.out ≡ string_bytes l.fn.out ++ flat_map (call_of_text l.thread) (take l.line-index l.lines)

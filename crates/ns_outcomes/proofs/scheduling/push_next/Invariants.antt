use Rattle.std.proofs.Common.{flat_map, string_bytes, take, ◌++◌, ◌≡◌}
use Rattle.ns_outcomes.proofs.Prelude.{next_text}
use Rattle.ns_outcomes.proofs.scheduling.push_next.Given as goal

abbrev pub invariant-loop-word : goal.invariant-loop-word
invariant-loop-word l = string_bytes l.out ≡ string_bytes l.fn.out ++ flat_map next_text (take l.word-index l.words)

use Rattle.std.proofs.Common.{string_bytes, take, ◌++◌, ◌≡◌}
use Rattle.ns_outcomes.proofs.Prelude.{blocks_text}
use Rattle.ns_outcomes.proofs.report.push_blocks.Given as goal

abbrev pub invariant-loop-before : goal.invariant-loop-before
invariant-loop-before l = string_bytes l.out ≡ string_bytes l.fn.out ++ blocks_text l.seeds.count 1 (take l.before l.found)

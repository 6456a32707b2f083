use Rattle.std.proofs.Common.{flat_map, string_bytes, take, ◌++◌, ◌≡◌}
use Rattle.ns_replay.proofs.Prelude.{after_comma}
use Rattle.ns_replay.proofs.text.push_more_numbers.Given as goal

abbrev pub invariant-loop-number : goal.invariant-loop-number
invariant-loop-number l = string_bytes l.out ≡ string_bytes l.fn.out ++ flat_map after_comma (take l.number-index l.numbers)

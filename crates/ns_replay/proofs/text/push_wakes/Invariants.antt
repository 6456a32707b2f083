use Rattle.std.proofs.Common.{flat_map, string_bytes, take, ◌++◌, ◌≡◌}
use Rattle.ns_replay.proofs.Prelude.{wake_text}
use Rattle.ns_replay.proofs.text.push_wakes.Given as goal

abbrev pub invariant-loop-wake : goal.invariant-loop-wake
invariant-loop-wake l = string_bytes l.out ≡ string_bytes l.fn.out ++ flat_map wake_text (take l.wake-index l.wakes)

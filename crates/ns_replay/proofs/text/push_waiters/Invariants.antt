use Rattle.std.proofs.Common.{flat_map, string_bytes, take, ◌++◌, ◌≡◌}
use Rattle.ns_replay.proofs.Prelude.{waiter_text}
use Rattle.ns_replay.proofs.text.push_waiters.Given as goal

abbrev pub invariant-loop-waiter : goal.invariant-loop-waiter
invariant-loop-waiter l = string_bytes l.out ≡ string_bytes l.fn.out ++ flat_map waiter_text (take l.waiter-index l.waiters)

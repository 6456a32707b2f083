use Rattle.std.proofs.Common.{◌≡◌, ◌++◌, take}
use Rattle.ns_timeline.specs.Escapes.{escaped}
use Rattle.ns_timeline.proofs.escaped.push_escaped.Given as goal

abbrev pub invariant-loop-byte : goal.invariant-loop-byte
invariant-loop-byte l = l.out.items ≡ l.fn.out.items ++ escaped (take l.byte-index l.text)

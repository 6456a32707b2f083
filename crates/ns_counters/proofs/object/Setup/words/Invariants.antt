use Rattle.std.proofs.Common.{replicate, take, ◌++◌, ◌-◌, ◌≡◌}
use Rattle.ns_counters.proofs.object.Setup.words.Given as goal

abbrev pub invariant-loop-i : goal.invariant-loop-i
invariant-loop-i l = l.words ≡ take l.i l.self.starts ++ replicate (32 - l.i) 0

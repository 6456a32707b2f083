use Rattle.std.proofs.Common.{take, ◌≡◌}
use Rattle.ns_word.proofs.Prelude.{called_by}
use Rattle.ns_word.proofs.owed.called.Given as goal

-- the wakes so far
abbrev pub invariant-loop-i : goal.invariant-loop-i
invariant-loop-i l = l.owed.items ≡ called_by (take l.i l.seats) (take l.i l.vias)

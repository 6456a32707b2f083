use Rattle.std.proofs.Common.{◌≡◌}
use Rattle.ns_note.proofs.env.Env.ring.Given as goal

abbrev pub invariant-loop-number : goal.invariant-loop-number
invariant-loop-number l = l.seat ≡ l.fn.seat

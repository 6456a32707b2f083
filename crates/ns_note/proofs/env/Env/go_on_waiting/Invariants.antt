use Rattle.std.proofs.Common.{◌≡◌}
use Rattle.ns_note.proofs.Prelude.{Grows}
use Rattle.ns_note.proofs.env.Env.go_on_waiting.Given as goal

abbrev pub invariant-loop : goal.invariant-loop
invariant-loop g l = (goal.iterator-loop g).can_next l.iterator' × (goal.iterator-loop g).is_finite l.iterator' × Grows l.fn.seat l.seat × (l.seat.mine ≡ l.fn.seat.mine)

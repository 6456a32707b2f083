use Rattle.std.proofs.Common.{◌++◌, ◌-◌, ◌≡◌}
use Rattle.ns_world.proofs.Prelude.{fresh_seats}
use Rattle.ns_world.proofs.seats.new_seats.Given as goal

-- those made so far, and those to come
abbrev pub invariant-loop-number : goal.invariant-loop-number
invariant-loop-number g l = l.made.items ++ fresh_seats l.number (l.seats - l.number) ≡ fresh_seats 0 l.seats

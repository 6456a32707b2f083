use Rattle.std.proofs.Common.{◌≡◌}
use Rattle.ns_counters.proofs.Prelude.{from_place}
use Rattle.ns_counters.proofs.round.Round.from_place.Given as goal

-- what is left leads where all does
abbrev pub invariant-loop-place : goal.invariant-loop-place
invariant-loop-place l = from_place l.self l.clock l.place ≡ from_place l.self l.clock l.at

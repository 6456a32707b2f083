use Rattle.std.proofs.Common.{drop, map, take, ◌++◌, ◌≡◌}
use Rattle.ns_outcomes.proofs.Prelude.{stirred}
use Rattle.ns_outcomes.proofs.standing.stir.Given as goal

abbrev pub invariant-loop-standing : goal.invariant-loop-standing
invariant-loop-standing l = l.standings ≡ map stirred (take l.standing-index l.fn.standings) ++ drop l.standing-index l.fn.standings

use Rattle.ns_outcomes.proofs.Prelude.{plan_of}
use Rattle.ns_outcomes.proofs.Tallies.{HaveRun}
use Rattle.ns_outcomes.proofs.counting.count_outcomes.Given as goal

abbrev pub invariant-loop-number : goal.invariant-loop-number
invariant-loop-number g l = HaveRun l.seeds.limit l.seeds.from l.number (plan_of l.script) l.counts l.turns

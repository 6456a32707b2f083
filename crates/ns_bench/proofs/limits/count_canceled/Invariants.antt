use Rattle.ns_model.specs.Environments.{IsMade}
use Rattle.ns_bench.proofs.limits.count_canceled.Given as goal

abbrev pub invariant-loop : goal.invariant-loop
invariant-loop g l = IsMade l.watcher.seen l.note.index

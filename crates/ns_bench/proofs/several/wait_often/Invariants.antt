use Rattle.ns_model.specs.Tallies.{Every}
use Rattle.ns_objects.specs.Any.{IsKnown}
use Rattle.ns_bench.proofs.several.wait_often.Given as goal

abbrev pub invariant-loop : goal.invariant-loop
invariant-loop g l = Every (IsKnown l.sharer l.watcher) l.items

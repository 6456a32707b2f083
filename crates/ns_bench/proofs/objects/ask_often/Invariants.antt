use Rattle.std.proofs.Common.{◌<◌}
use Rattle.ns_bench.proofs.objects.ask_often.Given as goal

abbrev pub invariant-loop : goal.invariant-loop
invariant-loop g l = (0 < l.sharer.setup.counters) × (0 < l.sharer.setup.cells)

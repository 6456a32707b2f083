use Rattle.std.proofs.Common.{◌<◌}
use Rattle.ns_bench.proofs.objects.count_down.Given as goal

abbrev pub invariant-loop : goal.invariant-loop
invariant-loop g l = 0 < l.sharer.setup.counters

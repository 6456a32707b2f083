use Rattle.std.proofs.Common.{◌≡◌}
use Rattle.ns_objects.proofs.Prelude.{EnvGrows, WaitHasBegun}
use Rattle.ns_objects.proofs.objects.Objects.counter_wait.Given as goal

abbrev pub invariant-loop : goal.invariant-loop
invariant-loop g l = (goal.iterator-loop g).can_next l.iterator' × (goal.iterator-loop g).is_finite l.iterator' × WaitHasBegun l.fn.counter l.value l.fn.seat l.seat × EnvGrows l.fn.watch l.watch × (l.watch.mine ≡ l.fn.watch.mine)

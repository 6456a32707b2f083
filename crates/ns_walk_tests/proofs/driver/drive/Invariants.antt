use Rattle.std.proofs.Common.{◌≡◌}
use Rattle.ns_env.specs.Nexts.{place_after}
use Rattle.ns_walk_tests.specs.Driving.{IsDriven}
use Rattle.ns_walk_tests.proofs.driver.drive.Given as goal

abbrev pub invariant-loop : goal.invariant-loop
invariant-loop g l = (l.seat.table_id ≡ l.fn.gate) × IsDriven g.C.Condition.means (place_after l.next) l.known l.seat.me

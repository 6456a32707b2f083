use Rattle.ns_monitor.proofs.Prelude.{in_room, refl}
use Rattle.ns_monitor.proofs.scanning.enter.Goals as goal

pub enter_in_hand-bits-requires : goal.enter_in_hand-bits-requires
enter_in_hand-bits-requires g c = let may = rw c.in-ToWait.is at c.requires in in_room (may.1, may.0)

pub returns-in-ToRelease-clause-worked : goal.returns-in-ToRelease-clause-worked
returns-in-ToRelease-clause-worked g c = record { gate = refl; lent = refl; by = refl }

use Rattle.std.proofs.Common.{false, true, ◌≡◌}
use Rattle.ns_monitor.proofs.Prelude.{in_room}
use Rattle.ns_monitor.proofs.going.exchange_to_go.Goals as goal

pub exchange_to_acquire-requires : goal.exchange_to_acquire-requires
exchange_to_acquire-requires g c =
    in_room (c.requires.last, rw c.in-Acquiring.is at c.requires.can)

pub exchange_to_release-requires : goal.exchange_to_release-requires
exchange_to_release-requires g c =
    in_room (c.requires.last, rw c.in-Leaving.is at c.requires.can)

pub unreachable-requires : goal.unreachable-requires
unreachable-requires g c = let may : false ≡ true = rw c.in-Changing.is at c.requires.may in cc

pub returns-in-Acquiring : goal.returns-in-Acquiring
returns-in-Acquiring g c = rw c.in-Acquiring.is c.exchange_to_acquire.ensures

pub returns-in-Leaving : goal.returns-in-Leaving
returns-in-Leaving g c = rw c.in-Leaving.is c.exchange_to_release.ensures

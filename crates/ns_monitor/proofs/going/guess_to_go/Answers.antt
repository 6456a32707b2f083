use Rattle.std.proofs.Common.{false, true, ◌≡◌}
use Rattle.ns_monitor.proofs.Prelude.{in_room}
use Rattle.ns_monitor.proofs.going.guess_to_go.Goals as goal

pub acquire_guessing-requires : goal.acquire_guessing-requires
acquire_guessing-requires g c =
    in_room (c.requires.guess, (c.requires.can, rw c.in-Acquiring.is at c.requires.next))

pub release_guessing-requires : goal.release_guessing-requires
release_guessing-requires g c =
    in_room (c.requires.can, rw c.in-Leaving.is at c.requires.next)

pub unreachable-requires : goal.unreachable-requires
unreachable-requires g c = let may : false ≡ true = rw c.in-Changing.is at c.requires.may in cc

pub returns-in-Acquiring : goal.returns-in-Acquiring
returns-in-Acquiring g c = rw c.in-Acquiring.is c.acquire_guessing.ensures

pub returns-in-Leaving : goal.returns-in-Leaving
returns-in-Leaving g c = rw c.in-Leaving.is c.release_guessing.ensures

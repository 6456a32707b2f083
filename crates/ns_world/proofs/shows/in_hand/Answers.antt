use Rattle.ns_world.proofs.Prelude.{arith}
use Rattle.ns_world.proofs.shows.in_hand.Goals as goal

pub change_in_hand-requires : goal.change_in_hand-requires
change_in_hand-requires g c = (g.met.C.Queueable.parts_fit.queues, (omega arith, (rw c.in-Some.is at c.requires.lists, (c.requires.below, rw c.copied-hand.ensures (rw c.in-Some.is at c.requires.free)))))

pub returns-in-Some : goal.returns-in-Some
returns-in-Some g c = rw c.in-Some.is (rw c.copied-hand.ensures at c.change_in_hand.ensures)

pub returns-in_default : goal.returns-in_default
returns-in_default g c = rw c.in_default.is c.copied-hand.ensures

pub copied-hand-requires : goal.copied-hand-requires
copied-hand-requires g c = g.met.C.Queueable.parts_fit.queues

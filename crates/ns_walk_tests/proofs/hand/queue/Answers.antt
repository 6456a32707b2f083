use Rattle.std.proofs.Common.{refl}
use Rattle.ns_gate.specs.Prelude.{QueueSelf}
use Rattle.ns_gate.specs.declared.queues.Returning.TheVariants.{Changed}
use Rattle.ns_walk_tests.proofs.Made.{made_of}
use Rattle.ns_walk_tests.proofs.hand.queue.Goals as goal

pub returns-clause-made : goal.returns-clause-made
returns-clause-made g c = let last = c.args._last in let e = c.queue_in_hand-bits.ensures in
    made_of g.C.Condition.means (Changed (QueueSelf c.args.mode c.args.arrival)) last _ c.args.seat.now.me c.queue_in_hand-bits.new.self.me e.worked.by (record { turned = record { carries = e.lists last; some = refl; bits = e.bits last }; finds = refl; owes = c.requires.owes })

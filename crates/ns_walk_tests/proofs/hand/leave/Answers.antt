use Rattle.std.proofs.Common.{ap, refl}
use Rattle.ns_gate.specs.Prelude.{LeaveSelf}
use Rattle.ns_gate.specs.declared.queues.Returning.TheVariants.{Changed}
use Rattle.ns_word.specs.declared.act.Found.TheVariants.{Left}
use Rattle.ns_walk_tests.proofs.Made.{made_of}
use Rattle.ns_walk_tests.proofs.hand.leave.Goals as goal

pub returns-clause-made : goal.returns-clause-made
returns-clause-made g c = let last = c.args._last in let e = c.leave_in_hand-stood.ensures in
    made_of g.C.Condition.means (Changed (LeaveSelf c.args.home)) last _ c.args.seat.now.me c.leave_in_hand-stood.new.self.me e.worked.by (record { turned = record { carries = e.lists last; some = refl; bits = e.bits last }; finds = ap Left e.stood; owes = c.requires.owes })

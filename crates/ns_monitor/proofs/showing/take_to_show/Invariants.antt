use Rattle.std.proofs.Common.{Some}
use Rattle.ns_monitor.proofs.Prelude.{HasMadeSteps, HasReached, IsPackable, show_by, showing}
use Rattle.ns_word.specs.declared.request.Request.TheVariants as TheRequest
use Rattle.ns_monitor.proofs.showing.take_to_show.Given as goal

abbrev pub invariant-loop : goal.invariant-loop
invariant-loop g l =
    (goal.iterator-loop g).can_next l.iterator' × (goal.iterator-loop g).is_finite l.iterator' × IsPackable l.word
    × HasMadeSteps (Some showing) l.fn.seat l.seat × HasReached g.C.Condition.means TheRequest.Show (show_by l.word) l.seat.me

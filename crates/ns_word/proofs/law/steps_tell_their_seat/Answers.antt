use Rattle.ns_word.proofs.ToldAfter.{seat_step_tells}
use Rattle.ns_word.proofs.law.steps_tell_their_seat.Goals as goal

pub returns : goal.returns
returns g c = λ seats history old new view begun found commits told few step lawful was.
    seat_step_tells g.C.Condition.means g.met.C.Condition.has_cells.0 g.met.C.Condition.quiet_keeps seats history few old view begun found new commits step lawful told was

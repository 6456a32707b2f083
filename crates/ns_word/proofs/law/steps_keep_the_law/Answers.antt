use Rattle.ns_word.proofs.ToldAfter.{seat_steps_keep}
use Rattle.ns_word.proofs.law.steps_keep_the_law.Goals as goal

pub returns : goal.returns
returns g c = λ seats history old new view begun found commits few step lawful.
    seat_steps_keep g.C.Condition.means g.met.C.Condition.has_cells.0 g.met.C.Condition.quiet_keeps seats history few old view begun found new commits step lawful

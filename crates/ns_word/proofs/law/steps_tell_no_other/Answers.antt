use Rattle.ns_word.proofs.ToldAfter.{seat_step_by, told_there}
use Rattle.ns_word.proofs.law.steps_tell_no_other.Goals as goal

pub returns : goal.returns
returns g c = λ seats history old new view begun found commits other walk told step ne was.
    told_there g.C.Condition.means.holds seats history view.seat other walk commits told (seat_step_by g.C.Condition.means old view begun found new commits step) ne was

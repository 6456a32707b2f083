use Rattle.ns_word.proofs.Courses.{takes_on}
use Rattle.ns_word.proofs.call_law.steps_take_their_call_on.Goals as goal

pub returns : goal.returns
returns g c = λ seats history old new view found commits course step lawful so_far.
    takes_on g.row.C.Denot g.row.N g.C.Condition.means seats history old new view found commits course step lawful so_far

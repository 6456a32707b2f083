use Rattle.ns_word.proofs.Calls.{wakes_by_rule}
use Rattle.ns_word.proofs.call_law.wakes_take_whom_the_rule_takes.Goals as goal

pub returns : goal.returns
returns g c = λ seats history old new view found commits waking k step lawful asked.
    wakes_by_rule g.C.Condition.means seats history old new view found commits waking k step lawful asked

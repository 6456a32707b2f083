use Rattle.ns_word.proofs.Finds.{step_finds}
use Rattle.ns_word.proofs.law.steps_find_what_one_word_says.Goals as goal

pub returns : goal.returns
returns g c = λ seats history old new view found commits few step lawful other. step_finds g.C.Condition.means seats history old view found new commits few step lawful other

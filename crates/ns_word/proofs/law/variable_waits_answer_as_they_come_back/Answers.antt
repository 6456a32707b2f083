use Rattle.ns_word.proofs.Answers.{variable_answers_back}
use Rattle.ns_word.proofs.law.variable_waits_answer_as_they_come_back.Goals as goal

pub returns : goal.returns
returns g c = variable_answers_back g.C.Condition.means

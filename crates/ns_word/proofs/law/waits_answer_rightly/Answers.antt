use Rattle.ns_word.proofs.Answers.{answers_rightly}
use Rattle.ns_word.proofs.law.waits_answer_rightly.Goals as goal

pub returns : goal.returns
returns g c = answers_rightly g.C.Condition.means

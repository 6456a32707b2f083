use Rattle.ns_word.proofs.Kept.{kept_was_shown, answer_was_shown}
use Rattle.ns_word.proofs.law.early_answers_were_shown.Goals as goal

pub returns : goal.returns
returns g c = λ walk found cause. (kept_was_shown g.row.N walk found cause, answer_was_shown g.row.N walk found cause)
